-- The lines with an event show the replies to the guest's own events, rank by rank.
use Rattle.std.proofs.Common.{◌≡◌, ℕ, Bool, true, false, cond, List, [], ◌∷◌, ◌++◌, length, map, filter, Option, Some, None, refl, sym, ap, ◌∙◌, arith, subst}
use Rattle.history.specs.Places.{entry_at, before}
use Rattle.history.proofs.PlaceLemmas.{entry_at-now, entry_at-up, entry_at-in, before-all}
use Rattle.history.proofs.LegalLemmas.{before-skip, before_earlier}
use Rattle.place_laws.proofs.Places.{one_entry}
use Rattle.group_calls.specs.declared.member.MemberReply.{MemberReply}
use Rattle.group_calls.specs.declared.lone.LoneEvent.{LoneEvent}
use Rattle.group_calls.specs.declared.lone.LoneItem.{LoneItem}
use Rattle.group_calls.specs.MemberEntries.{MemberEntry}
use Rattle.group_calls.specs.Lone.{device_base, device_reply}
use Rattle.member_laws.specs.Own.{before_kill, cut, event_of, with_event, events, own}
use Rattle.member_laws.proofs.Ends.{before_kill_cut}
use Rattle.guest_lines.specs.Lines.{lone_words}
use Rattle.board_script.specs.Script.{Whole}
use Rattle.board_script.specs.Bounds.{IsScript}
use Rattle.journal.specs.Own.{is_guests, guest_places}
use Rattle.journal.specs.Journals.{Journal, IsLegalJournal, IsGuestOf}
use Rattle.journal.specs.Heads.{LineEvent, in_doubt, IsEventOf, AreEventsOf}
use Rattle.head_laws.proofs.Routed.{lives_are_routed}
use Rattle.answer_laws.proofs.Told.{each_has_head}
use Rattle.guest_laws.specs.Reads.{OwnItem, with_mark, marked_events, marked, ShowReplies, ReadsOwn}
use Rattle.guest_laws.proofs.Apart.{own_run}

-- ---- marks

abbrev unmark : List OwnItem → List LoneItem
unmark xs = map (λ x. x.item) xs

unmark_one : (b : Bool) (o : Option LoneEvent) (reply : MemberReply) (xs : List OwnItem) (ys : List LoneItem) → unmark xs ≡ ys → unmark (with_mark b o reply xs) ≡ with_event o reply ys
unmark_one b None reply xs ys is = is
unmark_one b (Some event) reply xs ys is = ap (λ (zs : List LoneItem). record { event = event; reply = device_reply event reply } ∷ zs) is

unmarked : (g : ℕ) (h : List MemberEntry) → unmark (marked_events g h) ≡ events g h
unmarked g [] = refl
unmarked g (e ∷ past) = unmark_one (is_guests g e.who e.call) (event_of g (device_base past) e.who e.call) e.reply (marked_events g past) (events g past) (unmarked g past)

pub marked_own : (g : ℕ) (h : List MemberEntry) → map (λ x. x.item) (marked g h) ≡ own g h
marked_own g h = unmarked g (before_kill h)

-- ---- the guest's own events

abbrev chosen : List OwnItem → List LoneItem
chosen xs = map (λ x. x.item) (filter (λ x. x.guests) xs)

not_chosen : (o : Option LoneEvent) (reply : MemberReply) (xs : List OwnItem) → chosen (with_mark false o reply xs) ≡ chosen xs
not_chosen None reply xs = refl
not_chosen (Some event) reply xs = refl

chosen_one : (o : Option LoneEvent) (event : LoneEvent) (reply : MemberReply) (xs : List OwnItem) → o ≡ Some event → chosen (with_mark true o reply xs) ≡ record { event = event; reply = device_reply event reply } ∷ chosen xs
chosen_one o event reply xs is = ap (λ (p : Option LoneEvent). chosen (with_mark true p reply xs)) is

-- ---- rank by rank

module _ (s : Whole) (j : Journal) (g : ℕ) where
  shows : (l : LineEvent) (e : MemberEntry) (past : List MemberEntry) → entry_at (length past) (j.member g) ≡ Some e → before (length past) (j.member g) ≡ past → IsEventOf s j g l (length past)
      → (event_of g (device_base past) e.who e.call ≡ Some l.event) × (in_doubt l ≡ false → l.shown ≡ lone_words l.what (device_reply l.event e.reply))
  shows l e past at is it =
      let same : it.entry ≡ e = one_entry (j.member g) (length past) (length past) it.entry e refl it.is_there at in (
        (λ i. event_of g (device_base (sym is i)) (sym same i).who (sym same i).call) ∙ it.same,
        λ sure. it.shown sure ∙ ap (λ (x : MemberEntry). lone_words l.what (device_reply l.event x.reply)) same,
      )

  -- each suffix's entries stand at their places
  abbrev IsSuffix : List MemberEntry → Type 0
  IsSuffix k = (p : ℕ) (e : MemberEntry) → entry_at p k ≡ Some e → (entry_at p (j.member g) ≡ Some e) × (before p (j.member g) ≡ before p k)

  shorter : (e : MemberEntry) (past : List MemberEntry) → IsSuffix (e ∷ past) → IsSuffix past
  shorter e past is p x at =
      let there = is p x (entry_at-up e past p x at) in
      let low = entry_at-in past p x at in
      (there.0, there.1 ∙ before-skip e past p (omega (arith, low)))

  top : (e : MemberEntry) (past : List MemberEntry) → IsSuffix (e ∷ past) → (entry_at (length past) (j.member g) ≡ Some e) × (before (length past) (j.member g) ≡ past)
  top e past is =
      let there = is (length past) e (entry_at-now e past) in
      (there.0, there.1 ∙ (before-skip e past (length past) (omega arith) ∙ before-all past (length past) (omega arith)))

  show_replies : (k : List MemberEntry) → IsSuffix k → (lines : List LineEvent) → AreEventsOf s j g lines (guest_places g k) → ShowReplies lines (chosen (marked_events g k))
  show_replies [] is [] are = tt
  show_replies [] is (l ∷ lines) are = absurd are
  show_replies (e ∷ past) is lines are = go (show_replies past (shorter e past is)) (is_guests g e.who e.call) lines are
    where
      here : (entry_at (length past) (j.member g) ≡ Some e) × (before (length past) (j.member g) ≡ past)
      here = top e past is

      go : ((lines : List LineEvent) → AreEventsOf s j g lines (guest_places g past) → ShowReplies lines (chosen (marked_events g past))) → (b : Bool) → (lines : List LineEvent)
          → AreEventsOf s j g lines (cond b (length past ∷ guest_places g past) (guest_places g past))
          → ShowReplies lines (chosen (with_mark b (event_of g (device_base past) e.who e.call) e.reply (marked_events g past)))
      go rest false lines are =
          subst (ShowReplies lines) (sym (not_chosen (event_of g (device_base past) e.who e.call) e.reply (marked_events g past))) (rest lines are)
      go rest true [] are = absurd are
      go rest true (l ∷ lines) are =
          let it = shows l e past here.0 here.1 are.0 in
          subst (ShowReplies (l ∷ lines)) (sym (chosen_one (event_of g (device_base past) e.who e.call) l.event e.reply (marked_events g past) it.0))
          (refl, it.1, rest lines are.1)

-- what stands before the cut stands in the history
before_suffix : (s : Whole) (j : Journal) (g : ℕ) → IsSuffix s j g (before_kill (j.member g))
before_suffix s j g p e at = go (before_earlier (j.member g) (cut (j.member g)))
  where
    k : List MemberEntry
    k = before_kill (j.member g)

    up : (more : List MemberEntry) (x : MemberEntry) → entry_at p k ≡ Some x → (entry_at p (more ++ k) ≡ Some x) × (before p (more ++ k) ≡ before p k)
    up [] x at = (at, refl)
    up (y ∷ more) x at =
        let rest = up more x at in
        let low = entry_at-in (more ++ k) p x rest.0 in
        (entry_at-up y (more ++ k) p x rest.0, before-skip y (more ++ k) p (omega (arith, low)) ∙ rest.1)

    go : (later : List MemberEntry) × (j.member g ≡ later ++ before (cut (j.member g)) (j.member g)) → (entry_at p (j.member g) ≡ Some e) × (before p (j.member g) ≡ before p k)
    go split =
        let whole : j.member g ≡ split.0 ++ k = split.1 ∙ ap (λ (l : List MemberEntry). split.0 ++ l) (sym (before_kill_cut (j.member g))) in
        let it = up split.0 e at in
        (ap (entry_at p) whole ∙ it.0, ap (before p) whole ∙ it.1)

pub reads_own : (s : Whole) (j : Journal) → IsScript s → IsLegalJournal s j → (g : ℕ) → IsGuestOf s g → ReadsOwn s j g
reads_own s j script legal g guest =
    let head = each_has_head s j script legal g guest in
    record {
      eventless = head.eventless;
      eventful = head.eventful;
      parted = head.parted;
      shown = show_replies s j g (before_kill (j.member g)) (before_suffix s j g) head.eventful head.events;
      replies = own_run _ g (j.member g) (legal.histories.member g) (lives_are_routed s j script legal g guest);
    }
