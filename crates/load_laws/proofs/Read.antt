-- What a guest reads of a common register are the bytes of the entry at the place of the line's event.
use Rattle.std.proofs.Common.{◌≡◌, ℕ, inl, inr, Bool, true, false, List, [], ◌∷◌, ◌++◌, Option, None, Some, refl, sym, ap, ◌∙◌, subst, true≢false}
use Rattle.std.specs.List.{list_any}
use Rattle.history.specs.Places.{entry_at, before}
use Rattle.history.specs.Legal.{never_quiet}
use Rattle.history.proofs.LegalLemmas.{legal_at}
use Rattle.place_laws.specs.Actors.{IsIn}
use Rattle.place_laws.proofs.Actors.{in_none, in_either}
use Rattle.place_laws.proofs.Places.{one_entry}
use Rattle.admin_wire.specs.declared.command.LegacyCmd.{LegacyCmd}
use Rattle.admin_wire.specs.declared.command.LegacyCmd.TheVariants.{CommonRead}
use Rattle.legacy_regs.specs.declared.accesses.Space.TheVariants.{Common}
use Rattle.legacy_regs.specs.Fields.{common_fields, is_in_one_field}
use Rattle.legacy_regs.specs.Accesses.{read_bytes}
use Rattle.group_calls.specs.declared.ask.Ask.TheVariants.{Queue, Member}
use Rattle.group_calls.specs.declared.queue.Tag.{Tag}
use Rattle.group_calls.specs.declared.queue.RingCall.TheVariants.{Post, Take}
use Rattle.group_calls.specs.declared.queue.RingReply.{RingReply}
use Rattle.group_calls.specs.declared.queue.RingReply.TheVariants.{Seq, Ready, Lost}
use Rattle.group_calls.specs.declared.member.MemberMade.{MemberMade}
use Rattle.group_calls.specs.declared.member.MemberCall.{MemberCall}
use Rattle.group_calls.specs.declared.member.MemberCall.TheVariants.{Act}
use Rattle.group_calls.specs.declared.member.MemberReply.{MemberReply}
use Rattle.group_calls.specs.declared.member.MemberReply.TheVariants.{Data}
use Rattle.group_calls.specs.declared.lone.LoneEvent.TheVariants.{Read as Reads}
use Rattle.group_calls.specs.Asks.{Exchange}
use Rattle.group_calls.specs.Queue.{Posted}
use Rattle.group_calls.specs.Facts.{facts}
use Rattle.group_calls.specs.MemberEntries.{MemberEntry}
use Rattle.group_calls.specs.Member.{member_answer, member_may, IsLegalMember}
use Rattle.group_calls.specs.Lone.{device_reply}
use Rattle.serve_machine.specs.declared.stage.Stage.TheVariants.{Ended}
use Rattle.member_laws.specs.Ends.{killed}
use Rattle.member_laws.specs.Own.{event_of as event_for, bar_access}
use Rattle.member_laws.specs.Replies.{is_access_reply}
use Rattle.member_laws.proofs.Lone.{living}
use Rattle.member_laws.proofs.Ends.{later_killed}
use Rattle.io_bar.specs.declared.access.Access.TheVariants.{Read}
use Rattle.io_bar.specs.declared.access.Route.TheVariants.{Command}
use Rattle.io_bar.specs.Route.{route_of}
use Rattle.vfio_driver.specs.declared.access.Answer.{Answer}
use Rattle.vfio_driver.specs.declared.access.Answer.TheVariants.{Data as ReadBack}
use Rattle.vfio_driver.specs.declared.access.Stage.TheVariants.{Taking}
use Rattle.vfio_driver.specs.Access.{is_read}
use Rattle.access_laws.specs.Shown.{Shows}
use Rattle.board_script.specs.declared.script.ActorLine.{ActorLine}
use Rattle.board_script.specs.declared.script.What.TheVariants as what
use Rattle.board_script.specs.Script.{Whole}
use Rattle.board_script.specs.Bounds.{IsScript}
use Rattle.journal.specs.Lines.{performs, made_of, kind_of, queue_used}
use Rattle.journal.specs.Doing.{accesses}
use Rattle.journal.specs.Performing.{Performed, msix_before, io_before, doing, is_over}
use Rattle.journal.specs.Answers.{answer_of}
use Rattle.journal.specs.Journals.{Journal, AreAsked, ArePerformed, AreBegun, IsLegalJournal, IsLegalSoFar, IsGuestOf}
use Rattle.journal.specs.Heads.{IsCarriedOut, StandsAt, asks_itself, has_posted, is_lost}
use Rattle.journal.specs.Texts.{bytes_read}
use Rattle.journal_laws.specs.Recorded.{of_queue, of_member}
use Rattle.journal_laws.specs.Once.{post}
use Rattle.journal_laws.specs.Taken.{is_given}
use Rattle.journal_laws.specs.Posted.{is_post, is_posted, is_seq, Accessing, access_in, route_in, command_post, known_floor, IsOpenAccess, IsWholeAccess, asks_nothing, rings, is_refused, is_taken_back}
use Rattle.journal_laws.specs.Order.{performing}
use Rattle.journal_laws.proofs.Parts.{same_head}
use Rattle.journal_laws.proofs.Traversal.{legal_so_far}
use Rattle.journal_laws.proofs.Posted.{accesses_whole}
use Rattle.journal_laws.proofs.Order.{line_asked, line_over, any_in, taken_one}
use Rattle.answer_laws.proofs.Carrying.{carried_entry}
use Rattle.answer_laws.proofs.Shown.{read_rings, answered_back}
use Rattle.load_run.specs.Load.{bytes_of}
use Rattle.load_laws.proofs.Silent.{living_fits}
use Rattle.load_laws.proofs.Registers.{goes_common, answers_bytes}

-- ---- a member that wasn't killed answers a register's read with its bytes

still_alive : (h : List MemberEntry) (place : ℕ) → killed h ≡ None → killed (before place h) ≡ None
still_alive h place alive = go (killed (before place h)) refl
  where
    go : (o : Option ℕ) → killed (before place h) ≡ o → killed (before place h) ≡ None
    go None is = is
    go (Some floor) is = let bad : Some floor ≡ None = sym (later_killed h place floor is) ∙ alive in absurd (cc)

pub replied_bytes : (made : MemberMade) (h : List MemberEntry) (place who offset count : ℕ) (reply : MemberReply) → IsLegalMember made h → killed h ≡ None → is_in_one_field (common_fields false) offset count ≡ true
    → entry_at place h ≡ Some (record { who = who; call = Act (CommonRead offset count); reply = reply }) → (bytes : List ℕ) × (reply ≡ Data bytes)
replied_bytes made h place who offset count reply legal alive register at =
    let past : List MemberEntry = before place h in
    let right = (legal_at (member_answer made) never_quiet (member_may made) h place _ legal at).0 in (
      read_bytes made.kind (facts made past).registers Common offset count,
      right ∙ (living made past (Act (CommonRead offset count)) (still_alive h place alive) ∙ answers_bytes offset count register made.kind (facts made past).registers),
    )

-- ---- the line

-- the bytes of an entry are what was read
abbrev IsReadAs : ℕ → Option Answer → MemberCall → MemberReply → Type 0
IsReadAs count answer call reply = bytes_read count answer ≡ bytes_of (record { who = 0; call = call; reply = reply })

same_command : (a b : LegacyCmd) → Command a ≡ Command b → a ≡ b
same_command a b e = cc

module _ (s : Whole) (j : Journal) (script : IsScript s) (legal : IsLegalJournal s j) (g : ℕ) (guest : IsGuestOf s g) (alive : killed (j.member g) ≡ None)
    (later lines : List Performed) (line : ActorLine) (asked : List Exchange) (stands : j.past g ≡ later ++ performing line asked ∷ lines) (sure : list_any is_lost asked ≡ false) (io : io_before lines ≡ true)
    (offset count : ℕ) (queue : Option ℕ) (once : Bool) (reads : line.what ≡ what.BarRead offset count queue once) (register : is_in_one_field (common_fields false) offset count ≡ true) where
  so : IsLegalSoFar s j
  so = legal_so_far s j legal

  line_part : AreAsked s g lines (performs line) asked
  line_part = line_asked s g later (performing line asked) lines (subst (λ (l : List Performed). AreBegun s g l) stands (so.begun g))

  line_whole : is_over s g lines (performing line asked) ≡ true
  line_whole = line_over s g later (performing line asked) lines (subst (λ (l : List Performed). ArePerformed s g l) stands (legal.performed g))

  abbrev accessing : Accessing
  accessing = record { access = Read offset count; queue = queue; once = once }

  whole : IsWholeAccess s g lines line (queue_used s g queue) once (route_in s g lines (Read offset count)) asked
  whole = accesses_whole s g lines line asked accessing (ap access_in reads) line_part line_whole

  goes : route_in s g lines (Read offset count) ≡ Command (CommonRead offset count)
  goes = ap (λ (b : Bool). route_of (kind_of s g) (msix_before lines) b (Read offset count)) io ∙ goes_common offset count register (kind_of s g) (msix_before lines)

  abbrev answer_here : Option Answer
  answer_here = answer_of s g lines (performing line asked)

  -- ---- not by its own ask

  not_itself : (place floor : ℕ) (call : MemberCall) (reply : MemberReply) → asked ≡ of_member g floor place call reply ∷ [] → IsWholeAccess s g lines line (queue_used s g queue) once (route_in s g lines (Read offset count)) asked → ⊥
  not_itself place floor call reply alone (asks_nothing none why) = in_none (of_member g floor place call reply) (record { later = []; earlier = []; is = sym none ∙ alone })
  not_itself place floor call reply alone (rings number x one there rung asks now) = read_rings (kind_of s g) (msix_before lines) (io_before lines) offset count number rung
  not_itself place floor call reply alone (is_refused command x rest one there goes asks unposted none now) =
      let same : x ≡ of_member g floor place call reply = same_head x (of_member g floor place call reply) rest [] (sym one ∙ alone) in
      let bad : command_post g (queue_used s g queue) (known_floor g lines rest) command ≡ Member g floor call = sym asks ∙ ap (λ (z : Exchange). z.0) same in
      absurd (cc)
  not_itself place floor call reply alone (is_taken_back command number there told rest one present goes given opens now) =
      let same = same_head (of_queue (queue_used s g queue) there (Take number) told) (of_member g floor place call reply) rest [] (sym one ∙ alone) in
      let bad : Queue (queue_used s g queue) (Take number) ≡ Member g floor call = ap (λ (z : Exchange). z.0) same in
      absurd (cc)

  -- ---- by a command

  module _ (place k seq : ℕ) (c : IsCarriedOut j g k seq place) (base : ℕ) (event : bar_access base c.access ≡ Some (Reads offset count)) where
    at : entry_at place (j.member g) ≡ Some (record { who = c.by; call = Act c.access; reply = c.reply })
    at = carried_entry s j script so g guest g k seq place c

    fits : is_access_reply c.access c.reply ≡ true
    fits = living_fits (made_of s g) (j.member g) place _ (so.histories.member g) alive at

    shown_bytes : (answer : Answer) → answer_here ≡ Some answer → c.access ≡ CommonRead offset count → Shows (device_reply (Reads offset count) c.reply) answer → IsReadAs count answer_here (Act c.access) c.reply
    shown_bytes answer answered access shows =
        let it = replied_bytes (made_of s g) (j.member g) place c.by offset count c.reply (so.histories.member g) alive register (at ∙ ap (λ (a : LegacyCmd). Some (record { who = c.by; call = Act a; reply = c.reply })) access) in
        let read : answer ≡ ReadBack it.0 = subst (λ (r : MemberReply). Shows (device_reply (Reads offset count) r) answer) it.1 shows in
        ap (bytes_read count) (answered ∙ ap Some read) ∙ sym (ap (λ (r : MemberReply). bytes_of (record { who = 0; call = Act c.access; reply = r })) it.1)

    given_bytes : (there : ℕ) (told : RingReply) (rest : List Exchange) (command : LegacyCmd) → asked ≡ of_queue k there (Take seq) told ∷ rest → is_given told ≡ true → IsOpenAccess g lines k command seq rest → command ≡ CommonRead offset count
        → doing s g lines (performs line) rest ≡ accesses k once (Taking k seq (is_read command)) Ended → IsReadAs count answer_here (Act c.access) c.reply
    given_bytes there (Ready bytes floor) rest command one given opens same now =
        let it = answered_back s j script legal g guest later lines line asked stands k there seq floor place bytes rest once command base (Reads offset count) one opens now c fits event in
        shown_bytes it.0 it.1 (it.2 ∙ same) it.3
    given_bytes there (Lost floor) rest command one given opens same now = absurd (true≢false (sym (any_in is_lost asked (of_queue k there (Take seq) (Lost floor)) (record { later = []; earlier = rest; is = one }) refl) ∙ sure))
    given_bytes there _ rest command one given opens same now = absurd (true≢false (sym given))

    module _ (posted_at : ℕ) (bytes : List ℕ) (writable : ℕ) (tag : Tag) (is : IsIn (of_queue k posted_at (Post bytes writable tag) (Seq seq)) asked) where
      abbrev p : Posted
      p = record { seq = seq; bytes = bytes; writable = writable; tag = tag }

      no_post : (x : Exchange) → is_post x.0 ≡ false → x ≡ post k posted_at p → ⊥
      no_post x not same = true≢false (sym (ap (λ (y : Exchange). is_post y.0) same) ∙ not)

      by_command : IsWholeAccess s g lines line (queue_used s g queue) once (route_in s g lines (Read offset count)) asked → IsReadAs count answer_here (Act c.access) c.reply
      by_command (asks_nothing none why) = absurd (in_none _ (subst (IsIn (post k posted_at p)) none is))
      by_command (rings number x one there rung asks now) = absurd (read_rings (kind_of s g) (msix_before lines) (io_before lines) offset count number rung)
      by_command (is_refused command x rest one there sent asks unposted none now) = elim (in_either _ x rest (subst (IsIn (post k posted_at p)) one is)) [
        | inl same ↦ absurd (true≢false (ap (λ (z : Exchange). is_seq z.1) same ∙ unposted))
        | inr more ↦ absurd (true≢false (sym (any_in is_posted rest _ more refl) ∙ none))
      ]
      by_command (is_taken_back command number there told rest one present sent given opens now) =
          let same = taken_one s j so g later lines line asked stands (queue_used s g queue) k posted_at there seq number p command told rest refl (subst (IsIn (post k posted_at p)) one is) opens in
          go (queue_used s g queue) number same.0 same.1 one opens now
        where
          go : (K n : ℕ) → k ≡ K → seq ≡ n → asked ≡ of_queue K there (Take n) told ∷ rest → IsOpenAccess g lines K command n rest → doing s g lines (performs line) rest ≡ accesses K once (Taking K n (is_read command)) Ended → IsReadAs count answer_here (Act c.access) c.reply
          go K n queues names one opens now =
              given_bytes there told rest command
              (one ∙ (λ i. of_queue (sym queues i) there (Take (sym names i)) told ∷ rest)) given
              (subst (λ (z : ℕ × ℕ). IsOpenAccess g lines z.0 command z.1 rest) (λ i. (sym queues i, sym names i)) opens)
              (same_command command (CommonRead offset count) (sym sent ∙ goes))
              (now ∙ (λ i. accesses (sym queues i) once (Taking (sym queues i) (sym names i) (is_read command)) Ended))

  -- ---- so the entry at the place of the line's event has the bytes that are read
  pub reads_bytes : (place base : ℕ) (e : MemberEntry) → StandsAt j g asked place → entry_at place (j.member g) ≡ Some e → event_for g base e.who e.call ≡ Some (Reads offset count) → bytes_read count answer_here ≡ bytes_of e
  reads_bytes place base e (asks_itself floor call reply alone) here event = absurd (not_itself place floor call reply alone whole)
  reads_bytes place base e (has_posted k seq posted_at bytes writable tag asked_later earlier there c) here event =
      let own : e ≡ record { who = c.by; call = Act c.access; reply = c.reply } = one_entry (j.member g) place place e _ refl here (carried_entry s j script so g guest g k seq place c) in
      by_command place k seq c base (ap (λ (x : MemberEntry). event_for g base x.who x.call) (sym own) ∙ event) posted_at bytes writable tag (record { later = asked_later; earlier = earlier; is = there }) whole
      ∙ ap bytes_of (sym own)
