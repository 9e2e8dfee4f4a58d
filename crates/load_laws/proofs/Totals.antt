-- What a guest read sums up to what the register accesses of its member's history read.
use Rattle.std.proofs.Common.{◌≡◌, ℕ, ◌+◌, Bool, true, false, cond, List, [], ◌∷◌, ◌++◌, length, Option, None, Some, sum, refl, sym, ap, ◌∙◌, arith, subst, true≢false, append_assoc}
use Rattle.std.specs.Prelude.{unwrap_or}
use Rattle.std.specs.List.{All, list_any}
use Rattle.history.specs.Places.{entry_at, before}
use Rattle.history.proofs.PlaceLemmas.{entry_at-now, entry_at-up}
use Rattle.group_calls.specs.declared.lone.LoneEvent.{LoneEvent}
use Rattle.group_calls.specs.declared.lone.LoneEvent.TheVariants.{Read}
use Rattle.group_calls.specs.Asks.{Exchange}
use Rattle.group_calls.specs.MemberEntries.{MemberEntry}
use Rattle.group_calls.specs.Lone.{device_base}
use Rattle.member_laws.specs.Ends.{killed}
use Rattle.member_laws.specs.Own.{before_kill}
use Rattle.member_laws.specs.Replies.{is_reply_to}
use Rattle.member_laws.proofs.Ends.{before_kill_all}
use Rattle.io_bar.specs.declared.access.Access.TheVariants.{Read as ReadOf}
use Rattle.io_bar.specs.Route.{is_local}
use Rattle.vfio_driver.specs.declared.access.Answer.{Answer}
use Rattle.guest_lines.specs.Earlier.{io_set}
use Rattle.guest_lines.specs.Lines.{event_of}
use Rattle.board_script.specs.declared.script.ActorLine.{ActorLine}
use Rattle.board_script.specs.declared.script.What.{What}
use Rattle.board_script.specs.declared.script.What.TheVariants as what
use Rattle.board_script.specs.Script.{Whole}
use Rattle.board_script.specs.Bounds.{IsScript}
use Rattle.journal.specs.Lines.{made_of, kind_of}
use Rattle.journal.specs.Performing.{Performed, io_before}
use Rattle.journal.specs.Answers.{answer_of, is_full, line_words}
use Rattle.journal.specs.Journals.{Journal, ArePerformed, AreBegun, IsLegalJournal, IsLegalSoFar, IsGuestOf}
use Rattle.journal.specs.Own.{is_guests, guest_places}
use Rattle.journal.specs.Heads.{LineEvent, with_event, line_events, is_lost, IsEventOf, AreEventsOf, HasHead}
use Rattle.journal_laws.specs.Posted.{access_in}
use Rattle.journal_laws.specs.Order.{performing}
use Rattle.journal_laws.proofs.Traversal.{legal_so_far}
use Rattle.journal_laws.proofs.Order.{line_asked, line_over}
use Rattle.journal_laws.proofs.Lines.{from_all, script_line}
use Rattle.head_laws.proofs.Doubt.{doubt_tells}
use Rattle.answer_laws.proofs.Told.{each_has_head}
use Rattle.load_run.specs.Load.{bytes_of, total_of}
use Rattle.load_laws.specs.Summed.{IsSummed}
use Rattle.load_laws.proofs.Tallies.{line_sum, sum_of}
use Rattle.load_laws.proofs.Registers.{not_local}
use Rattle.load_laws.proofs.Spared.{none_killed}
use Rattle.load_laws.proofs.Tried.{not_full}
use Rattle.load_laws.proofs.Read.{reads_bytes}
use Rattle.load_laws.proofs.Silent.{living_fits, others_silent, events_silent, is_read_line, other_event}

-- ---- the bytes at places

abbrev bytes_at : List MemberEntry → ℕ → ℕ
bytes_at h place = elim (entry_at place h) [ None ↦ 0 | Some e ↦ sum (bytes_of e) ]

abbrev sum_at : List MemberEntry → List ℕ → ℕ
sum_at h [] = 0
sum_at h (place ∷ places) = sum_at h places + bytes_at h place

at_entry : (h : List MemberEntry) (place : ℕ) (e : MemberEntry) → entry_at place h ≡ Some e → bytes_at h place ≡ sum (bytes_of e)
at_entry h place e at = ap (λ (o : Option MemberEntry). elim o [ None ↦ 0 | Some e ↦ sum (bytes_of e) ]) at

-- ---- lines that leave I/O enabled

io_line : (line : ActorLine) (w : What) (before_it : Bool) → IsSummed w → before_it ≡ true → unwrap_or (io_set (record line { what = w })) before_it ≡ true
io_line line (what.Io on) before_it on_it is = on_it
io_line line _ before_it summed is = is

module _ (s : Whole) (j : Journal) (script : IsScript s) (legal : IsLegalJournal s j) (summed : All (λ line. IsSummed line.what) s.lines) (g : ℕ) (guest : IsGuestOf s g) where
  so : IsLegalSoFar s j
  so = legal_so_far s j legal

  alive : killed (j.member g) ≡ None
  alive = none_killed s j so summed g

  -- ---- its lines

  record IsOwnLine (p : Performed) : Type 0 where
    line : ActorLine
    is : p ≡ performing line p.asked
    keeps : IsSummed line.what

  own_line : (later : List Performed) (p : Performed) (rest : List Performed) → j.past g ≡ later ++ p ∷ rest → IsOwnLine p
  own_line later p rest stands =
      let it = script_line s j so g guest.0 later rest p stands in
      record { line = it.line; is = λ i. record { line = it.performed i; asked = p.asked }; keeps = from_all (λ (line : ActorLine). IsSummed line.what) s.lines it.line summed it.stands }

  io_kept : (later past : List Performed) → j.past g ≡ later ++ past → io_before past ≡ true
  io_kept later [] stands = refl
  io_kept later (p ∷ rest) stands =
      let it = own_line later p rest stands in
      ap (λ (q : Performed). io_before (q ∷ rest)) it.is ∙ io_line it.line it.line.what (io_before rest) it.keeps (io_kept (later ++ p ∷ []) rest (stands ∙ sym (append_assoc later (p ∷ []) rest)))

  -- ---- entries

  fits : (place : ℕ) (e : MemberEntry) → entry_at place (j.member g) ≡ Some e → is_reply_to e.call e.reply ≡ true
  fits place e at = living_fits (made_of s g) (j.member g) place e (so.histories.member g) alive at

  abbrev IsSuffix : List MemberEntry → Type 0
  IsSuffix k = (place : ℕ) (e : MemberEntry) → entry_at place k ≡ Some e → entry_at place (j.member g) ≡ Some e

  places_total : (k : List MemberEntry) → IsSuffix k → sum_at (j.member g) (guest_places g k) ≡ total_of k
  places_total [] is = refl
  places_total (e ∷ past) is = go (is_guests g e.who e.call) refl (places_total past (λ place x at. is place x (entry_at-up e past place x at)))
    where
      here : entry_at (length past) (j.member g) ≡ Some e
      here = is (length past) e (entry_at-now e past)

      go : (b : Bool) → is_guests g e.who e.call ≡ b → sum_at (j.member g) (guest_places g past) ≡ total_of past → sum_at (j.member g) (cond b (length past ∷ guest_places g past) (guest_places g past)) ≡ total_of past + sum (bytes_of e)
      go true guests rest = let bytes = at_entry (j.member g) (length past) e here in omega (arith, rest, bytes)
      go false other rest = let none = ap sum (others_silent g e.who e.call e.reply (fits (length past) e here) other) in omega (arith, rest, none)

  -- ---- a line

  module _ (later rest : List Performed) (line : ActorLine) (asked : List Exchange) (stands : j.past g ≡ later ++ performing line asked ∷ rest) (plain : IsSummed line.what) where
    abbrev answer_here : Option Answer
    answer_here = answer_of s g rest (performing line asked)

    io : io_before rest ≡ true
    io = io_kept (later ++ performing line asked ∷ []) rest (stands ∙ sym (append_assoc later (performing line asked ∷ []) rest))

    sure : list_any is_lost asked ≡ false
    sure = go (list_any is_lost asked) refl
      where
        go : (b : Bool) → list_any is_lost asked ≡ b → list_any is_lost asked ≡ false
        go false is = is
        go true is =
            let ended = doubt_tells s j so g guest later rest line asked stands is in
            let bad : None ≡ Some ended.end = sym alive ∙ ended.killed in
            absurd (cc)

    -- a read has its event
    read_event : (offset count : ℕ) (queue : Option ℕ) (once : Bool) → line.what ≡ what.BarRead offset count queue once → IsSummed (what.BarRead offset count queue once) → event_of (kind_of s g) (io_before rest) line.what ≡ Some (Read offset count)
    read_event offset count queue once same it =
        ap (event_of (kind_of s g) (io_before rest)) same
        ∙ (ap (λ (b : Bool). cond (is_local (kind_of s g) b (ReadOf offset count)) None (Some (Read offset count))) io
        ∙ ap (λ (b : Bool). cond b None (Some (Read offset count))) (not_local offset count it.0 (kind_of s g)))

    -- a line without one is no read
    no_event : event_of (kind_of s g) (io_before rest) line.what ≡ None → line_sum line.what answer_here ≡ 0
    no_event none = go line.what refl plain
      where
        go : (w : What) → line.what ≡ w → IsSummed w → line_sum w answer_here ≡ 0
        go (what.BarRead offset count queue once) same it = let bad : None ≡ Some (Read offset count) = sym none ∙ read_event offset count queue once same it in absurd (cc)
        go _ same it = refl

    -- and so is one that is answered full
    full_event : is_full answer_here ≡ true → line_sum line.what answer_here ≡ 0
    full_event full = go line.what refl plain
      where
        go : (w : What) → line.what ≡ w → IsSummed w → line_sum w answer_here ≡ 0
        go (what.BarRead offset count queue once) same it =
            let part = line_asked s g later (performing line asked) rest (subst (λ (l : List Performed). AreBegun s g l) stands (so.begun g)) in
            let over = line_over s g later (performing line asked) rest (subst (λ (l : List Performed). ArePerformed s g l) stands (legal.performed g)) in
            absurd (true≢false (sym full ∙ not_full s g rest line asked over _ (ap access_in same) it.1 part))
        go _ same it = refl

    abbrev made : LoneEvent → LineEvent
    made event = record { event = event; what = line.what; asked = asked; shown = line_words s g rest line.what (performing line asked) }

    -- what it reads are the bytes at its event's place
    bytes_there : (event : LoneEvent) (place : ℕ) → event_of (kind_of s g) (io_before rest) line.what ≡ Some event → IsEventOf s j g (made event) place
        → line_sum line.what answer_here ≡ bytes_at (j.member g) place
    bytes_there event place of_line it = go line.what refl plain ∙ sym (at_entry (j.member g) place it.entry it.is_there)
      where
        none : (w : What) → line.what ≡ w → is_read_line w ≡ false → 0 ≡ sum (bytes_of it.entry)
        none w same other =
            sym (ap sum (events_silent g (device_base (before place (j.member g))) it.entry.who it.entry.call it.entry.reply event (fits place it.entry it.is_there) it.same
            (other_event (kind_of s g) (io_before rest) w event other (ap (event_of (kind_of s g) (io_before rest)) (sym same) ∙ of_line))))

        go : (w : What) → line.what ≡ w → IsSummed w → line_sum w answer_here ≡ sum (bytes_of it.entry)
        go (what.BarRead offset count queue once) same plain_it =
            ap sum (reads_bytes s j script legal g guest alive later rest line asked stands sure io offset count queue once same plain_it.0 place (device_base (before place (j.member g))) it.entry it.stands it.is_there
            (it.same ∙ (sym of_line ∙ read_event offset count queue once same plain_it)))
        go w same plain_it = none w same refl

    abbrev picked : Option LoneEvent → Bool → List LineEvent
    picked None full = line_events s g rest
    picked (Some event) full = cond full (line_events s g rest) (made event ∷ line_events s g rest)

    picks : (o : Option LoneEvent) (full : Bool) → is_full answer_here ≡ full → with_event s g rest (performing line asked) line.what o (line_events s g rest) ≡ picked o full
    picks None full is = refl
    picks (Some event) full is = ap (picked (Some event)) is

    one_more : ((places : List ℕ) → AreEventsOf s j g (line_events s g rest) places → sum_of s g rest ≡ sum_at (j.member g) places) → (places : List ℕ)
        → AreEventsOf s j g (line_events s g (performing line asked ∷ rest)) places → sum_of s g rest + line_sum line.what answer_here ≡ sum_at (j.member g) places
    one_more deeper places are = go (event_of (kind_of s g) (io_before rest) line.what) refl (is_full answer_here) refl places are
      where
        by : (o : Option LoneEvent) → event_of (kind_of s g) (io_before rest) line.what ≡ o → (b : Bool) → is_full answer_here ≡ b → (places : List ℕ) → AreEventsOf s j g (picked o b) places → sum_of s g rest + line_sum line.what answer_here ≡ sum_at (j.member g) places
        by None none b full places are = let sums = deeper places are in let zero_it = no_event none in omega (arith, sums, zero_it)
        by (Some event) some true full places are = let sums = deeper places are in let zero_it = full_event full in omega (arith, sums, zero_it)
        by (Some event) some false full [] are = absurd are
        by (Some event) some false full (place ∷ places) are = let sums = deeper places are.1 in let here = bytes_there event place some are.0 in omega (arith, sums, here)

        go : (o : Option LoneEvent) → event_of (kind_of s g) (io_before rest) line.what ≡ o → (b : Bool) → is_full answer_here ≡ b → (places : List ℕ) → AreEventsOf s j g (with_event s g rest (performing line asked) line.what o (line_events s g rest)) places
            → sum_of s g rest + line_sum line.what answer_here ≡ sum_at (j.member g) places
        go o of_line b full places are = by o of_line b full places (subst (λ (l : List LineEvent). AreEventsOf s j g l places) (picks o b full) are)

  -- ---- all lines

  sums : (later past : List Performed) → j.past g ≡ later ++ past → (places : List ℕ) → AreEventsOf s j g (line_events s g past) places → sum_of s g past ≡ sum_at (j.member g) places
  sums later [] stands [] are = refl
  sums later [] stands (place ∷ places) are = absurd are
  sums later (p ∷ rest) stands places are =
      let it = own_line later p rest stands in
      ap (λ (q : Performed). sum_of s g (q ∷ rest)) it.is
      ∙ one_more later rest it.line p.asked (stands ∙ ap (λ (q : Performed). later ++ q ∷ rest) it.is) it.keeps (sums (later ++ p ∷ []) rest (stands ∙ sym (append_assoc later (p ∷ []) rest))) places
      (subst (λ (q : Performed). AreEventsOf s j g (line_events s g (q ∷ rest)) places) it.is are)

  pub sum_is_total : sum_of s g (j.past g) ≡ total_of (j.member g)
  sum_is_total =
      let head : HasHead s j g = each_has_head s j script legal g guest in
      let all : line_events s g (j.past g) ≡ head.eventful = head.parted ∙ ap (λ (l : List LineEvent). l ++ head.eventful) (head.all alive) in
      let are : AreEventsOf s j g (line_events s g (j.past g)) (guest_places g (j.member g)) =
      subst (λ (h : List MemberEntry). AreEventsOf s j g (line_events s g (j.past g)) (guest_places g h)) (before_kill_all (j.member g) alive) (subst (λ (l : List LineEvent). AreEventsOf s j g l (guest_places g (before_kill (j.member g)))) (sym all) head.events) in
      sums [] (j.past g) refl (guest_places g (j.member g)) are ∙ places_total (j.member g) (λ place e at. at)
