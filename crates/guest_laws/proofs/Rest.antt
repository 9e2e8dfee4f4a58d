-- What stands behind the last step of a queue are steps of the drain, so the queue stays as that step found it.
use Rattle.std.proofs.Common.{◌≡◌, ℕ, zero, suc, max, ◌+◌, ◌<◌, ◌≤◌, ◌⊎◌, inl, inr, Bool, true, false, cond, List, [], ◌∷◌, ◌++◌, length, map, filter, Some, refl, sym, ap, ◌∙◌, arith, subst, append_assoc, length-append, true≢false, ◌≢◌}
use Rattle.std.specs.Prelude.{take}
use Rattle.std.specs.List.{AllByRecursion, flat_map}
use Rattle.std.proofs.lemmas.Bool.{cases_eq}
use Rattle.std.proofs.lemmas.List.Elements.{filter_map-append, All-head, All-tail}
use Rattle.history.specs.declared.entry.Entry.{Entry}
use Rattle.history.specs.Places.{entry_at, calls_of}
use Rattle.history.proofs.LegalLemmas.{entry_at-top, entry_at-below}
use Rattle.history.proofs.PlaceLemmas.{entry_at-in}
use Rattle.place_laws.specs.Actors.{IsIn}
use Rattle.place_laws.proofs.Actors.{in_now, in_more, in_none, in_either}
use Rattle.legacy_regs.specs.Registers.{queue_count}
use Rattle.group_calls.specs.declared.ask.Ask.{Ask}
use Rattle.group_calls.specs.declared.ask.Ask.TheVariants.{Member}
use Rattle.group_calls.specs.declared.ask.Told.{Told}
use Rattle.group_calls.specs.declared.ask.Told.TheVariants.{Owner as FromOwner, Queue as FromQueue, Member as FromMember, NoMemory}
use Rattle.group_calls.specs.declared.member.MemberCall.TheVariants.{Step}
use Rattle.group_calls.specs.declared.member.MemberReply.{MemberReply}
use Rattle.group_calls.specs.declared.member.MemberReply.TheVariants.{NotPending, Gone}
use Rattle.group_calls.specs.Asks.{Exchange}
use Rattle.group_calls.specs.MemberEntries.{MemberEntry}
use Rattle.vfio_driver.specs.declared.access.Known.{Known}
use Rattle.member_laws.proofs.Ends.{gone_tells}
use Rattle.board_script.specs.Script.{Whole}
use Rattle.journal.specs.Lines.{Line, counts_members, brings_up, performs, empties, finishes, members_of, made_of, kind_of, numbers, first_lines, finishing_lines, lines_of, is_last}
use Rattle.journal.specs.Knowing.{knows}
use Rattle.journal.specs.Cells.{left_in_member, member_part}
use Rattle.journal.specs.Doing.{Doing, steps, done, ends_steps, doing_ask, after}
use Rattle.journal.specs.Performing.{Performed, all_asked, doing}
use Rattle.journal.specs.Journals.{Journal, asked_by, AreAsked, ArePerformed, lines_then, AreBoards, last_asked, IsLegalJournal, IsGuestOf}
use Rattle.journal_laws.specs.Recorded.{of_member}
use Rattle.journal_laws.proofs.Parts.{same_head, same_tail, left_in, in_left}
use Rattle.journal_laws.proofs.Traversal.{begun, earlier_asked, line_keeps}
use Rattle.journal_laws.proofs.Order.{in_both, line_asked, all_asked_append}
use Rattle.journal_laws.proofs.Recorded.{member_left, member_leaves, member_stands}
use Rattle.world_laws.specs.Laws.{IsStopped}
use Rattle.world_laws.proofs.Finals.{lines_append}
use Rattle.world_laws.proofs.Drain.{each_drained, in_behind, in_front as in_front_of}
use Rattle.world_laws.proofs.Left.{mine}
use Rattle.guest_laws.specs.Rest.{ComesToRest, is_idle, is_gone, is_left}
use Rattle.guest_laws.proofs.Idle.{idle_at}
use Rattle.guest_laws.proofs.Steps.{is_step_call, stays_idle}

-- ---- entries behind one of the last

-- of entries that are the last and the board's, with those of them that stand first among its calls: what stands behind one of these is one of them
abbrev AreInFront : {C R : Type 0} → List (Entry C R) → ℕ → List (ℕ × Entry C R) → List (ℕ × Entry C R) → Type 0
AreInFront {C} {R} h n front back =
    AreBoards (take n h) → calls_of 0 h ≡ front ++ back → length front ≤ n
    → (p : ℕ) (e : Entry C R) → IsIn (p, e) front → (q : ℕ) (d : Entry C R) → entry_at q h ≡ Some d → p ≤ q → IsIn (q, d) front

in_front : {C R : Type 0} (h : List (Entry C R)) (n : ℕ) (front back : List (ℕ × Entry C R)) → AreInFront h n front back
in_front h n [] back boards is few p e stands q d at above = absurd (in_none (p, e) stands)
in_front h zero (f ∷ front) back boards is few p e stands q d at above = absurd (omega (arith, few))
in_front [] (suc n) (f ∷ front) back boards is few p e stands q d at above = absurd (cc)
in_front {C = C} {R = R} (x ∷ past) (suc n) (f ∷ front) back boards is few p e stands q d at above = go (in_front past n front back) (cases_eq q (length past))
  where
    board : x.who ≡ 0
    board = All-head (λ (e : Entry C R). e.who ≡ 0) x (take n past) boards

    same : (length past, x) ∷ calls_of 0 past ≡ f ∷ (front ++ back)
    same = sym (mine 0 x past board) ∙ is

    first : ◌≡◌ {A = ℕ × Entry C R} (length past, x) f
    first = same_head (length past, x) f (calls_of 0 past) (front ++ back) same

    rest : calls_of 0 past ≡ front ++ back
    rest = same_tail (length past, x) f (calls_of 0 past) (front ++ back) same

    deeper : AreInFront past n front back → q ≢ length past → IsIn (p, e) (f ∷ front) → IsIn (q, d) (f ∷ front)
    deeper further other stands = elim (in_either (p, e) f front stands) [
      | inl here ↦
          let place : p ≡ length past = ap (λ (y : ℕ × Entry C R). y.0) (here ∙ sym first) in
          let low = entry_at-in past q d (entry_at-below x d past q other at) in
          absurd (omega (arith, place, low, above))
      | inr more ↦
          in_more (q, d) f front (further (All-tail (λ (e : Entry C R). e.who ≡ 0) x (take n past) boards) rest (omega (arith, few)) p e more q d (entry_at-below x d past q other at) above)
    ]

    go : AreInFront past n front back → (q ≡ length past) ⊎ (q ≢ length past) → IsIn (q, d) (f ∷ front)
    go further (inl top) =
        let entry_is : x ≡ d = entry_at-top x d past q top at in
        let here : ◌≡◌ {A = ℕ × Entry C R} (q, d) f = (λ i. (top i, sym entry_is i)) ∙ first in
        in_now (q, d) f front here
    go further (inr other) = deeper further other stands

-- ---- lines behind a line of the drain for a queue of a member

abbrev is_finishing : Line → Bool
is_finishing (finishes m queue) = true
is_finishing _ = false

abbrev AreFinishing : List Line → Type 0
AreFinishing lines = AllByRecursion (λ line. is_finishing line ≡ true) lines

abbrev AreOthers : List Line → Type 0
AreOthers lines = AllByRecursion (λ line. is_finishing line ≡ false) lines

each_map : {X Y : Type 0} (P : Y → Type 0) (f : X → Y) (xs : List X) → ((x : X) → P (f x)) → AllByRecursion P (map f xs)
each_map P f [] h = tt
each_map P f (x ∷ xs) h = (h x, each_map P f xs h)

each_append : {X : Type 0} (P : X → Type 0) (xs ys : List X) → AllByRecursion P xs → AllByRecursion P ys → AllByRecursion P (xs ++ ys)
each_append P [] ys f g = g
each_append P (x ∷ xs) ys f g = (f.0, each_append P xs ys f.1 g)

each_flat : {X Y : Type 0} (P : Y → Type 0) (f : X → List Y) (xs : List X) → ((x : X) → AllByRecursion P (f x)) → AllByRecursion P (flat_map f xs)
each_flat P f [] h = tt
each_flat P f (x ∷ xs) h = each_append P (f x) (flat_map f xs) (h x) (each_flat P f xs h)

each_behind : {X : Type 0} (P : X → Type 0) (xs ys : List X) → AllByRecursion P (xs ++ ys) → AllByRecursion P ys
each_behind P [] ys h = h
each_behind P (x ∷ xs) ys h = each_behind P xs ys h.1

behind_finishing : (others finishing a b : List Line) (m q : ℕ) → AreOthers others → AreFinishing finishing → others ++ finishing ≡ a ++ finishes m q ∷ b → AreFinishing b
behind_finishing [] finishing a b m q o f is =
    (each_behind (λ line. is_finishing line ≡ true) a (finishes m q ∷ b) (subst AreFinishing is f)).1
behind_finishing (x ∷ others) finishing [] b m q o f is =
    let same : x ≡ finishes m q = same_head x (finishes m q) (others ++ finishing) b is in
    absurd (true≢false (sym (ap is_finishing same) ∙ o.0))
behind_finishing (x ∷ others) finishing (y ∷ a) b m q o f is = behind_finishing others finishing a b m q o.1 f (same_tail x y (others ++ finishing) (a ++ finishes m q ∷ b) is)

-- the first lines of a past, and what is behind it
then_append : (past : List Performed) (rest : List Line) → lines_then past rest ≡ lines_then past [] ++ rest
then_append [] rest = refl
then_append (p ∷ past) rest =
    then_append past (p.line ∷ rest) ∙ (sym (append_assoc (lines_then past []) (p.line ∷ []) rest) ∙ ap (λ l. l ++ rest) (sym (then_append past (p.line ∷ []))))

of_past : (P : Line → Type 0) (past : List Performed) (rest : List Line) → AllByRecursion P (lines_then past rest) → AllByRecursion (λ p. P p.line) past × AllByRecursion P rest
of_past P [] rest h = (tt, h)
of_past P (p ∷ past) rest h = let it = of_past P past (p.line ∷ rest) h in ((it.1.0, it.0), it.1.1)

module _ (s : Whole) where
  abbrev others : List Line
  others = first_lines s ++ map empties (numbers 0 s.board.queues)

  abbrev finishing : List Line
  finishing = flat_map (finishing_lines s) (numbers 1 (members_of s))

  all_others : AreOthers others
  all_others = each_append (λ line. is_finishing line ≡ false) (first_lines s) (map empties (numbers 0 s.board.queues))
      (refl, each_map (λ line. is_finishing line ≡ false) brings_up (numbers 0 (members_of s + 1)) (λ n. refl))
      (each_map (λ line. is_finishing line ≡ false) empties (numbers 0 s.board.queues) (λ n. refl))

  all_finishing : AreFinishing finishing
  all_finishing = each_flat (λ line. is_finishing line ≡ true) (finishing_lines s) (numbers 1 (members_of s)) (λ m.
      each_map (λ line. is_finishing line ≡ true) (finishes m) (numbers 0 (queue_count (kind_of s m))) (λ n. refl))

  later_finishing : (later earlier : List Performed) (m q : ℕ) (asked : List Exchange) → lines_of s 0 ≡ lines_then (later ++ record { line = finishes m q; asked = asked } ∷ earlier) []
      → AllByRecursion (λ p. is_finishing p.line ≡ true) later
  later_finishing later earlier m q asked is =
      let parted : lines_of s 0 ≡ others ++ finishing = sym (append_assoc (first_lines s) (map empties (numbers 0 s.board.queues)) finishing) in
      let split : others ++ finishing ≡ lines_then earlier [] ++ finishes m q ∷ lines_then later [] =
      sym parted ∙ (is ∙ (lines_append later (record { line = finishes m q; asked = asked } ∷ earlier) [] ∙ then_append earlier (finishes m q ∷ lines_then later []))) in
      (of_past (λ line. is_finishing line ≡ true) later [] (behind_finishing others finishing (lines_then earlier []) (lines_then later []) m q all_others all_finishing split)).0

  -- ---- such a line asks for steps alone

  abbrev IsSteps : ℕ → ℕ → Doing → Type 0
  IsSteps m q (steps n k left) = (n ≡ m) × (k ≡ q)
  IsSteps m q done = Unit {0}
  IsSteps m q _ = ⊥

  some_ask : (a b : Ask) → Some a ≡ Some b → a ≡ b
  some_ask a b e = cc

  steps_on : (known : Known) (d : Doing) (m q : ℕ) (told : Told) → IsSteps m q d → IsSteps m q (after s known d told)
  steps_on known (steps n k zero) m q told is = is
  steps_on known (steps n k (suc left)) m q told is = go (ends_steps told)
    where
      go : (b : Bool) → IsSteps m q (cond b done (steps n k left))
      go true = tt
      go false = is
  steps_on known done m q told is = tt
  steps_on known _ m q told is = absurd is

  steps_ask : (known : ℕ → Known) (d : Doing) (m q : ℕ) (ask : Ask) → IsSteps m q d → doing_ask 0 known d ≡ Some ask → (floor : ℕ) × (ask ≡ Member m floor (Step q))
  steps_ask known (steps n k zero) m q ask is next = absurd (cc)
  steps_ask known (steps n k (suc left)) m q ask is next =
      let asks : Member n (max 0 (known n).floor) (Step k) ≡ ask = some_ask _ _ next in
      (max 0 (known n).floor, sym asks ∙ (λ i. Member (is.0 i) (max 0 (known n).floor) (Step (is.1 i))))
  steps_ask known done m q ask is next = absurd (cc)
  steps_ask known _ m q ask is next = absurd is

  line_steps : (past : List Performed) (m q : ℕ) (asked : List Exchange) (x : Exchange) → AreAsked s 0 past (finishes m q) asked → IsIn x asked → (floor : ℕ) × (x.0 ≡ Member m floor (Step q))
  line_steps past m q asked x are stands =
      let here : AreAsked s 0 past (finishes m q) (x ∷ stands.earlier) = earlier_asked s 0 past (finishes m q) stands.later (x ∷ stands.earlier) (subst (AreAsked s 0 past (finishes m q)) stands.is are) in
      let at : IsSteps m q (doing s 0 past (finishes m q) stands.earlier) =
      line_keeps s 0 past (finishes m q) (λ d asked. IsSteps m q d) (refl, refl) (λ d asked y is next fits placed. steps_on (knows 0 0 (asked ++ all_asked past)) d m q y.1 is) stands.earlier here.3 in
      steps_ask (λ i. knows 0 i (stands.earlier ++ all_asked past)) (doing s 0 past (finishes m q) stands.earlier) m q x.0 at here.0

  abbrev IsStepAsk : Ask → Type 0
  IsStepAsk ask = (m : ℕ) × (floor : ℕ) × (q : ℕ) × (ask ≡ Member m floor (Step q))

  finishing_steps : (line : Line) (past : List Performed) (asked : List Exchange) (x : Exchange) → is_finishing line ≡ true → AreAsked s 0 past line asked → IsIn x asked → IsStepAsk x.0
  finishing_steps (finishes m q) past asked x is are stands = let it = line_steps past m q asked x are stands in (m, it.0, q, it.1)
  finishing_steps counts_members past asked x is are stands = absurd (cc)
  finishing_steps (brings_up m) past asked x is are stands = absurd (cc)
  finishing_steps (performs l) past asked x is are stands = absurd (cc)
  finishing_steps (empties q) past asked x is are stands = absurd (cc)

  later_steps : (later tail : List Performed) (x : Exchange) → ArePerformed s 0 (later ++ tail) → AllByRecursion (λ p. is_finishing p.line ≡ true) later → IsIn x (all_asked later) → IsStepAsk x.0
  later_steps [] tail x are all stands = absurd (in_none x stands)
  later_steps (p ∷ later) tail x are all stands = elim (in_both x p.asked (all_asked later) stands) [
    | inl here ↦ finishing_steps p.line (later ++ tail) p.asked x all.0 are.0 here
    | inr more ↦ later_steps later tail x are.2 all.1 more
  ]

  finishing_last : (line : Line) → is_finishing line ≡ true → is_last line ≡ true
  finishing_last (finishes m q) is = refl
  finishing_last (empties q) is = refl
  finishing_last counts_members is = absurd (cc)
  finishing_last (brings_up m) is = absurd (cc)
  finishing_last (performs l) is = absurd (cc)

  kept_last : (later tail : List Performed) → AllByRecursion (λ p. is_finishing p.line ≡ true) later → filter (λ p. is_last p.line) (later ++ tail) ≡ later ++ filter (λ p. is_last p.line) tail
  kept_last [] tail all = refl
  kept_last (p ∷ later) tail all =
      let rest = kept_last later tail all.1 in
      ap (λ (b : Bool). cond b (p ∷ filter (λ p. is_last p.line) (later ++ tail)) (filter (λ p. is_last p.line) (later ++ tail))) (finishing_last p.line all.0) ∙ ap (λ l. p ∷ l) rest

-- ---- the queue at the end

module _ (s : Whole) (j : Journal) (legal : IsLegalJournal s j) (m q : ℕ) (exists : q < queue_count (kind_of s m)) (it : IsStopped j m q) where
  abbrev line : Performed
  line = record { line = finishes m q; asked = it.last ∷ it.before }

  abbrev h : List MemberEntry
  h = j.member m

  -- what the board asked from its bring-up on up to the last step, and then
  abbrev news : List Exchange
  news = all_asked it.later ++ line.asked

  performed : ArePerformed s 0 (it.later ++ line ∷ it.earlier)
  performed = subst (ArePerformed s 0) it.past (legal.performed 0)

  line_is : AreAsked s 0 it.earlier (finishes m q) (it.last ∷ it.before)
  line_is = line_asked s 0 it.later line it.earlier (begun s 0 (it.later ++ line ∷ it.earlier) performed)

  all_later : AllByRecursion (λ p. is_finishing p.line ≡ true) it.later
  all_later = later_finishing s it.later it.earlier m q (it.last ∷ it.before) (legal.lines 0 ∙ ap (λ l. lines_then l []) it.past)

  asked_is : asked_by j 0 ≡ news ++ all_asked it.earlier
  asked_is = ap all_asked it.past ∙ (all_asked_append it.later (line ∷ it.earlier) ∙ sym (append_assoc (all_asked it.later) line.asked (all_asked it.earlier)))

  last_is : last_asked j ≡ news ++ all_asked (filter (λ p. is_last p.line) it.earlier)
  last_is =
      ap (λ l. all_asked (filter (λ p. is_last p.line) l)) it.past
      ∙ (ap all_asked (kept_last s it.later (line ∷ it.earlier) all_later)
      ∙ (all_asked_append it.later (line ∷ filter (λ p. is_last p.line) it.earlier) ∙ sym (append_assoc (all_asked it.later) line.asked (all_asked (filter (λ p. is_last p.line) it.earlier)))))

  part_is : calls_of 0 h ≡ member_part 0 m news ++ member_part 0 m (all_asked it.earlier)
  part_is = sym ((legal.recorded 0).member m) ∙ (ap (member_part 0 m) asked_is ∙ filter_map-append (left_in_member 0 m) news (all_asked it.earlier))

  few : length (member_part 0 m news) ≤ length (member_part 0 m (last_asked j))
  few =
      let rest : List Exchange = all_asked (filter (λ p. is_last p.line) it.earlier) in
      let whole : length (member_part 0 m (last_asked j)) ≡ length (member_part 0 m news ++ member_part 0 m rest) = ap length (ap (member_part 0 m) last_is ∙ filter_map-append (left_in_member 0 m) news rest) in
      let sum = length-append (member_part 0 m news) (member_part 0 m rest) in
      omega (arith, whole, sum)

  stands : IsIn it.last news
  stands = in_behind it.last (all_asked it.later) line.asked (in_now it.last it.last it.before refl)

  -- what stands from the last step on is a step
  steps_behind : (place floor : ℕ) (reply : MemberReply) → it.last ≡ of_member m floor place (Step q) reply → (p : ℕ) (e : MemberEntry) → entry_at p h ≡ Some e → place ≤ p → is_step_call e.call ≡ true
  steps_behind place floor reply last p e at above =
      let front : IsIn (place, record { who = 0; call = Step q; reply = reply }) (member_part 0 m news) =
      left_in (left_in_member 0 m) news it.last (place, record { who = 0; call = Step q; reply = reply }) stands (ap (left_in_member 0 m) last ∙ member_leaves 0 m floor place (Step q) reply) in
      let found = in_left (left_in_member 0 m) news (p, e) (in_front h (length (member_part 0 m (last_asked j))) (member_part 0 m news) (member_part 0 m (all_asked it.earlier)) (legal.framed.member m).ends part_is few place (record { who = 0; call = Step q; reply = reply }) front p e at above) in
      let by = member_left 0 m found.item p e found.left in
      let step : IsStepAsk s found.item.0 = elim (in_both found.item (all_asked it.later) line.asked found.stands) [
        | inl late ↦ later_steps s it.later (line ∷ it.earlier) found.item performed all_later late
        | inr here ↦ finishing_steps s (finishes m q) it.earlier line.asked found.item refl line_is here
      ] in
      let same : Member m by.0 e.call ≡ Member step.0 step.1 (Step step.2) = sym (ap (λ (x : Exchange). x.0) by.1) ∙ step.3 in
      let call : e.call ≡ Step step.2 = cc in
      ap is_step_call call

  at_end : (floor place : ℕ) (reply : MemberReply) → it.last ≡ of_member m floor place (Step q) reply → ends_steps (FromMember (record { at = place; reply = reply })) ≡ true → ComesToRest s j m q
  at_end floor place reply last ends = go reply refl ends
    where
      there : (r : MemberReply) → reply ≡ r → entry_at place h ≡ Some (record { who = 0; call = Step q; reply = r })
      there r is =
          let whole : IsIn it.last (asked_by j 0) = subst (IsIn it.last) (sym asked_is) (in_front_of it.last news (all_asked it.earlier) stands) in
          member_stands j 0 m floor place (Step q) r (legal.recorded 0) (subst (λ (x : Exchange). IsIn x (asked_by j 0)) (last ∙ ap (of_member m floor place (Step q)) is) whole)

      go : (r : MemberReply) → reply ≡ r → ends_steps (FromMember (record { at = place; reply = r })) ≡ true → ComesToRest s j m q
      go NotPending is ends =
          is_idle (stays_idle (kind_of s m) q h place (idle_at (made_of s m) h place 0 q (legal.histories.member m) exists (there NotPending is)) (steps_behind place floor reply last))
      go (Gone f) is ends = is_gone f (gone_tells (made_of s m) h place (record { who = 0; call = Step q; reply = Gone f }) f (legal.histories.member m) (there (Gone f) is) refl)
      go _ is ends = absurd (true≢false (sym ends))

  stopped_rests : ComesToRest s j m q
  stopped_rests =
      let ask = line_steps s it.earlier m q (it.last ∷ it.before) it.last line_is (in_now it.last it.last it.before refl) in
      go it.last.1 refl ask.0 ask.1 it.ends
    where
      go : (t : Told) → it.last.1 ≡ t → (floor : ℕ) → it.last.0 ≡ Member m floor (Step q) → ends_steps it.last.1 ≡ true → ComesToRest s j m q
      go (FromMember placed) is floor ask ends = at_end floor placed.at placed.reply (λ i. (ask i, is i)) (sym (ap ends_steps is) ∙ ends)
      go (FromOwner placed) is floor ask ends = absurd (true≢false (sym ends ∙ ap ends_steps is))
      go (FromQueue placed) is floor ask ends = absurd (true≢false (sym ends ∙ ap ends_steps is))
      go NoMemory is floor ask ends = absurd (true≢false (sym ends ∙ ap ends_steps is))

pub comes_to_rest : (s : Whole) (j : Journal) → IsLegalJournal s j → (m q : ℕ) → IsGuestOf s m → q < queue_count (kind_of s m) → ComesToRest s j m q
comes_to_rest s j legal m q guest exists = elim (each_drained s j legal m q guest exists) [
  | inl it ↦ stopped_rests s j legal m q exists it
  | inr left ↦ is_left left
]
