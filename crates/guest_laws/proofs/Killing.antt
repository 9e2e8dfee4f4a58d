-- What a line of the host kills.
use Rattle.std.proofs.Common.{◌≡◌, ℕ, ◌+◌, ◌≤◌, max, inl, inr, Bool, true, false, cond, List, [], ◌∷◌, ◌++◌, length, Option, None, Some, refl, sym, ap, ◌∙◌, arith, subst, length-append, true≢false}
use Rattle.std.specs.Prelude.{is_none, nat_lt}
use Rattle.std.proofs.lemmas.Bool.{cases_eq}
use Rattle.std.proofs.lemmas.Bool.Decides.{nat_tests}
use Rattle.place_laws.specs.Actors.{IsIn}
use Rattle.place_laws.proofs.Actors.{in_now, in_more}
use Rattle.group_calls.specs.declared.ask.Ask.{Ask}
use Rattle.group_calls.specs.declared.ask.Ask.TheVariants.{Member}
use Rattle.group_calls.specs.declared.ask.Told.{Told}
use Rattle.group_calls.specs.declared.ask.Told.TheVariants.{Owner as FromOwner, Queue as FromQueue, Member as FromMember, NoMemory}
use Rattle.group_calls.specs.declared.member.MemberCall.TheVariants.{Kill}
use Rattle.group_calls.specs.Asks.{Exchange, AnswersAsk}
use Rattle.host_machine.specs.declared.stage.Stage.{Stage}
use Rattle.host_machine.specs.declared.stage.Stage.TheVariants.{Delivering, Restarting, Disabling, Leaving, Killing, Resetting, Closing, Ended}
use Rattle.host_machine.specs.Machine.{floor_of, killing}
use Rattle.vfio_driver.specs.declared.access.Known.{Known}
use Rattle.member_laws.proofs.Ends.{killer_above}
use Rattle.board_script.specs.declared.script.ActorLine.{ActorLine}
use Rattle.board_script.specs.declared.script.What.TheVariants as what
use Rattle.board_script.specs.Script.{Whole}
use Rattle.journal.specs.Lines.{performs, members_of, made_of}
use Rattle.journal.specs.Knowing.{knows}
use Rattle.journal.specs.Doing.{Doing, hosts, doing_ask, after}
use Rattle.journal.specs.Performing.{Performed, all_asked, begins, doing, next_ask, what_begins}
use Rattle.journal.specs.Journals.{Journal, asked_by, IsPlaced, AreAsked, ArePerformed, IsLegalJournal, IsGuestOf}
use Rattle.journal_laws.specs.Order.{performing}
use Rattle.journal_laws.proofs.Traversal.{begun, earlier_asked, line_keeps}
use Rattle.journal_laws.proofs.Order.{line_asked, line_over, line_in}
use Rattle.journal_laws.proofs.Recorded.{member_stands}
use Rattle.guest_laws.specs.Disabling.{IsKilled}

-- a Kill of the member stands among the asks
record IsAskedKill (m : ℕ) (asked : List Exchange) : Type 0 where
  floor : ℕ
  told : Told
  stands : IsIn (Member m floor Kill, told) asked

more_asked : (m : ℕ) (x : Exchange) (asked : List Exchange) → IsAskedKill m asked → IsAskedKill m (x ∷ asked)
more_asked m x asked it = record { floor = it.floor; told = it.told; stands = in_more (Member m it.floor Kill, it.told) x asked it.stands }

now_asked : (m floor : ℕ) (x : Exchange) (asked : List Exchange) → x.0 ≡ Member m floor Kill → IsAskedKill m (x ∷ asked)
now_asked m floor x asked is = record { floor = floor; told = x.1; stands = in_now (Member m floor Kill, x.1) x asked (λ i. (sym is i, x.1)) }

none_is : (o : Option Ask) → is_none o ≡ true → o ≡ None
none_is None e = refl
none_is (Some a) e = absurd (true≢false (sym e))

some_ask : (a b : Ask) → Some a ≡ Some b → a ≡ b
some_ask a b e = cc

module _ (s : Whole) (who : ℕ) (past : List Performed) (line : ActorLine) where
  -- ---- a disabling

  abbrev AsksFirst : ℕ → Doing → List Exchange → Type 0
  AsksFirst m d [] = d ≡ hosts (record { stage = Disabling m; floors = [] })
  AsksFirst m d (x ∷ asked) = IsAskedKill m (x ∷ asked)

  first_on : (m : ℕ) (known : ℕ → Known) (mine : Known) (d : Doing) (asked : List Exchange) (x : Exchange) → AsksFirst m d asked → doing_ask who known d ≡ Some x.0 → AsksFirst m (after s mine d x.1) (x ∷ asked)
  first_on m known mine d [] x is next =
      let asks : Member m (max 0 (known m).floor) Kill ≡ x.0 = some_ask _ _ (sym (ap (doing_ask who known) is) ∙ next) in
      now_asked m (max 0 (known m).floor) x [] (sym asks)
  first_on m known mine d (y ∷ asked) x it next = more_asked m x (y ∷ asked) it

  disabling : (m : ℕ) (asked : List Exchange) → line.what ≡ what.Disable m → AreAsked s who past (performs line) asked → next_ask s who past (performs line) asked ≡ None → IsAskedKill m asked
  disabling m asked is are over =
      go asked over (line_keeps s who past (performs line) (AsksFirst m) (ap (what_begins s who past) is) (λ d asked x it next fits placed. first_on m (λ i. knows who i (asked ++ all_asked past)) (knows who who (asked ++ all_asked past)) d asked x it next) asked are)
    where
      go : (asked : List Exchange) → next_ask s who past (performs line) asked ≡ None → AsksFirst m (doing s who past (performs line) asked) asked → IsAskedKill m asked
      go [] over it = let bad = sym (ap (doing_ask who (λ i. knows who i (all_asked past))) it) ∙ over in absurd (cc)
      go (x ∷ asked) over it = it

  -- ---- a reset

  -- the members up to one are killed
  abbrev AreKilled : ℕ → List Exchange → Type 0
  AreKilled n asked = (m : ℕ) → 1 ≤ m → m ≤ n → IsAskedKill m asked

  abbrev StageKilled : Stage → ℕ → List Exchange → Type 0
  StageKilled Killing n asked = AreKilled n asked
  StageKilled Resetting n asked = AreKilled (members_of s) asked
  StageKilled (Closing queue) n asked = AreKilled (members_of s) asked
  StageKilled Ended n asked = AreKilled (members_of s) asked
  StageKilled _ n asked = ⊥

  abbrev HasKilled : Doing → List Exchange → Type 0
  HasKilled (hosts going) asked = StageKilled going.stage (length going.floors) asked
  HasKilled _ asked = ⊥

  all_more : (n : ℕ) (x : Exchange) (asked : List Exchange) → AreKilled n asked → AreKilled n (x ∷ asked)
  all_more n x asked all m low high = more_asked m x asked (all m low high)

  killing_on : (floors : List ℕ) (asked : List Exchange) → AreKilled (length floors) asked → StageKilled (killing (members_of s) floors) (length floors) asked
  killing_on floors asked all = go (nat_lt (length floors) (members_of s)) refl
    where
      go : (b : Bool) → nat_lt (length floors) (members_of s) ≡ b → StageKilled (cond b Killing Resetting) (length floors) asked
      go true is = all
      go false is = let most : members_of s ≤ length floors = grind (arith, nat_tests, is) in λ m low high. all m low (omega (arith, high, most))

  closing_on : (b : Bool) (queue n : ℕ) (asked : List Exchange) → AreKilled (members_of s) asked → StageKilled (cond b (Closing queue) Ended) n asked
  closing_on true queue n asked all = all
  closing_on false queue n asked all = all

  stage_on : (known : ℕ → Known) (mine : Known) (stage : Stage) (floors : List ℕ) (asked : List Exchange) (x : Exchange) → StageKilled stage (length floors) asked
      → doing_ask who known (hosts (record { stage = stage; floors = floors })) ≡ Some x.0 → HasKilled (after s mine (hosts (record { stage = stage; floors = floors })) x.1) (x ∷ asked)
  stage_on known mine Killing floors asked x all next = killing_on (floors ++ floor_of x.1 ∷ []) (x ∷ asked) (λ m low high. elim (cases_eq m (length floors + 1)) [
    | inl same ↦
        let asks : Member (length floors + 1) (max 0 (known (length floors + 1)).floor) Kill ≡ x.0 = some_ask _ _ next in
        now_asked m (max 0 (known (length floors + 1)).floor) x asked (sym asks ∙ ap (λ n. Member n (max 0 (known (length floors + 1)).floor) Kill) (sym same))
    | inr other ↦
        let longer = length-append floors (floor_of x.1 ∷ []) in
        let one : length (floor_of x.1 ∷ []) ≡ 1 = refl in
        more_asked m x asked (all m low (omega (arith, high, other, longer, one)))
  ])
  stage_on known mine Resetting floors asked x all next = closing_on (nat_lt 0 s.board.queues) 0 (length floors) (x ∷ asked) (all_more (members_of s) x asked all)
  stage_on known mine (Closing queue) floors asked x all next = closing_on (nat_lt (queue + 1) s.board.queues) (queue + 1) (length floors) (x ∷ asked) (all_more (members_of s) x asked all)
  stage_on known mine Ended floors asked x all next = absurd (cc)
  stage_on known mine (Delivering m frame) floors asked x all next = absurd all
  stage_on known mine (Restarting m) floors asked x all next = absurd all
  stage_on known mine (Disabling m) floors asked x all next = absurd all
  stage_on known mine (Leaving m floor) floors asked x all next = absurd all

  reset_on : (known : ℕ → Known) (mine : Known) (d : Doing) (asked : List Exchange) (x : Exchange) → HasKilled d asked → doing_ask who known d ≡ Some x.0 → HasKilled (after s mine d x.1) (x ∷ asked)
  reset_on known mine (hosts going) asked x all next = stage_on known mine going.stage going.floors asked x all next
  reset_on known mine _ asked x all next = absurd all

  begins_reset : (d : Doing) → d ≡ what_begins s who past what.Reset → HasKilled d []
  begins_reset d is = subst (λ (e : Doing). HasKilled e []) (sym is) (killing_on [] [] (λ m low high. absurd (let none : length {A = ℕ} [] ≡ 0 = refl in omega (arith, low, high, none))))

  over_all : (known : ℕ → Known) (d : Doing) (asked : List Exchange) → HasKilled d asked → doing_ask who known d ≡ None → AreKilled (members_of s) asked
  over_all known (hosts going) asked all over = go going.stage all over
    where
      go : (stage : Stage) → StageKilled stage (length going.floors) asked → doing_ask who known (hosts (record { stage = stage; floors = going.floors })) ≡ None → AreKilled (members_of s) asked
      go Killing all over = absurd (cc)
      go Resetting all over = all
      go (Closing queue) all over = all
      go Ended all over = all
      go (Delivering m frame) all over = absurd all
      go (Restarting m) all over = absurd all
      go (Disabling m) all over = absurd all
      go (Leaving m floor) all over = absurd all
  over_all known _ asked all over = absurd all

  resetting : (asked : List Exchange) → line.what ≡ what.Reset → AreAsked s who past (performs line) asked → next_ask s who past (performs line) asked ≡ None → AreKilled (members_of s) asked
  resetting asked is are over =
      over_all (λ i. knows who i (asked ++ all_asked past)) (doing s who past (performs line) asked) asked
      (line_keeps s who past (performs line) HasKilled (begins_reset (begins s who past (performs line)) (ap (what_begins s who past) is)) (λ d asked x it next fits placed. reset_on (λ i. knows who i (asked ++ all_asked past)) (knows who who (asked ++ all_asked past)) d asked x it next) asked are)
      over

-- ---- what was asked to be killed is killed

module _ (s : Whole) (j : Journal) (legal : IsLegalJournal s j) (who : ℕ) (later earlier : List Performed) (line : ActorLine) (asked : List Exchange) (is : j.past who ≡ later ++ performing line asked ∷ earlier) where
  line_is : AreAsked s who earlier (performs line) asked
  line_is = line_asked s who later (performing line asked) earlier (begun s who (later ++ performing line asked ∷ earlier) (subst (λ (l : List Performed). ArePerformed s who l) is (legal.performed who)))

  over_is : next_ask s who earlier (performs line) asked ≡ None
  over_is = none_is (next_ask s who earlier (performs line) asked) (line_over s who later (performing line asked) earlier (subst (λ (l : List Performed). ArePerformed s who l) is (legal.performed who)))

  asked_killed : (m : ℕ) → IsAskedKill m asked → IsKilled (j.member m)
  asked_killed m it = go it.told refl (earlier_asked s who earlier (performs line) it.stands.later ((Member m it.floor Kill, it.told) ∷ it.stands.earlier) (subst (AreAsked s who earlier (performs line)) it.stands.is line_is)).1
    where
      whole : IsIn (Member m it.floor Kill, it.told) (asked_by j who)
      whole = subst (λ (l : List Performed). IsIn (Member m it.floor Kill, it.told) (all_asked l)) (sym is) (line_in (Member m it.floor Kill, it.told) later (performing line asked) earlier it.stands)

      go : (t : Told) → it.told ≡ t → AnswersAsk (Member m it.floor Kill) it.told → IsKilled (j.member m)
      go (FromMember placed) same fits =
          let stands = member_stands j who m it.floor placed.at Kill placed.reply (legal.recorded who) (subst (λ (t : Told). IsIn (Member m it.floor Kill, t) (asked_by j who)) same whole) in
          let end = killer_above (made_of s m) (j.member m) placed.at who placed.reply (legal.histories.member m) stands in
          record { floor = end.0; killed = end.1 }
      go (FromOwner placed) same fits = absurd (subst (λ (t : Told). AnswersAsk (Member m it.floor Kill) t) same fits)
      go (FromQueue placed) same fits = absurd (subst (λ (t : Told). AnswersAsk (Member m it.floor Kill) t) same fits)
      go NoMemory same fits = absurd (no_memory (subst (λ (x : Exchange). IsPlaced x) (λ i. (Member m it.floor Kill, same i)) placed_is))
        where
          placed_is : IsPlaced (Member m it.floor Kill, it.told)
          placed_is = (earlier_asked s who earlier (performs line) it.stands.later ((Member m it.floor Kill, it.told) ∷ it.stands.earlier) (subst (AreAsked s who earlier (performs line)) it.stands.is line_is)).2

          no_memory : IsPlaced (Member m it.floor Kill, NoMemory) → ⊥
          no_memory p = p

pub disabling_kills : (s : Whole) (j : Journal) → IsLegalJournal s j → (who m : ℕ) (later earlier : List Performed) (line : ActorLine) (asked : List Exchange) → j.past who ≡ later ++ performing line asked ∷ earlier
    → line.what ≡ what.Disable m → IsKilled (j.member m)
disabling_kills s j legal who m later earlier line asked is what_is =
    asked_killed s j legal who later earlier line asked is m (disabling s who earlier line m asked what_is (line_is s j legal who later earlier line asked is) (over_is s j legal who later earlier line asked is))

pub resetting_kills : (s : Whole) (j : Journal) → IsLegalJournal s j → (who : ℕ) (later earlier : List Performed) (line : ActorLine) (asked : List Exchange) → j.past who ≡ later ++ performing line asked ∷ earlier
    → line.what ≡ what.Reset → (m : ℕ) → IsGuestOf s m → IsKilled (j.member m)
resetting_kills s j legal who later earlier line asked is what_is m guest =
    asked_killed s j legal who later earlier line asked is m (resetting s who earlier line asked what_is (line_is s j legal who later earlier line asked is) (over_is s j legal who later earlier line asked is) m guest.0 guest.1)
