-- The runs of the machine are the lines of the grammar.
use Rattle.std.proofs.Common.{◌≡◌, ℕ, zero, suc, ◌+◌, ◌-◌, ◌<◌, ◌≤◌, Bool, true, false, List, [], ◌∷◌, ◌++◌, length, Option, Some, None, refl, sym, ap, subst, ◌∙◌, arith, append_assoc, lit<, if◌then◌else◌}
use Rattle.std.specs.Prelude.{nat_lt, IsSome, ◌↔◌}
use Rattle.std.proofs.lemmas.List.{length_push}
use Rattle.std.proofs.lemmas.Bool.Decides.{nat_tests}
use Rattle.group_calls.specs.declared.ask.Ask.{Ask}
use Rattle.group_calls.specs.declared.ask.Ask.TheVariants.{Owner, Queue, Member}
use Rattle.group_calls.specs.declared.ask.Told.TheVariants.{NoMemory}
use Rattle.group_calls.specs.declared.owner.OwnerCall.TheVariants.{Reset as ResetOwner}
use Rattle.group_calls.specs.declared.member.MemberCall.{MemberCall}
use Rattle.group_calls.specs.declared.member.MemberCall.TheVariants.{Arrive, Flr as ResetMember, Kill}
use Rattle.group_calls.specs.Asks.{AnswersAsk, Exchange, AreAnswered}
use Rattle.host_machine.specs.declared.line.HostLine.{HostLine}
use Rattle.host_machine.specs.declared.line.HostLine.TheVariants.{Frame, Flr, Disable, Reset}
use Rattle.host_machine.specs.declared.stage.Stage.{Stage}
use Rattle.host_machine.specs.declared.stage.Stage.TheVariants.{Delivering, Restarting, Disabling, Leaving, Killing, Resetting, Closing, Ended}
use Rattle.host_machine.specs.declared.stage.Underway.{Underway}
use Rattle.host_machine.specs.Machine.{floor_of, killing, closing, killed, first, ask_on, next_ask, after_stage, after}
use Rattle.host_machine.specs.Grammar.{IsOn, AreKills, floors_shown, AreResets, IsLine, is_delivered, is_restarted, is_disabled, all_are_reset, IsAnsweredLine, BeginsLine}
use Rattle.host_machine.specs.Floors.{IsAtFloor, AreAtFloors}
use Rattle.host_machine.specs.Runs.{after_all, AreAsked, IsWholeRun, IsOpenRun}

some_same : {A : Type 0} (x y : A) → Some x ≡ Some y → x ≡ y
some_same x y e = cc

is_some_next : {A : Type 0} (o : Option A) (y : A) → o ≡ Some y → IsSome o
is_some_next o y e = subst IsSome (sym e) (search)

answered_before : (more xs : List Exchange) → AreAnswered (more ++ xs) → AreAnswered xs
answered_before [] xs answered = answered
answered_before (x ∷ more) xs answered = answered_before more xs answered.1

-- ---- counting

length-floors_shown : (xs : List Exchange) → length (floors_shown xs) ≡ length xs
length-floors_shown [] = refl
length-floors_shown (x ∷ past) = let l = length_push (floors_shown past) (floor_of x.1) in let r = length-floors_shown past in grind (arith, l, r)

is_below : (m n : ℕ) → nat_lt m n ≡ true → m < n
is_below m n e = grind (arith, nat_tests)

is_not_below : (m n : ℕ) → nat_lt m n ≡ false → n ≤ m
is_not_below m n e = grind (arith, nat_tests)

below_is : (m n : ℕ) → m < n → nat_lt m n ≡ true
below_is m n h = grind (arith, nat_tests)

not_below_is : (m n : ℕ) → n ≤ m → nat_lt m n ≡ false
not_below_is m n h = grind (arith, nat_tests)

one_more : (n : ℕ) → suc n ≡ n + 1
one_more n = omega arith

-- what holds of either way, as the test comes out
chosen : (P : Stage → Type 0) (b : Bool) (x y : Stage) → (b ≡ true → P x) → (b ≡ false → P y) → P (if b then x else y)
chosen P true x y here there = here refl
chosen P false x y here there = there refl

-- ---- from a run to the grammar

-- a line that has come to a stage
data Has (members queues : ℕ) : HostLine → Stage → List ℕ → List Exchange → Type 0 where
  delivers : (m : ℕ) (frame : List ℕ) → Has members queues (Frame m frame) (Delivering m frame) [] []
  restarts : (m : ℕ) → Has members queues (Flr m) (Restarting m) [] []
  disables : (m : ℕ) → Has members queues (Disable m) (Disabling m) [] []
  leaves : (m : ℕ) (kill : Exchange) → IsOn m Kill kill → Has members queues (Disable m) (Leaving m (floor_of kill.1)) [] (kill ∷ [])
  kills : (xs : List Exchange) → length xs < members → AreKills xs → Has members queues Reset Killing (floors_shown xs) xs
  resets : (xs : List Exchange) → length xs ≡ members → AreKills xs → Has members queues Reset Resetting (floors_shown xs) xs
  closes : (kills resets : List Exchange) (owner : Exchange)
      → length kills ≡ members → AreKills kills → owner.0 ≡ Owner (ResetOwner (floors_shown kills)) → length resets < queues → AreResets (floors_shown kills) resets
      → Has members queues Reset (Closing (length resets)) (floors_shown kills) (resets ++ owner ∷ kills)
  ends : (line : HostLine) (floors : List ℕ) (xs : List Exchange) → IsLine members queues line xs → Has members queues line Ended floors xs

-- an ask at the floor 0, if it is on a member
abbrev with_floor : Ask → Ask
with_floor (Member id at call) = Member id 0 call
with_floor (Owner call) = Owner call
with_floor (Queue index call) = Queue index call

with_its_own : (ask : Ask) → IsAtFloor ask → with_floor ask ≡ ask
with_its_own (Member id at call) is = ap (λ (f : ℕ). Member id f call) (sym is)
with_its_own (Owner call) is = refl
with_its_own (Queue index call) is = refl

abbrev nearly : Ask → Option Ask
nearly ask = Some (with_floor ask)

module _ (members queues : ℕ) where
  abbrev HasCome : HostLine → Underway → List Exchange → Type 0
  HasCome line going xs = Has members queues line going.stage going.floors xs

  -- after so many kills
  kills_have : (xs : List Exchange) → AreKills xs → length xs ≤ members → HasCome Reset (killed members (floors_shown xs)) xs
  kills_have xs are few =
      let l = length-floors_shown xs in
      chosen (λ stage. Has members queues Reset stage (floors_shown xs) xs) (nat_lt (length (floors_shown xs)) members) Killing Resetting
      (λ e. let below = is_below (length (floors_shown xs)) members e in kills xs (omega arith) are)
      (λ e. let above = is_not_below (length (floors_shown xs)) members e in resets xs (omega arith) are)

  -- and after so many resets
  resets_have : (xs ys : List Exchange) (owner : Exchange) → length xs ≡ members → AreKills xs → owner.0 ≡ Owner (ResetOwner (floors_shown xs)) → AreResets (floors_shown xs) ys → length ys ≤ queues
      → Has members queues Reset (closing queues (length ys)) (floors_shown xs) (ys ++ owner ∷ xs)
  resets_have xs ys owner all are is closed few =
      chosen (λ stage. Has members queues Reset stage (floors_shown xs) (ys ++ owner ∷ xs)) (nat_lt (length ys) queues) (Closing (length ys)) Ended
      (λ e. closes xs ys owner all are is (is_below (length ys) queues e) closed)
      (λ e. let above = is_not_below (length ys) queues e in ends Reset (floors_shown xs) (ys ++ owner ∷ xs) (all_are_reset xs ys owner all are is (omega arith) closed))

  begins : (line : HostLine) → HasCome line (first members line) []
  begins (Frame m frame) = delivers m frame
  begins (Flr m) = restarts m
  begins (Disable m) = disables m
  begins Reset = kills_have [] tt (omega arith)

  has_more : (line : HostLine) (stage : Stage) (floors : List ℕ) (xs : List Exchange) → Has members queues line stage floors xs → (x : Exchange) → ask_on floors stage ≡ Some x.0 → HasCome line (after_stage members queues floors stage x.1) (x ∷ xs)
  has_more _ _ _ _ (delivers m frame) x next = ends (Frame m frame) [] (x ∷ []) (is_delivered m frame x (0, sym (some_same _ _ next)))
  has_more _ _ _ _ (restarts m) x next = ends (Flr m) [] (x ∷ []) (is_restarted m x (0, sym (some_same _ _ next)))
  has_more _ _ _ _ (disables m) x next = leaves m x (0, sym (some_same _ _ next))
  has_more _ _ _ _ (leaves m kill is) x next = ends (Disable m) [] (x ∷ kill ∷ []) (is_disabled m kill x is (sym (some_same _ _ next)))
  has_more _ _ _ _ (kills xs few are) x next =
      let number : x.0 ≡ Member (length xs + 1) 0 Kill = sym (some_same _ _ next) ∙ ap (λ n. Member (n + 1) 0 Kill) (length-floors_shown xs) in
      kills_have (x ∷ xs) ((0, number), are) (omega arith)
  has_more _ _ _ _ (resets xs all are) x next = resets_have xs [] x all are (sym (some_same _ _ next)) tt (omega arith)
  has_more _ _ _ _ (closes xs ys owner all are is few closed) x next =
      subst (λ n. Has members queues Reset (closing queues n) (floors_shown xs) (x ∷ (ys ++ owner ∷ xs))) (one_more (length ys))
      (resets_have xs (x ∷ ys) owner all are is (sym (some_same _ _ next), closed) (omega arith))
  has_more _ _ _ _ (ends line floors xs is) x next = absurd (cc)

  has : (line : HostLine) (xs : List Exchange) → AreAsked members queues line xs → HasCome line (after_all members queues line xs) xs
  has line [] asked = begins line
  has line (x ∷ past) asked = has_more line _ _ past (has line past asked.1) x asked.0

  ended : (line : HostLine) (stage : Stage) (floors : List ℕ) (xs : List Exchange) → Has members queues line stage floors xs → ask_on floors stage ≡ None → IsLine members queues line xs
  ended _ _ _ _ (delivers m frame) none = absurd (cc)
  ended _ _ _ _ (restarts m) none = absurd (cc)
  ended _ _ _ _ (disables m) none = absurd (cc)
  ended _ _ _ _ (leaves m kill is) none = absurd (cc)
  ended _ _ _ _ (kills xs few are) none = absurd (cc)
  ended _ _ _ _ (resets xs all are) none = absurd (cc)
  ended _ _ _ _ (closes xs ys owner all are is few closed) none = absurd (cc)
  ended _ _ _ _ (ends line floors xs is) none = is

  -- at which floors it asks
  at_floor : (floors : List ℕ) (stage : Stage) (ask : Ask) → ask_on floors stage ≡ Some ask → IsAtFloor ask
  at_floor floors (Delivering m frame) ask next = subst IsAtFloor (some_same _ _ next) refl
  at_floor floors (Restarting m) ask next = subst IsAtFloor (some_same _ _ next) refl
  at_floor floors (Disabling m) ask next = subst IsAtFloor (some_same _ _ next) refl
  at_floor floors (Leaving m floor) ask next = subst IsAtFloor (some_same _ _ next) tt
  at_floor floors Killing ask next = subst IsAtFloor (some_same _ _ next) refl
  at_floor floors Resetting ask next = subst IsAtFloor (some_same _ _ next) tt
  at_floor floors (Closing queue) ask next = subst IsAtFloor (some_same _ _ next) tt
  at_floor floors Ended ask next = absurd (cc)

  at_floors : (line : HostLine) (xs : List Exchange) → AreAsked members queues line xs → AreAtFloors xs
  at_floors line [] asked = tt
  at_floors line (x ∷ past) asked = (at_floor _ _ x.0 asked.0, at_floors line past asked.1)

  line_of : (line : HostLine) (xs : List Exchange) → IsWholeRun members queues line xs → IsAnsweredLine members queues line xs × AreAtFloors xs
  line_of line xs run = ((run.0, ended line _ _ xs (has line xs run.1) run.2), at_floors line xs run.1)

  -- ---- and from the grammar to a run

  -- each ask is the machine's next, but for its floor
  abbrev AreNearlyAsked : HostLine → List Exchange → Type 0
  AreNearlyAsked line [] = Unit {0}
  AreNearlyAsked line (x ∷ past) = (next_ask (after_all members queues line past) ≡ Some (with_floor x.0)) × AreNearlyAsked line past

  asked_at : (line : HostLine) (xs : List Exchange) → AreNearlyAsked line xs → AreAtFloors xs → AreAsked members queues line xs
  asked_at line [] asked at = tt
  asked_at line (x ∷ past) asked at = (asked.0 ∙ ap Some (with_its_own x.0 at.0), asked_at line past asked.1 at.1)

  kills_run : (xs : List Exchange) → AreKills xs → length xs ≤ members → AreNearlyAsked Reset xs × (after_all members queues Reset xs ≡ killed members (floors_shown xs))
  kills_run [] are few = (tt, refl)
  kills_run (x ∷ past) are few =
      let earlier = kills_run past are.1 (omega arith) in
      let l = length-floors_shown past in
      let open_yet : killing members (floors_shown past) ≡ Killing = ap (λ b. if b then Killing else Resetting) (below_is (length (floors_shown past)) members (omega arith)) in
      let now : after_all members queues Reset past ≡ record { stage = Killing; floors = floors_shown past } = earlier.1 ∙ ap (λ stage. record { stage = stage; floors = floors_shown past }) open_yet in
      ((ap next_ask now ∙ ap (λ n. Some (Member (n + 1) 0 Kill)) l ∙ ap nearly (sym are.0.1), earlier.0), ap (λ going. after members queues going x.1) now)

  resets_run : (xs ys : List Exchange) (owner : Exchange) → length xs ≡ members → AreKills xs → owner.0 ≡ Owner (ResetOwner (floors_shown xs)) → AreResets (floors_shown xs) ys → length ys ≤ queues
      → AreNearlyAsked Reset (ys ++ owner ∷ xs) × (after_all members queues Reset (ys ++ owner ∷ xs) ≡ record { stage = closing queues (length ys); floors = floors_shown xs })
  resets_run xs [] owner all are is closed few =
      let earlier = kills_run xs are (omega arith) in
      let l = length-floors_shown xs in
      let done : killing members (floors_shown xs) ≡ Resetting = ap (λ b. if b then Killing else Resetting) (not_below_is (length (floors_shown xs)) members (omega arith)) in
      let now : after_all members queues Reset xs ≡ record { stage = Resetting; floors = floors_shown xs } = earlier.1 ∙ ap (λ stage. record { stage = stage; floors = floors_shown xs }) done in
      ((ap next_ask now ∙ ap nearly (sym is), earlier.0), ap (λ going. after members queues going owner.1) now)
  resets_run xs (y ∷ ys) owner all are is closed few =
      let earlier = resets_run xs ys owner all are is closed.1 (omega arith) in
      let open_yet : closing queues (length ys) ≡ Closing (length ys) = ap (λ b. if b then Closing (length ys) else Ended) (below_is (length ys) queues (omega arith)) in
      let now : after_all members queues Reset (ys ++ owner ∷ xs) ≡ record { stage = Closing (length ys); floors = floors_shown xs } = earlier.1 ∙ ap (λ stage. record { stage = stage; floors = floors_shown xs }) open_yet in (
        (ap next_ask now ∙ ap nearly (sym closed.0), earlier.0),
        ap (λ going. after members queues going y.1) now ∙ ap (λ n. record { stage = closing queues n; floors = floors_shown xs }) (sym (one_more (length ys))),
      )

  run_of : (line : HostLine) (xs : List Exchange) → IsLine members queues line xs → AreNearlyAsked line xs × (next_ask (after_all members queues line xs) ≡ None)
  run_of _ _ (is_delivered m frame x is) = ((ap nearly (sym is.1), tt), refl)
  run_of _ _ (is_restarted m x is) = ((ap nearly (sym is.1), tt), refl)
  run_of _ _ (is_disabled m kill gone is is_gone) = ((ap nearly (sym is_gone), (ap nearly (sym is.1), tt)), refl)
  run_of _ _ (all_are_reset xs ys owner all are is every closed) =
      let run = resets_run xs ys owner all are is closed (omega arith) in
      let done : closing queues (length ys) ≡ Ended = ap (λ b. if b then Closing (length ys) else Ended) (not_below_is (length ys) queues (omega arith)) in
      (run.0, ap next_ask (run.1 ∙ ap (λ stage. record { stage = stage; floors = floors_shown xs }) done))

  -- ---- an open run is the beginning of a line, which the cells may end so: there was never memory

  spares : (floors : List ℕ) (stage : Stage) (ask : Ask) → ask_on floors stage ≡ Some ask → AnswersAsk ask NoMemory
  spares floors (Delivering m frame) ask next = subst (λ a. AnswersAsk a NoMemory) (some_same _ _ next) tt
  spares floors (Restarting m) ask next = subst (λ a. AnswersAsk a NoMemory) (some_same _ _ next) tt
  spares floors (Disabling m) ask next = subst (λ a. AnswersAsk a NoMemory) (some_same _ _ next) tt
  spares floors (Leaving m floor) ask next = subst (λ a. AnswersAsk a NoMemory) (some_same _ _ next) tt
  spares floors Killing ask next = subst (λ a. AnswersAsk a NoMemory) (some_same _ _ next) tt
  spares floors Resetting ask next = subst (λ a. AnswersAsk a NoMemory) (some_same _ _ next) tt
  spares floors (Closing queue) ask next = subst (λ a. AnswersAsk a NoMemory) (some_same _ _ next) refl
  spares floors Ended ask next = absurd (cc)

  -- more than the asks that are left
  abbrev left : List ℕ → Stage → ℕ
  left floors (Delivering m frame) = 1
  left floors (Restarting m) = 1
  left floors (Disabling m) = 2
  left floors (Leaving m floor) = 1
  left floors Killing = (members - length floors) + (queues + 3)
  left floors Resetting = queues + 2
  left floors (Closing queue) = (queues - queue) + 1
  left floors Ended = 0

  lower : (floors : List ℕ) (stage : Stage) (ask : Ask) → ask_on floors stage ≡ Some ask → left (after_stage members queues floors stage NoMemory).floors (after_stage members queues floors stage NoMemory).stage < left floors stage
  lower floors (Delivering m frame) ask next = lit< tt
  lower floors (Restarting m) ask next = lit< tt
  lower floors (Disabling m) ask next = lit< tt
  lower floors (Leaving m floor) ask next = lit< tt
  lower floors Killing ask next =
      let shown = floors ++ 0 ∷ [] in
      let l = length_push floors 0 in
      chosen (λ stage. left shown stage < (members - length floors) + (queues + 3)) (nat_lt (length shown) members) Killing Resetting
      (λ e. let below = is_below (length shown) members e in let h : (members - length shown) + (queues + 3) < (members - length floors) + (queues + 3) = omega arith in h)
      (λ e. let h : queues + 2 < (members - length floors) + (queues + 3) = omega arith in h)
  lower floors Resetting ask next =
      chosen (λ stage. left floors stage < queues + 2) (nat_lt 0 queues) (Closing 0) Ended
      (λ e. let h : (queues - 0) + 1 < queues + 2 = omega arith in h)
      (λ e. let h : 0 < queues + 2 = omega arith in h)
  lower floors (Closing queue) ask next =
      chosen (λ stage. left floors stage < (queues - queue) + 1) (nat_lt (queue + 1) queues) (Closing (queue + 1)) Ended
      (λ e. let below = is_below (queue + 1) queues e in let h : (queues - (queue + 1)) + 1 < (queues - queue) + 1 = omega arith in h)
      (λ e. let h : 0 < (queues - queue) + 1 = omega arith in h)
  lower floors Ended ask next = absurd (cc)

  abbrev left_after : HostLine → List Exchange → ℕ
  left_after line xs = left (after_all members queues line xs).floors (after_all members queues line xs).stage

  abbrev Finishes : HostLine → List Exchange → Type 0
  Finishes line xs = (more : List Exchange) × IsWholeRun members queues line (more ++ xs)

  onwards : (line : HostLine) (xs : List Exchange) (x : Exchange) → Finishes line (x ∷ xs) → Finishes line xs
  onwards line xs x (more, run) = (more ++ x ∷ [], subst (IsWholeRun members queues line) (sym (append_assoc more (x ∷ []) xs)) run)

  abbrev HasRun : HostLine → List Exchange → Type 0
  HasRun line xs = AreAnswered xs × AreAsked members queues line xs

  one_asked : (line : HostLine) (xs : List Exchange) (ask : Ask) → HasRun line xs → next_ask (after_all members queues line xs) ≡ Some ask → HasRun line ((ask, NoMemory) ∷ xs)
  one_asked line xs ask run next =
      let going = after_all members queues line xs in
      ((spares going.floors going.stage ask next, run.0), (next, run.1))

  finishes : (n : ℕ) (line : HostLine) (xs : List Exchange) → HasRun line xs → left_after line xs ≤ n → (o : Option Ask) → next_ask (after_all members queues line xs) ≡ o → Finishes line xs
  finishes n line xs run few None next = ([], (run.0, run.1, next))
  finishes zero line xs run few (Some ask) next =
      let going = after_all members queues line xs in
      let less = lower going.floors going.stage ask next in
      absurd (omega arith)
  finishes (suc n) line xs run few (Some ask) next =
      let going = after_all members queues line xs in
      let less = lower going.floors going.stage ask next in
      onwards line xs (ask, NoMemory) (finishes n line ((ask, NoMemory) ∷ xs) (one_asked line xs ask run next) (omega arith) (next_ask (after_all members queues line ((ask, NoMemory) ∷ xs))) refl)

  begins_line : (line : HostLine) (xs : List Exchange) → HasRun line xs → (o : Option Ask) → next_ask (after_all members queues line xs) ≡ o → IsSome o → BeginsLine members queues line xs
  begins_line line xs run None next some = absurd (cc)
  begins_line line xs run (Some ask) next some =
      let x : Exchange = (ask, NoMemory) in
      let rest = finishes (left_after line (x ∷ xs)) line (x ∷ xs) (one_asked line xs ask run next) (omega arith) (next_ask (after_all members queues line (x ∷ xs))) refl in
      (x, rest.0, (line_of line (rest.0 ++ x ∷ xs) rest.1).0)

  asked_before : (line : HostLine) (more xs : List Exchange) → AreNearlyAsked line (more ++ xs) → AreNearlyAsked line xs
  asked_before line [] xs asked = asked
  asked_before line (x ∷ more) xs asked = asked_before line more xs asked.1

  open_run : (line : HostLine) (xs : List Exchange) → BeginsLine members queues line xs → AreAtFloors xs → IsOpenRun members queues line xs
  open_run line xs (next, more, is) at =
      let asked = asked_before line more (next ∷ xs) (run_of line (more ++ next ∷ xs) is.1).0 in
      ((answered_before more (next ∷ xs) is.0).1, asked_at line xs asked.1 at, is_some_next (next_ask (after_all members queues line xs)) (with_floor next.0) asked.0)

-- ---- both ways

pub whole : (members queues : ℕ) (line : HostLine) (xs : List Exchange) → IsWholeRun members queues line xs ↔ (IsAnsweredLine members queues line xs × AreAtFloors xs)
whole members queues line xs =
    (line_of members queues line xs, λ is. let run = run_of members queues line xs is.0.1 in (is.0.0, asked_at members queues line xs run.0 is.1, run.1))

pub begun : (members queues : ℕ) (line : HostLine) (xs : List Exchange) → IsOpenRun members queues line xs ↔ (BeginsLine members queues line xs × AreAtFloors xs)
begun members queues line xs = (
  λ run. (begins_line members queues line xs (run.0, run.1) (next_ask (after_all members queues line xs)) refl run.2, at_floors members queues line xs run.1),
  λ b. open_run members queues line xs b.0 b.1,
)
