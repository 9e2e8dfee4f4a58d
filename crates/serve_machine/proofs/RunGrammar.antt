-- The runs of the machine are the services of the grammar.
use Rattle.std.proofs.Common.{◌≡◌, ℕ, ◌⊎◌, inl, inr, List, [], ◌∷◌, ◌++◌, Option, Some, None, refl, sym, ap, subst, ◌∙◌, lit≤}
use Rattle.std.specs.Prelude.{unwrap_or, IsSome, ◌↔◌}
use Rattle.admin_wire.specs.declared.command.LegacyCmd.{LegacyCmd}
use Rattle.history.specs.Look.{latest_or}
use Rattle.group_calls.specs.declared.ask.Ask.{Ask}
use Rattle.group_calls.specs.declared.ask.Ask.TheVariants.{Owner, Queue, Member}
use Rattle.group_calls.specs.declared.ask.Told.{Told}
use Rattle.group_calls.specs.declared.ask.Told.TheVariants.{Owner as FromOwner, Queue as FromQueue, Member as FromMember, NoMemory}
use Rattle.group_calls.specs.declared.owner.OwnerCall.TheVariants.{Judge}
use Rattle.group_calls.specs.declared.queue.RingCall.TheVariants.{Pop, Complete}
use Rattle.group_calls.specs.declared.queue.RingReply.{RingReply}
use Rattle.group_calls.specs.declared.queue.RingReply.TheVariants.{Fetched as Fetches, Empty, InService, Stale}
use Rattle.group_calls.specs.declared.member.MemberCall.TheVariants.{Act}
use Rattle.group_calls.specs.Asks.{AnswersAsk, Exchange, AreAnswered}
use Rattle.group_calls.specs.Queue.{Posted}
use Rattle.serve_machine.specs.declared.stage.Fetched.{Fetched}
use Rattle.serve_machine.specs.declared.stage.Stage.{Stage}
use Rattle.serve_machine.specs.declared.stage.Stage.TheVariants.{Popping, Judging, Acting, Ended}
use Rattle.serve_machine.specs.Completion.{completed_with, completed_under}
use Rattle.serve_machine.specs.Service.{next_ask, after, after_pop, after_judge, completing}
use Rattle.serve_machine.specs.Grammar.{FindsNothing, Finds, IsPop, IsJudge, passed_on, IsAct, IsService, finds_nothing, is_decided, is_carried_out, IsAnsweredService, BeginsService}
use Rattle.serve_machine.specs.Floors.{floor_fetched, IsAtFloor, AreAtFloors}
use Rattle.serve_machine.specs.Runs.{stage_after, AreAsked, IsWholeRun, IsOpenRun}
use Rattle.serve_machine.proofs.Replies.{IsPopReply, IsPopTold, pop_told}

some_same : {A : Type 0} (x y : A) → Some x ≡ Some y → x ≡ y
some_same x y e = cc

-- ---- stages in the words of the grammar

abbrev kept : Posted → Fetched
kept p = record { seq = p.seq; writable = p.writable; tag = p.tag }

abbrev judging : Posted → Stage
judging p = Judging (kept p) p.bytes

abbrev acting : Posted → ℕ × LegacyCmd → Stage
acting p to = Acting (kept p) to.0 to.1

-- ---- the stage after an answer

nothing_stage : (told : Told) → FindsNothing told → after_pop told ≡ Ended
nothing_stage (FromQueue placed) nothing = step placed.at placed.reply nothing
  where
    step : (at : ℕ) (reply : RingReply) → FindsNothing (FromQueue (record { at = at; reply = reply })) → after_pop (FromQueue (record { at = at; reply = reply })) ≡ Ended
    step at Empty nothing = refl
    step at (InService seq) nothing = refl
    step at _ nothing = absurd nothing
nothing_stage _ nothing = absurd nothing

found_stage : (p : Posted) (told : Told) → Finds p told → after_pop told ≡ judging p
found_stage p (FromQueue placed) finds = ap (λ reply. after_pop (FromQueue (record { at = placed.at; reply = reply }))) finds
found_stage p _ finds = absurd finds

-- a Judge is followed by an Act or a Complete
abbrev judged : Posted → Told → Option (ℕ × LegacyCmd) → Stage
judged p told o = elim o [ Some to ↦ acting p to | None ↦ completing (kept p) told ]

judged_stage : (p : Posted) (told : Told) (o : Option (ℕ × LegacyCmd)) → passed_on told ≡ o → after_judge (kept p) told ≡ judged p told o
judged_stage p told o passed = ap (judged p told) passed

-- ---- the floor of an Act

-- what a Judge that is passed on was answered tells no floor
no_floor : (told : Told) (to : ℕ × LegacyCmd) (ask : Ask) → passed_on told ≡ Some to → floor_fetched (ask, told) ≡ None
no_floor (FromOwner placed) to ask passed = refl
no_floor (FromQueue placed) to ask passed = absurd (cc)
no_floor (FromMember placed) to ask passed = refl
no_floor NoMemory to ask passed = refl

found_floor : (p : Posted) (ask : Ask) (told : Told) → Finds p told → floor_fetched (ask, told) ≡ Some p.tag.floor
found_floor p ask (FromQueue placed) finds = ap (λ (reply : RingReply). floor_fetched (ask, FromQueue (record { at = placed.at; reply = reply }))) finds
found_floor p ask (FromOwner placed) finds = absurd finds
found_floor p ask (FromMember placed) finds = absurd finds
found_floor p ask NoMemory finds = absurd finds

act_floor : (p : Posted) (to : ℕ × LegacyCmd) (pop judge : Exchange) → Finds p pop.1 → passed_on judge.1 ≡ Some to → latest_or 0 floor_fetched (judge ∷ pop ∷ []) ≡ p.tag.floor
act_floor p to pop judge finds passed =
    ap (λ (o : Option ℕ). unwrap_or o (latest_or 0 floor_fetched (pop ∷ []))) (no_floor judge.1 to judge.0 passed)
    ∙ ap (λ (o : Option ℕ). unwrap_or o 0) (found_floor p pop.0 pop.1 finds)

-- ---- the answers to a Pop

pop_answered : (k : ℕ) (x : Exchange) → IsPop k x → AnswersAsk x.0 x.1 → IsPopTold x.1
pop_answered k x is answers = pop_told k x.1 (subst (λ ask. AnswersAsk ask x.1) is answers)

-- ---- from a run to the grammar

-- a service that has come to a stage
data Has (k : ℕ) : Stage → List Exchange → Type 0 where
  begins : Has k Popping []
  found : (p : Posted) (pop : Exchange) → IsPop k pop → Finds p pop.1 → Has k (judging p) (pop ∷ [])
  passes : (p : Posted) (to : ℕ × LegacyCmd) (pop judge : Exchange) → IsPop k pop → Finds p pop.1 → IsJudge p judge → passed_on judge.1 ≡ Some to → Has k (acting p to) (judge ∷ pop ∷ [])
  decides : (p : Posted) (pop judge : Exchange) → IsPop k pop → Finds p pop.1 → IsJudge p judge → passed_on judge.1 ≡ None → Has k (completing (kept p) judge.1) (judge ∷ pop ∷ [])
  carries : (p : Posted) (to : ℕ × LegacyCmd) (pop judge act : Exchange) → IsPop k pop → Finds p pop.1 → IsJudge p judge → passed_on judge.1 ≡ Some to → IsAct to act → Has k (completing (kept p) act.1) (act ∷ judge ∷ pop ∷ [])
  ends : (xs : List Exchange) → IsService k xs → Has k Ended xs

pop_finds : (told : Told) → IsPopTold told → FindsNothing told ⊎ ((p : Posted) × Finds p told)
pop_finds (FromQueue placed) kind = step placed.at placed.reply kind
  where
    step : (at : ℕ) (reply : RingReply) → IsPopReply reply → FindsNothing (FromQueue (record { at = at; reply = reply })) ⊎ ((p : Posted) × Finds p (FromQueue (record { at = at; reply = reply })))
    step at Empty kind = inl tt
    step at (InService seq) kind = inl tt
    step at (Fetches seq bytes writable tag) kind = inr (record { seq = seq; bytes = bytes; writable = writable; tag = tag }, refl)
    step at _ kind = absurd kind
pop_finds _ kind = absurd kind

pop_has : (k : ℕ) (pop : Exchange) → IsPop k pop → FindsNothing pop.1 ⊎ ((p : Posted) × Finds p pop.1) → Has k (after_pop pop.1) (pop ∷ [])
pop_has k pop is (inl nothing) = subst (λ stage. Has k stage (pop ∷ [])) (sym (nothing_stage pop.1 nothing)) (ends (pop ∷ []) (finds_nothing pop is nothing))
pop_has k pop is (inr some) = subst (λ stage. Has k stage (pop ∷ [])) (sym (found_stage some.0 pop.1 some.1)) (found some.0 pop is some.1)

judge_has : (k : ℕ) (p : Posted) (pop judge : Exchange) → IsPop k pop → Finds p pop.1 → IsJudge p judge → (o : Option (ℕ × LegacyCmd)) → passed_on judge.1 ≡ o → Has k (judged p judge.1 o) (judge ∷ pop ∷ [])
judge_has k p pop judge is_pop finds is None passed = decides p pop judge is_pop finds is passed
judge_has k p pop judge is_pop finds is (Some to) passed = passes p to pop judge is_pop finds is passed

has_more : (k : ℕ) (stage : Stage) (xs : List Exchange) → Has k stage xs → (x : Exchange) → next_ask k stage ≡ Some x.0 → AnswersAsk x.0 x.1 → Has k (after stage x.1) (x ∷ xs)
has_more k _ _ begins x next answers =
    let is : IsPop k x = sym (some_same _ _ next) in
    pop_has k x is (pop_finds x.1 (pop_answered k x is answers))
has_more k _ _ (found p pop is_pop finds) x next answers = judge_has k p pop x is_pop finds (sym (some_same _ _ next)) (passed_on x.1) refl
has_more k _ _ (passes p to pop judge is_pop finds is_judge passed) x next answers = carries p to pop judge x is_pop finds is_judge passed (p.tag.floor, sym (some_same _ _ next))
has_more k _ _ (decides p pop judge is_pop finds is_judge passed) x next answers =
    ends (x ∷ judge ∷ pop ∷ []) (is_decided p pop judge x is_pop finds is_judge passed (sym (some_same _ _ next)))
has_more k _ _ (carries p to pop judge act is_pop finds is_judge passed is_act) x next answers =
    ends (x ∷ act ∷ judge ∷ pop ∷ []) (is_carried_out p to pop judge act x is_pop finds is_judge passed is_act (sym (some_same _ _ next)))
has_more k _ _ (ends xs service) x next answers = absurd (cc)

has : (k : ℕ) (xs : List Exchange) → AreAnswered xs → AreAsked k xs → Has k (stage_after xs) xs
has k [] answered asked = begins
has k (x ∷ past) answered asked = has_more k (stage_after past) past (has k past answered.1 asked.1) x asked.0 answered.0

-- at which floor it asks
at_floor : (k : ℕ) (stage : Stage) (xs : List Exchange) → Has k stage xs → (ask : Ask) → next_ask k stage ≡ Some ask → IsAtFloor (latest_or 0 floor_fetched xs) ask
at_floor k _ _ begins ask next = subst (IsAtFloor 0) (some_same _ _ next) tt
at_floor k _ _ (found p pop is_pop finds) ask next = subst (IsAtFloor _) (some_same _ _ next) tt
at_floor k _ _ (passes p to pop judge is_pop finds is_judge passed) ask next = subst (IsAtFloor _) (some_same _ _ next) (sym (act_floor p to pop judge finds passed))
at_floor k _ _ (decides p pop judge is_pop finds is_judge passed) ask next = subst (IsAtFloor _) (some_same _ _ next) tt
at_floor k _ _ (carries p to pop judge act is_pop finds is_judge passed is_act) ask next = subst (IsAtFloor _) (some_same _ _ next) tt
at_floor k _ _ (ends xs service) ask next = absurd (cc)

at_floors : (k : ℕ) (xs : List Exchange) → AreAnswered xs → AreAsked k xs → AreAtFloors xs
at_floors k [] answered asked = tt
at_floors k (x ∷ past) answered asked = (at_floor k (stage_after past) past (has k past answered.1 asked.1) x.0 asked.0, at_floors k past answered.1 asked.1)

ended : (k : ℕ) (stage : Stage) (xs : List Exchange) → Has k stage xs → next_ask k stage ≡ None → IsService k xs
ended k _ _ begins none = absurd (cc)
ended k _ _ (found p pop is_pop finds) none = absurd (cc)
ended k _ _ (passes p to pop judge is_pop finds is_judge passed) none = absurd (cc)
ended k _ _ (decides p pop judge is_pop finds is_judge passed) none = absurd (cc)
ended k _ _ (carries p to pop judge act is_pop finds is_judge passed is_act) none = absurd (cc)
ended k _ _ (ends xs service) none = service

-- ---- an open run is the beginning of a service, which the cells may end so: there was no memory, and the command was completed by another

popped_nothing : Told
popped_nothing = FromQueue (record { at = 0; reply = Empty })

completed_late : Told
completed_late = FromQueue (record { at = 0; reply = Stale })

pop_may_find_nothing : (k : ℕ) → AnswersAsk (Queue k Pop) popped_nothing
unfolding popped_nothing
pop_may_find_nothing k = (4, refl, record { history = []; legal = tt; place = refl; most = lit≤ tt; reply = refl })

complete_may_be_late : (k s : ℕ) (bytes : List ℕ) (floor : ℕ) → AnswersAsk (Queue k (Complete s bytes floor)) completed_late
unfolding completed_late
complete_may_be_late k s bytes floor = (4, refl, record { history = []; legal = tt; place = refl; most = lit≤ tt; reply = refl })

abbrev completion : ℕ → Posted → Told → Exchange
completion k p told = (Queue k (Complete p.seq (completed_with told p.writable) (completed_under p.tag.floor told)), completed_late)

completion_answered : (k : ℕ) (p : Posted) (told : Told) → AnswersAsk (completion k p told).0 completed_late
completion_answered k p told = complete_may_be_late k p.seq (completed_with told p.writable) (completed_under p.tag.floor told)

finds_none : FindsNothing popped_nothing
unfolding popped_nothing
finds_none = tt

comes_on : (k : ℕ) (stage : Stage) (xs : List Exchange) → Has k stage xs → AreAnswered xs → IsSome (next_ask k stage) → BeginsService k xs
comes_on k _ _ begins answered some = ((Queue k Pop, popped_nothing), [], ((pop_may_find_nothing k, tt), finds_nothing (Queue k Pop, popped_nothing) refl finds_none))
comes_on k _ _ (found p pop is_pop finds) answered some =
    let judge : Exchange = (Owner (Judge p.bytes p.writable), NoMemory) in
    (judge, completion k p NoMemory ∷ [], ((completion_answered k p NoMemory, (tt, answered)), is_decided p pop judge (completion k p NoMemory) is_pop finds refl refl refl))
comes_on k _ _ (passes p to pop judge is_pop finds is_judge passed) answered some =
    let act : Exchange = (Member to.0 p.tag.floor (Act to.1), NoMemory) in
    (act, completion k p NoMemory ∷ [], ((completion_answered k p NoMemory, (tt, answered)), is_carried_out p to pop judge act (completion k p NoMemory) is_pop finds is_judge passed (p.tag.floor, refl) refl))
comes_on k _ _ (decides p pop judge is_pop finds is_judge passed) answered some =
    (completion k p judge.1, [], ((completion_answered k p judge.1, answered), is_decided p pop judge (completion k p judge.1) is_pop finds is_judge passed refl))
comes_on k _ _ (carries p to pop judge act is_pop finds is_judge passed is_act) answered some =
    (completion k p act.1, [], ((completion_answered k p act.1, answered), is_carried_out p to pop judge act (completion k p act.1) is_pop finds is_judge passed is_act refl))
comes_on k _ _ (ends xs service) answered some = absurd (cc)

-- ---- and from the grammar to a run

-- an ask at this floor, if it is on a member
abbrev with_floor : ℕ → Ask → Ask
with_floor floor (Member id at call) = Member id floor call
with_floor floor (Owner call) = Owner call
with_floor floor (Queue index call) = Queue index call

with_its_own : (floor : ℕ) (ask : Ask) → IsAtFloor floor ask → with_floor floor ask ≡ ask
with_its_own floor (Member id at call) is = ap (λ (f : ℕ). Member id f call) (sym is)
with_its_own floor (Owner call) is = refl
with_its_own floor (Queue index call) is = refl

-- each ask is the machine's next, but for its floor
abbrev AreNearlyAsked : ℕ → List Exchange → Type 0
AreNearlyAsked k [] = Unit {0}
AreNearlyAsked k (x ∷ past) = (next_ask k (stage_after past) ≡ Some (with_floor (latest_or 0 floor_fetched past) x.0)) × AreNearlyAsked k past

asked_at : (k : ℕ) (xs : List Exchange) → AreNearlyAsked k xs → AreAtFloors xs → AreAsked k xs
asked_at k [] asked at = tt
asked_at k (x ∷ past) asked at = (asked.0 ∙ ap Some (with_its_own (latest_or 0 floor_fetched past) x.0 at.0), asked_at k past asked.1 at.1)

-- behind these exchanges
abbrev nearly : List Exchange → Ask → Option Ask
nearly past ask = Some (with_floor (latest_or 0 floor_fetched past) ask)

pop_runs : (k : ℕ) (pop : Exchange) → IsPop k pop → AreNearlyAsked k (pop ∷ [])
pop_runs k pop is = (ap (nearly []) (sym is), tt)

judge_runs : (k : ℕ) (p : Posted) (pop judge : Exchange) → IsPop k pop → Finds p pop.1 → IsJudge p judge → AreNearlyAsked k (judge ∷ pop ∷ [])
judge_runs k p pop judge is_pop finds is = (ap (next_ask k) (found_stage p pop.1 finds) ∙ ap (nearly (pop ∷ [])) (sym is), pop_runs k pop is_pop)

-- the stage after a Pop and a Judge
second : (p : Posted) (pop judge : Exchange) → Finds p pop.1 → stage_after (judge ∷ pop ∷ []) ≡ after_judge (kept p) judge.1
second p pop judge finds = ap (λ stage. after stage judge.1) (found_stage p pop.1 finds)

run_of : (k : ℕ) (xs : List Exchange) → IsService k xs → AreNearlyAsked k xs × (next_ask k (stage_after xs) ≡ None)
run_of k _ (finds_nothing pop is_pop nothing) = (pop_runs k pop is_pop, ap (next_ask k) (nothing_stage pop.1 nothing))
run_of k _ (is_decided p pop judge complete is_pop finds is_judge passed is_complete) =
    let stage = second p pop judge finds ∙ judged_stage p judge.1 None passed in
    ((ap (next_ask k) stage ∙ ap (nearly (judge ∷ pop ∷ [])) (sym is_complete), judge_runs k p pop judge is_pop finds is_judge), ap (λ s. next_ask k (after s complete.1)) stage)
run_of k _ (is_carried_out p to pop judge act complete is_pop finds is_judge passed is_act is_complete) =
    let before = second p pop judge finds ∙ judged_stage p judge.1 (Some to) passed in
    let stage = ap (λ s. after s act.1) before in
    let floor_is = ap (λ (f : ℕ). Some (Member to.0 f (Act to.1))) (sym (act_floor p to pop judge finds passed)) in
    let asks = ap (nearly (judge ∷ pop ∷ [])) (sym is_act.1) in (
      (ap (next_ask k) stage ∙ ap (nearly (act ∷ judge ∷ pop ∷ [])) (sym is_complete), (ap (next_ask k) before ∙ floor_is ∙ asks, judge_runs k p pop judge is_pop finds is_judge)),
      ap (λ s. next_ask k (after s complete.1)) stage,
    )

asked_before : (k : ℕ) (more xs : List Exchange) → AreNearlyAsked k (more ++ xs) → AreNearlyAsked k xs
asked_before k [] xs asked = asked
asked_before k (x ∷ more) xs asked = asked_before k more xs asked.1

answered_before : (more xs : List Exchange) → AreAnswered (more ++ xs) → AreAnswered xs
answered_before [] xs answered = answered
answered_before (x ∷ more) xs answered = answered_before more xs answered.1

is_some_next : {A : Type 0} (o : Option A) (y : A) → o ≡ Some y → IsSome o
is_some_next o y e = subst IsSome (sym e) (search)

-- ---- both ways

pub whole : (k : ℕ) (xs : List Exchange) → IsWholeRun k xs ↔ (IsAnsweredService k xs × AreAtFloors xs)
whole k xs = (
  λ run. ((run.0, ended k (stage_after xs) xs (has k xs run.0 run.1) run.2), at_floors k xs run.0 run.1),
  λ is. let run = run_of k xs is.0.1 in (is.0.0, asked_at k xs run.0 is.1, run.1),
)

pub begun : (k : ℕ) (xs : List Exchange) → IsOpenRun k xs ↔ (BeginsService k xs × AreAtFloors xs)
begun k xs = (
  λ run. (comes_on k (stage_after xs) xs (has k xs run.0 run.1) run.0 run.2, at_floors k xs run.0 run.1),
  λ b.
      let next = b.0.0 in
      let more = b.0.1 in
      let asked = asked_before k more (next ∷ xs) (run_of k (more ++ next ∷ xs) b.0.2.1).0 in
      ((answered_before more (next ∷ xs) b.0.2.0).1, asked_at k xs asked.1 b.1, is_some_next (next_ask k (stage_after xs)) (with_floor (latest_or 0 floor_fetched xs) next.0) asked.0),
)
