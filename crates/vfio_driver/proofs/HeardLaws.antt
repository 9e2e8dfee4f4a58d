-- What the machine asks, knows and answers is by what it heard.
use Rattle.std.proofs.Common.{◌≡◌, ◌⊎◌, inl, inr, ℕ, ◌+◌, Bool, true, false, List, [], ◌∷◌, ◌++◌, Option, Some, None, refl, sym, ap, subst, ◌∙◌, if◌then◌else◌}
use Rattle.std.specs.Prelude.{IsSome, ◌↔◌, ◌||◌, max}
use Rattle.admin_wire.specs.Numbers.{fixed_size}
use Rattle.admin_wire.specs.Writing.{legacy_bytes, result_length}
use Rattle.group_calls.specs.declared.ask.Ask.{Ask}
use Rattle.group_calls.specs.declared.ask.Ask.TheVariants.{Queue, Member}
use Rattle.group_calls.specs.declared.ask.Told.TheVariants.{Queue as FromQueue}
use Rattle.group_calls.specs.declared.queue.RingCall.TheVariants.{Post, Take}
use Rattle.group_calls.specs.declared.queue.RingReply.TheVariants.{Full}
use Rattle.group_calls.specs.declared.member.MemberCall.TheVariants.{Notify}
use Rattle.group_calls.specs.Asks.{AnswersAsk, Exchange, AreAnswered}
use Rattle.io_bar.specs.declared.access.Route.{Route}
use Rattle.io_bar.specs.declared.access.Route.TheVariants.{Command, Doorbell, Local}
use Rattle.vfio_driver.specs.declared.access.Started.TheVariants.{Local as StaysHere}
use Rattle.vfio_driver.specs.declared.access.Answer.{Answer}
use Rattle.vfio_driver.specs.declared.access.Answer.TheVariants.{Data, Written, Ones, RefusedFull, RefusedMemory}
use Rattle.vfio_driver.specs.declared.access.Stage.{Stage}
use Rattle.vfio_driver.specs.declared.access.Stage.TheVariants.{Nothing, Ringing, Posting, Taking}
use Rattle.vfio_driver.specs.declared.access.Known.{Known}
use Rattle.vfio_driver.specs.declared.access.After.{After}
use Rattle.vfio_driver.specs.Access.{is_read, next_ask, after, started_by, started}
use Rattle.vfio_driver.specs.Grammar.{IsAnsweredAccess, BeginsAccess}
use Rattle.vfio_driver.specs.Heard.{Heard, answered, learnt, asks_of, floor_told, tells_gone, greatest_floor, is_known_gone, reads_by, answer_by, answer_heard, GivesOnes, GivesFull, GivesNoMemory, GivesData, GivesWritten, GoesOn, IsAtFloor, AreAtFloors}
use Rattle.vfio_driver.specs.Runs.{after_all, AreAsked, IsRun, IsWholeRun, IsOpenRun}
use Rattle.vfio_driver.proofs.Replies.{some_same, is_some_next, notify_told, post_told, take_told, IsTakeTold}
use Rattle.vfio_driver.proofs.Causes.{ones_by, no_memory_by, data_by, written_by, full_by}
use Rattle.vfio_driver.proofs.Stages.{step, stage_same, IsLookedBack, notify_looked, post_looked, take_looked}
use Rattle.vfio_driver.proofs.RunGrammar.{knows, IsNext, stage_of, AreNext, Has, rings, posts, waits, ends, has, over, goes_on, run_of, next_before}

-- ---- floors of asks

-- the ask of a stage goes by the floor alone
free : (guest : ℕ) (k : Known) (stage : Stage) → next_ask guest k stage ≡ next_ask guest (knows k.floor) stage
free guest k Nothing = refl
free guest k (Ringing number) = refl
free guest k (Posting queue bytes writable reads) = refl
free guest k (Taking queue seq reads) = refl

asks_floor : (guest : ℕ) (k : Known) (stage : Stage) (ask : Ask) → next_ask guest k stage ≡ Some ask → IsAtFloor k.floor ask
asks_floor guest k Nothing ask is = absurd (cc)
asks_floor guest k (Ringing number) ask is = subst (IsAtFloor k.floor) (some_same _ _ is) refl
asks_floor guest k (Posting queue bytes writable reads) ask is = subst (IsAtFloor k.floor) (some_same _ _ is) refl
asks_floor guest k (Taking queue seq reads) ask is = subst (IsAtFloor k.floor) (some_same _ _ is) tt

-- an ask under some floor that has this one is the ask under this one
exact : (guest : ℕ) (k : Known) (stage : Stage) (ask : Ask) → IsNext guest stage ask → IsAtFloor k.floor ask → next_ask guest k stage ≡ Some ask
exact guest k Nothing ask next floor = absurd (let none = next.1 in cc)
exact guest k (Ringing number) ask next floor =
    let same : next.0 ≡ k.floor = subst (IsAtFloor k.floor) (sym (some_same _ _ next.1)) floor in
    ap (λ f. Some (Member guest f (Notify number))) (sym same) ∙ next.1
exact guest k (Posting queue bytes writable reads) ask next floor =
    let same : next.0 ≡ k.floor = subst (IsAtFloor k.floor) (sym (some_same _ _ next.1)) floor in
    ap (λ f. Some (Queue queue (Post bytes writable (record { guest = guest; floor = f })))) (sym same) ∙ next.1
exact guest k (Taking queue seq reads) ask next floor = next.1

some_next : (guest : ℕ) (k : Known) (stage : Stage) (ask : Ask) → IsNext guest stage ask → IsSome (next_ask guest k stage)
some_next guest k Nothing ask next = absurd (let none = next.1 in cc)
some_next guest k (Ringing number) ask next = is_some_next (next_ask guest k (Ringing number)) (Member guest k.floor (Notify number)) refl
some_next guest k (Posting queue bytes writable reads) ask next =
    is_some_next (next_ask guest k (Posting queue bytes writable reads)) (Queue queue (Post bytes writable (record { guest = guest; floor = k.floor }))) refl
some_next guest k (Taking queue seq reads) ask next = is_some_next (next_ask guest k (Taking queue seq reads)) (Queue queue (Take seq)) refl

-- ---- over a run

module _ (guest : ℕ) (known : Known) (queue : ℕ) (route : Route) where
  abbrev all : List Heard → After
  all heard = after_all guest known queue route heard

  -- the stage, by the asks alone
  abbrev at : List Heard → Stage
  at heard = stage_of guest known.gone queue route (asks_of heard)

  stage_is : (heard : List Heard) → (all heard).stage ≡ at heard
  stage_is [] = refl
  stage_is (answered x ∷ past) = stage_same (all past).known (all past).stage x.1 ∙ ap (λ s. step s x.1) (stage_is past)
  stage_is (learnt floor gone ∷ past) = stage_is past

  -- the ask of the stage
  ask_is : (heard : List Heard) → next_ask guest (all heard).known (all heard).stage ≡ next_ask guest (all heard).known (at heard)
  ask_is heard = ap (next_ask guest (all heard).known) (stage_is heard)

  free_is : (heard : List Heard) → next_ask guest (knows (all heard).known.floor) (at heard) ≡ next_ask guest (all heard).known (all heard).stage
  free_is heard = sym (free guest (all heard).known (at heard)) ∙ sym (ask_is heard)

  are_next : (heard : List Heard) → AreAsked guest known queue route heard → AreNext guest known.gone queue route (asks_of heard)
  are_next [] asked = tt
  are_next (answered x ∷ past) asked = (((all past).known.floor, free_is past ∙ asked.0), are_next past asked.1)
  are_next (learnt floor gone ∷ past) asked = are_next past asked

  has_come : (heard : List Heard) → AreAnswered (asks_of heard) → AreAsked guest known queue route heard → Has guest known.gone queue route (at heard) (asks_of heard)
  has_come heard answers asked = has guest known.gone queue route (asks_of heard) answers (are_next heard asked)

  looked_at : (way : Route) (stage : Stage) (xs : List Exchange) → Has guest known.gone queue way stage xs → (k : Known) (x : Exchange) → next_ask guest k stage ≡ Some x.0 → AnswersAsk x.0 x.1
      → IsLookedBack k queue (reads_by way) x.1 (after k stage x.1)
  looked_at _ _ _ (rings number there) k x next answers = notify_looked k queue false x.1 (notify_told guest k.floor (Notify number) x.1 (subst (λ ask. AnswersAsk ask x.1) (sym (some_same _ _ next)) answers))
  looked_at _ _ _ (posts command there) k x next answers =
      post_looked k queue (is_read command) x.1
      (post_told queue (legacy_bytes guest command) (fixed_size + result_length command) (record { guest = guest; floor = k.floor }) x.1 (subst (λ ask. AnswersAsk ask x.1) (sym (some_same _ _ next)) answers))
  looked_at _ _ _ (waits command seq post xs there is_post posted are) k x next answers =
      take_looked k queue seq (is_read command) x.1 (take_told queue seq x.1 (subst (λ ask. AnswersAsk ask x.1) (sym (some_same _ _ next)) answers))
  looked_at _ _ _ (ends way xs is) k x next answers = absurd (cc)

  pub looked : (x : Exchange) (past : List Heard) → AreAnswered (x ∷ asks_of past) → AreAsked guest known queue route (answered x ∷ past) → IsLookedBack (all past).known queue (reads_by route) x.1 (all (answered x ∷ past))
  looked x past answers asked =
      subst (λ s. IsLookedBack (all past).known queue (reads_by route) x.1 (after (all past).known s x.1)) (sym (stage_is past))
      (looked_at route (at past) (asks_of past) (has_come past answers.1 asked.1) (all past).known x (sym (ask_is past) ∙ asked.0) answers.0)

  -- Full comes to a Post to the queue
  posted_at : (way : Route) (stage : Stage) (xs : List Exchange) → Has guest known.gone queue way stage xs → (k : Known) (x : Exchange) → next_ask guest k stage ≡ Some x.0 → AnswersAsk x.0 x.1
      → (place : ℕ) → x.1 ≡ FromQueue (record { at = place; reply = Full }) → GivesFull queue place x
  posted_at _ _ _ (rings number there) k x next answers place full =
      absurd (subst (λ told. AnswersAsk (Member guest k.floor (Notify number)) told) full (subst (λ ask. AnswersAsk ask x.1) (sym (some_same _ _ next)) answers))
  posted_at _ _ _ (posts command there) k x next answers place full = (legacy_bytes guest command, fixed_size + result_length command, guest, k.floor, sym (some_same _ _ next), full)
  posted_at _ _ _ (waits command seq post xs there is_post posted are) k x next answers place full =
      absurd (subst IsTakeTold full (take_told queue seq x.1 (subst (λ ask. AnswersAsk ask x.1) (sym (some_same _ _ next)) answers)))
  posted_at _ _ _ (ends way xs is) k x next answers place full = absurd (cc)

  posted_full : (x : Exchange) (past : List Heard) → AreAnswered (x ∷ asks_of past) → AreAsked guest known queue route (answered x ∷ past) → (place : ℕ) → x.1 ≡ FromQueue (record { at = place; reply = Full }) → GivesFull queue place x
  posted_full x past answers asked place full = posted_at route (at past) (asks_of past) (has_come past answers.1 asked.1) (all past).known x (sym (ask_is past) ∙ asked.0) answers.0 place full

  -- ---- what is known, and the answer

  pub floor_is : (heard : List Heard) → AreAnswered (asks_of heard) → AreAsked guest known queue route heard → (all heard).known.floor ≡ greatest_floor known.floor heard
  floor_is [] answers asked = refl
  floor_is (answered x ∷ past) answers asked = (looked x past answers asked).floor ∙ ap (λ n. max n (floor_told x.1)) (floor_is past answers.1 asked.1)
  floor_is (learnt floor gone ∷ past) answers asked = ap (λ n. max n floor) (floor_is past answers asked)

  pub gone_is : (heard : List Heard) → AreAnswered (asks_of heard) → AreAsked guest known queue route heard → (all heard).known.gone ≡ is_known_gone known.gone heard
  gone_is [] answers asked = refl
  gone_is (answered x ∷ past) answers asked = (looked x past answers asked).gone ∙ ap (λ b. b || tells_gone x.1) (gone_is past answers.1 asked.1)
  gone_is (learnt floor gone ∷ past) answers asked = ap (λ b. b || gone) (gone_is past answers asked)

  pub answer_is : (heard : List Heard) → AreAnswered (asks_of heard) → AreAsked guest known queue route heard → (all heard).answer ≡ answer_heard queue route (asks_of heard)
  answer_is [] answers asked = refl
  answer_is (answered x ∷ past) answers asked = (looked x past answers asked).answer
  answer_is (learnt floor gone ∷ past) answers asked = answer_is past answers asked

  -- ---- the floors of a run, and back

  are_at_floors : (heard : List Heard) → AreAnswered (asks_of heard) → AreAsked guest known queue route heard → AreAtFloors known.floor heard
  are_at_floors [] answers asked = tt
  are_at_floors (answered x ∷ past) answers asked =
      (subst (λ n. IsAtFloor n x.0) (floor_is past answers.1 asked.1) (asks_floor guest (all past).known (all past).stage x.0 asked.0), are_at_floors past answers.1 asked.1)
  are_at_floors (learnt floor gone ∷ past) answers asked = are_at_floors past answers asked

  asked_from : (heard : List Heard) → AreAnswered (asks_of heard) → AreNext guest known.gone queue route (asks_of heard) → AreAtFloors known.floor heard → AreAsked guest known queue route heard
  asked_from [] answers next floors = tt
  asked_from (answered x ∷ past) answers next floors =
      let before = asked_from past answers.1 next.1 floors.1 in
      (ask_is past ∙ exact guest (all past).known (at past) x.0 next.0 (subst (λ n. IsAtFloor n x.0) (sym (floor_is past answers.1 before)) floors.0), before)
  asked_from (learnt floor gone ∷ past) answers next floors = asked_from past answers next floors

  -- ---- both ways

  pub whole : (heard : List Heard) → IsWholeRun guest known queue route heard ↔ (IsAnsweredAccess guest known.gone queue route (asks_of heard) × AreAtFloors known.floor heard)
  whole heard = (
    λ run.
        let none = free_is heard ∙ run.1 in
        ((run.0.answered, over guest known.gone queue route (all heard).known.floor (at heard) (asks_of heard) (has_come heard run.0.answered run.0.asked) none), are_at_floors heard run.0.answered run.0.asked),
    λ is.
        let next = run_of guest known.gone queue route (asks_of heard) is.0.1 in
        (record { answered = is.0.0; asked = asked_from heard is.0.0 next.0 is.1 }, ap (next_ask guest (all heard).known) (stage_is heard ∙ next.1)),
  )

  pub begun : (heard : List Heard) → IsOpenRun guest known queue route heard ↔ (BeginsAccess guest known.gone queue route (asks_of heard) × AreAtFloors known.floor heard)
  begun heard = (
    λ run.
        let some = subst IsSome (sym (free_is heard)) run.1 in
        ((run.0.answered, goes_on guest known.gone queue route (all heard).known.floor (at heard) (asks_of heard) (has_come heard run.0.answered run.0.asked) some), are_at_floors heard run.0.answered run.0.asked),
    λ is.
        let rest = is.0.1 in
        let next = next_before guest known.gone queue route rest.1 (rest.0 ∷ asks_of heard) (run_of guest known.gone queue route (rest.1 ++ rest.0 ∷ asks_of heard) rest.2).0 in
        (record { answered = is.0.0; asked = asked_from heard is.0.0 next.1 is.1 }, subst IsSome (sym (ask_is heard)) (some_next guest (all heard).known (at heard) rest.0.0 next.0)),
  )

  -- ---- each answer by its replies

  abbrev answer_then : Exchange → List Heard → Option Answer
  answer_then x past = (all (answered x ∷ past)).answer

  -- what the reply says of an answer holds of the machine's
  by_reply : (P : Option Answer → Type 0) (x : Exchange) (past : List Heard) → IsRun guest known queue route (answered x ∷ past) → P (answer_by queue (reads_by route) x.1) → P (answer_then x past)
  by_reply P x past run is = subst P (sym (looked x past run.answered run.asked).answer) is

  pub ones : (x : Exchange) (past : List Heard) → IsRun guest known queue route (answered x ∷ past) → (answer_then x past ≡ Some Ones) ↔ GivesOnes x.1
  ones x past run = by_reply (λ a. (a ≡ Some Ones) ↔ GivesOnes x.1) x past run (ones_by queue (reads_by route) x.1)

  pub no_memory : (x : Exchange) (past : List Heard) → IsRun guest known queue route (answered x ∷ past) → (answer_then x past ≡ Some RefusedMemory) ↔ GivesNoMemory x.1
  no_memory x past run = by_reply (λ a. (a ≡ Some RefusedMemory) ↔ GivesNoMemory x.1) x past run (no_memory_by queue (reads_by route) x.1)

  pub read_back : (x : Exchange) (past : List Heard) (bytes : List ℕ) → IsRun guest known queue route (answered x ∷ past) → (answer_then x past ≡ Some (Data bytes)) ↔ GivesData (reads_by route) bytes x.1
  read_back x past bytes run = by_reply (λ a. (a ≡ Some (Data bytes)) ↔ GivesData (reads_by route) bytes x.1) x past run (data_by queue (reads_by route) bytes x.1)

  pub written : (x : Exchange) (past : List Heard) → IsRun guest known queue route (answered x ∷ past) → (answer_then x past ≡ Some Written) ↔ GivesWritten (reads_by route) x.1
  written x past run = by_reply (λ a. (a ≡ Some Written) ↔ GivesWritten (reads_by route) x.1) x past run (written_by queue (reads_by route) x.1)

  pub unanswered : (x : Exchange) (past : List Heard) → IsRun guest known queue route (answered x ∷ past) → (answer_then x past ≡ None) ↔ GoesOn x.1
  unanswered x past run = by_reply (λ a. (a ≡ None) ↔ GoesOn x.1) x past run (looked x past run.answered run.asked).goes_on

  pub full_is : (x : Exchange) (past : List Heard) (other place : ℕ) → IsRun guest known queue route (answered x ∷ past) → (answer_then x past ≡ Some (RefusedFull other place)) ↔ ((other ≡ queue) × GivesFull queue place x)
  full_is x past other place run = (
    λ is.
        let by = full_by queue (reads_by route) x.1 other place (sym (looked x past run.answered run.asked).answer ∙ is) in
        (by.0, posted_full x past run.answered run.asked place by.1),
    λ is.
        (looked x past run.answered run.asked).answer ∙ ap (answer_by queue (reads_by route)) is.1.5 ∙ ap (λ k. Some (RefusedFull k place)) (sym is.0),
  )

-- ---- accesses that ask nothing

local_by : (route : Route) → started_by route ≡ StaysHere → route ≡ Local
local_by Local is = refl
local_by (Doorbell number) is = absurd (cc)
local_by (Command command) is = absurd (cc)

local_where : (gone : Bool) (route : Route) → ((if gone then StaysHere else started_by route) ≡ StaysHere) ↔ ((gone ≡ true) ⊎ (route ≡ Local))
local_where true route = (λ e. inl refl, λ is. refl)
local_where false route = (λ e. inr (local_by route e), back)
  where
    back : (false ≡ true) ⊎ (route ≡ Local) → started_by route ≡ StaysHere
    back (inl is) = absurd (cc)
    back (inr is) = ap started_by is

pub local : (known : Known) (route : Route) → (started known route ≡ StaysHere) ↔ ((known.gone ≡ true) ⊎ (route ≡ Local))
local known route = local_where known.gone route
