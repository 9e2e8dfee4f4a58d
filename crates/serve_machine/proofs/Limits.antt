-- What the cells answer keeps within the limits of a service.
use Rattle.std.proofs.Common.{ℕ, ◌≤◌, Bool, true, false, List, [], ◌∷◌, Some, None, Option, sym, subst, lit≤, if◌then◌else◌}
use Rattle.std.specs.Prelude.{not, IsSomeAnd}
use Rattle.admin_wire.specs.declared.command.LegacyCmd.{LegacyCmd}
use Rattle.history.specs.Look.{or_else}
use Rattle.group_calls.specs.Limits.{writable_limit}
use Rattle.group_calls.specs.declared.ask.Ask.{Ask}
use Rattle.group_calls.specs.declared.ask.Ask.TheVariants.{Owner, Queue, Member}
use Rattle.group_calls.specs.declared.ask.Told.{Told}
use Rattle.group_calls.specs.declared.ask.Told.TheVariants.{Owner as FromOwner, Queue as FromQueue, Member as FromMember, NoMemory}
use Rattle.group_calls.specs.declared.queue.RingCall.{RingCall}
use Rattle.group_calls.specs.declared.queue.RingCall.TheVariants.{Post, Pop}
use Rattle.group_calls.specs.declared.queue.RingReply.{RingReply}
use Rattle.group_calls.specs.declared.queue.RingReply.TheVariants.{Seq, Fetched as Fetches, Empty}
use Rattle.group_calls.specs.Asks.{AnswersAsk}
use Rattle.group_calls.specs.Queue.{RingEntry, Posted, posted_by, posted, earliest, fetch, pop_or_fetch, pop_answer, queue_may, IsLegalQueue, is_closed, is_fetched, in_service}
use Rattle.serve_machine.specs.declared.stage.Fetched.{Fetched}
use Rattle.serve_machine.specs.declared.stage.Stage.{Stage}
use Rattle.serve_machine.specs.declared.stage.Stage.TheVariants.{Popping, Judging, Acting, Completing, Ended}
use Rattle.serve_machine.specs.Grammar.{passed_on}
use Rattle.serve_machine.specs.Service.{next_ask, after, after_pop, completing}
use Rattle.serve_machine.specs.Within.{writable_in, IsLow}

-- both branches have it
pub either : {A : Type 0} (P : A → Type 0) (b : Bool) (x y : A) → P x → P y → P (if b then x else y)
either P true x y here there = here
either P false x y here there = there

-- ---- a command that is fetched has as few writable bytes as a Post may have

abbrev IsFew : Option Posted → Type 0
IsFew None = Unit {0}
IsFew (Some p) = p.writable ≤ writable_limit

abbrev AreFew : List Posted → Type 0
AreFew [] = Unit {0}
AreFew (p ∷ ps) = (p.writable ≤ writable_limit) × AreFew ps

abbrev FetchesFew : RingReply → Type 0
FetchesFew (Fetches seq bytes writable tag) = writable ≤ writable_limit
FetchesFew _ = Unit {0}

one_few : (size who : ℕ) (call : RingCall) (reply : RingReply) → queue_may size who call → IsFew (posted_by (record { who = who; call = call; reply = reply }))
one_few size who (Post bytes writable tag) (Seq seq) may = may.1
one_few size who (Post bytes writable tag) _ may = tt
one_few size who _ reply may = tt

more_few : (o : Option Posted) (ps : List Posted) → IsFew o → AreFew ps → AreFew (elim o [ None ↦ ps | Some p ↦ p ∷ ps ])
more_few None ps one rest = rest
more_few (Some p) ps one rest = (one, rest)

posted_few : (size : ℕ) (h : List RingEntry) → IsLegalQueue size h → AreFew (posted h)
posted_few size [] legal = tt
posted_few size (e ∷ past) legal = more_few (posted_by e) (posted past) (one_few size e.who e.call e.reply legal.2) (posted_few size past legal.3)

or_few : (a b : Option Posted) → IsFew a → IsFew b → IsFew (or_else a b)
or_few None b one other = other
or_few (Some p) b one other = one

earliest_few : (passes : Posted → Bool) (ps : List Posted) → AreFew ps → IsFew (earliest passes ps)
earliest_few passes [] few = tt
earliest_few passes (p ∷ ps) few =
    or_few (earliest passes ps) (if passes p then Some p else None) (earliest_few passes ps few.1) (either IsFew (passes p) (Some p) None few.0 tt)

fetch_few : (o : Option Posted) → IsFew o → FetchesFew (fetch o)
fetch_few None few = tt
fetch_few (Some p) few = few

pop_or_fetch_few : (h : List RingEntry) (o : Option Posted) → AreFew (posted h) → FetchesFew (pop_or_fetch h o)
pop_or_fetch_few h (Some p) few = tt
pop_or_fetch_few h None few = fetch_few (earliest (λ p. not (is_fetched h p.seq)) (posted h)) (earliest_few (λ p. not (is_fetched h p.seq)) (posted h) few)

pop_few : (h : List RingEntry) → AreFew (posted h) → FetchesFew (pop_answer h)
pop_few h few = either FetchesFew (is_closed h) Empty (pop_or_fetch h (earliest (λ p. in_service h p.seq) (posted h))) tt (pop_or_fetch_few h (earliest (λ p. in_service h p.seq) (posted h)) few)

-- ---- answers stand at places of a history

low : (ask : Ask) (told : Told) → AnswersAsk ask told → IsLow told
low (Member id floor call) (FromMember placed) answers = answers.2.most
low (Owner call) (FromMember placed) answers = absurd answers
low (Queue index call) (FromMember placed) answers = absurd answers
low ask (FromOwner placed) answers = tt
low ask (FromQueue placed) answers = tt
low ask NoMemory answers = tt

pub told_low : (o : Option Ask) (told : Told) → IsSomeAnd o (λ ask. AnswersAsk ask told) → IsLow told
told_low (Some ask) told answers = low ask told answers
told_low None told answers = absurd answers

-- ---- stages

abbrev IsFewIn : Stage → Type 0
IsFewIn stage = writable_in stage ≤ writable_limit

fetched_few : (at : ℕ) (reply : RingReply) → FetchesFew reply → IsFewIn (after_pop (FromQueue (record { at = at; reply = reply })))
fetched_few at (Fetches seq bytes writable tag) few = few
fetched_few at _ few = lit≤ tt

popped_few : (queue : ℕ) (told : Told) → AnswersAsk (Queue queue Pop) told → IsFewIn (after_pop told)
popped_few queue (FromQueue placed) answers =
    let over = answers.2 in
    fetched_few placed.at placed.reply (subst FetchesFew (sym over.reply) (pop_few over.history (posted_few answers.0 over.history over.legal)))
popped_few queue _ answers = lit≤ tt

judged_few : (command : Fetched) (told : Told) (o : Option (ℕ × LegacyCmd)) → command.writable ≤ writable_limit → IsFewIn (elim o [ Some to ↦ Acting command to.0 to.1 | None ↦ completing command told ])
judged_few command told (Some to) few = few
judged_few command told None few = lit≤ tt

-- the next stage has as few writable bytes as this one, or as a queue holds
pub stage_few : (queue : ℕ) (stage : Stage) (told : Told) → writable_in stage ≤ writable_limit → IsSomeAnd (next_ask queue stage) (λ ask. AnswersAsk ask told) → writable_in (after stage told) ≤ writable_limit
stage_few queue Popping told few answers = popped_few queue told answers
stage_few queue (Judging command bytes) told few answers = judged_few command told (passed_on told) few
stage_few queue (Acting command member access) told few answers = lit≤ tt
stage_few queue (Completing seq bytes floor) told few answers = lit≤ tt
stage_few queue Ended told few answers = lit≤ tt
