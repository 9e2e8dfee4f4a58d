-- What a run says of a queue, after one entry more.
use Rattle.std.proofs.Common.{◌≡◌, ℕ, ◌+◌, ◌%◌, Bool, true, false, cond, List, [], ◌∷◌, refl, sym, ap, ◌∙◌, arith}
use Rattle.std.specs.Prelude.{◌==◌, ◌||◌, ◌&&◌, length, None, slice_index_or}
use Rattle.std.specs.List.{list_any}
use Rattle.history.specs.Look.{count, after_latest}
use Rattle.ring_layout.specs.Chain.{index_modulus}
use Rattle.admin_wire.specs.declared.command.LegacyCmd.TheVariants.{CommonWrite, CommonRead, DevWrite, DevRead, Info}
use Rattle.legacy_regs.specs.declared.device.Kind.{Kind}
use Rattle.group_calls.specs.declared.member.MemberCall.{MemberCall}
use Rattle.group_calls.specs.declared.member.MemberCall.TheVariants.{Act, Notify, Msix, MemWrite, MemRead, TakeIrqs, Step, Arrive, Flr, Kill}
use Rattle.group_calls.specs.declared.member.MemberReply.{MemberReply}
use Rattle.group_calls.specs.MemberEntries.{MemberEntry, is_done, is_zero_status, is_reset, since_reset}
use Rattle.group_calls.specs.MemberRegisters.{selected}
use Rattle.group_calls.specs.MemberQueues.{receives, is_address_write, moves, fresh, is_served, is_empty, is_halt, is_step, notifies}
use Rattle.group_calls.proofs.RegisterSteps.{goes_on as run_goes_on, ends as run_ends}
use Rattle.member_core.specs.declared.queues.QueueFacts.{QueueFacts}
use Rattle.member_core.specs.Queues.{tells_queues, queue_facts, first_facts, goes_on, queue_then, queues_then}

-- what is kept of a queue, by the entries since it began afresh
abbrev facts_of : Kind → ℕ → List MemberEntry → QueueFacts
facts_of kind q since = record {
  position = count (is_step is_served q) since % index_modulus;
  notified = list_any (notifies kind q) (after_latest (is_step is_empty q) since);
  halted = list_any (is_step is_halt q) since;
}

wraps : (n : ℕ) → (n + 1) % index_modulus ≡ (n % index_modulus + 1) % index_modulus
wraps n = omega arith

counted : (b : Bool) (n : ℕ) → cond b (n + 1) n % index_modulus ≡ cond b ((n % index_modulus + 1) % index_modulus) (n % index_modulus)
counted true n = wraps n
counted false n = refl

noticed : (b : Bool) (passes : MemberEntry → Bool) (e : MemberEntry) (since : List MemberEntry) → list_any passes (cond b [] (e ∷ since)) ≡ cond b false (passes e || list_any passes since)
noticed true passes e since = refl
noticed false passes e since = refl

one_more : (kind : Kind) (q : ℕ) (e : MemberEntry) (since : List MemberEntry) → facts_of kind q (e ∷ since) ≡ goes_on kind q e (facts_of kind q since)
one_more kind q e since = λ i. record {
  position = counted (is_step is_served q e) (count (is_step is_served q) since) i;
  notified = noticed (is_step is_empty q e) (notifies kind q) e (after_latest (is_step is_empty q) since) i;
  halted = list_any (is_step is_halt q) (e ∷ since);
}

fresh_ends : (q : ℕ) (e : MemberEntry) (run : List MemberEntry) → moves q e run ≡ true → fresh (e ∷ run) q ≡ []
fresh_ends q e run moved = rw moved refl

fresh_goes_on : (q : ℕ) (e : MemberEntry) (run : List MemberEntry) → moves q e run ≡ false → fresh (e ∷ run) q ≡ e ∷ fresh run q
fresh_goes_on q e run stays = rw stays refl

-- the queue's facts after any entry
pub queue_facts-more : (kind : Kind) (q : ℕ) (e : MemberEntry) (past : List MemberEntry)
    → queue_facts kind (since_reset (e ∷ past)) q ≡ queue_then kind q (selected (since_reset past)) e (queue_facts kind (since_reset past) q)
queue_facts-more kind q e past = go (is_reset e) refl (moves q e (since_reset past)) refl
  where
    run : List MemberEntry
    run = since_reset past

    go : (r : Bool) → is_reset e ≡ r → (m : Bool) → moves q e (since_reset past) ≡ m
        → queue_facts kind (since_reset (e ∷ past)) q ≡ queue_then kind q (selected (since_reset past)) e (queue_facts kind (since_reset past) q)
    go true r m moved = ap (λ run. queue_facts kind run q) (run_ends e past r)
        ∙ sym (ap (λ b. cond (b || moves q e (since_reset past)) first_facts (goes_on kind q e (queue_facts kind (since_reset past) q))) r)
    go false r true moved = ap (λ run. queue_facts kind run q) (run_goes_on e past r)
        ∙ ap (facts_of kind q) (fresh_ends q e (since_reset past) moved)
        ∙ sym (λ i. cond (r i || moved i) first_facts (goes_on kind q e (queue_facts kind (since_reset past) q)))
    go false r false moved = ap (λ run. queue_facts kind run q) (run_goes_on e past r)
        ∙ ap (facts_of kind q) (fresh_goes_on q e (since_reset past) moved)
        ∙ one_more kind q e (fresh (since_reset past) q)
        ∙ sym (λ i. cond (r i || moved i) first_facts (goes_on kind q e (queue_facts kind (since_reset past) q)))

-- an entry that is no write, no step and no notification, by whether it is done, whether the queue is selected, and whether it receives
still : (done selected receiving : Bool) (f : QueueFacts)
    → cond ((is_zero_status (cond done None None) || (done && false)) || (selected && is_address_write (cond done None None))) first_facts
    (record { position = f.position; notified = ((done && false) || (receiving && false)) || f.notified; halted = f.halted }) ≡ f
still true true true f = refl
still true true false f = refl
still true false true f = refl
still true false false f = refl
still false true true f = refl
still false true false f = refl
still false false true f = refl
still false false false f = refl

-- a call that tells a queue nothing leaves its facts, whatever the reply
pub untold : (kind : Kind) (q selected who : ℕ) (call : MemberCall) (reply : MemberReply) (f : QueueFacts) → tells_queues call ≡ false
    → queue_then kind q selected (record { who = who; call = call; reply = reply }) f ≡ f
untold kind q selected who (Act (CommonWrite offset bytes)) reply f quiet = cc
untold kind q selected who (Act (CommonRead offset count)) reply f quiet = still (is_done reply) (q == selected) (receives kind q) f
untold kind q selected who (Act (DevWrite offset bytes)) reply f quiet = still (is_done reply) (q == selected) (receives kind q) f
untold kind q selected who (Act (DevRead offset count)) reply f quiet = still (is_done reply) (q == selected) (receives kind q) f
untold kind q selected who (Act Info) reply f quiet = still (is_done reply) (q == selected) (receives kind q) f
untold kind q selected who (Notify queue) reply f quiet = cc
untold kind q selected who (Msix on) reply f quiet = still (is_done reply) (q == selected) (receives kind q) f
untold kind q selected who (MemWrite addr bytes) reply f quiet = still (is_done reply) (q == selected) (receives kind q) f
untold kind q selected who (MemRead addr count) reply f quiet = still (is_done reply) (q == selected) (receives kind q) f
untold kind q selected who TakeIrqs reply f quiet = still (is_done reply) (q == selected) (receives kind q) f
untold kind q selected who (Step queue) reply f quiet = cc
untold kind q selected who (Arrive frame) reply f quiet = cc
untold kind q selected who Flr reply f quiet = cc
untold kind q selected who Kill reply f quiet = still (is_done reply) (q == selected) (receives kind q) f

two_items : {Item : Type 0} (items : List Item) (d : Item) → length items ≡ 2 → items ≡ slice_index_or items 0 d ∷ slice_index_or items 1 d ∷ []
two_items [] d two = absurd (omega arith)
two_items (a ∷ []) d two = absurd (omega arith)
two_items (a ∷ b ∷ []) d two = refl
two_items (a ∷ b ∷ c ∷ items) d two = absurd (omega arith)

pub both_untold : (kind : Kind) (selected who : ℕ) (call : MemberCall) (reply : MemberReply) (queues : List QueueFacts) → length queues ≡ 2 → tells_queues call ≡ false
    → queues ≡ queues_then kind selected (record { who = who; call = call; reply = reply }) queues
both_untold kind selected who call reply queues two quiet =
    two_items queues first_facts two
    ∙ sym (λ i. untold kind 0 selected who call reply (slice_index_or queues 0 first_facts) quiet i ∷ untold kind 1 selected who call reply (slice_index_or queues 1 first_facts) quiet i ∷ [])
