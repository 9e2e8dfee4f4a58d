-- What a run says of a queue, after one entry more.
use Rattle.std.proofs.Common.{◌≡◌, ℕ, ◌+◌, ◌%◌, Bool, true, false, cond, List, [], ◌∷◌, refl, sym, ap, ◌∙◌, arith}
use Rattle.std.specs.Prelude.{◌||◌}
use Rattle.std.specs.List.{list_any}
use Rattle.history.specs.Look.{count, after_latest}
use Rattle.ring_layout.specs.Chain.{index_modulus}
use Rattle.legacy_regs.specs.declared.device.Kind.{Kind}
use Rattle.group_calls.specs.MemberEntries.{MemberEntry, is_reset, since_reset}
use Rattle.group_calls.specs.MemberRegisters.{selected}
use Rattle.group_calls.specs.MemberQueues.{moves, fresh, is_served, is_empty, is_halt, is_step, notifies}
use Rattle.group_calls.proofs.RegisterSteps.{goes_on as run_goes_on, ends as run_ends}
use Rattle.lone_device.specs.declared.queue.QueueSeen.{QueueSeen}
use Rattle.lone_device.specs.Queues.{queue_seen, unseen, goes_on, queue_then}

-- what is kept of a queue, by the entries since it began afresh
abbrev seen_of : Kind → ℕ → List MemberEntry → QueueSeen
seen_of kind q since = record {
  position = count (is_step is_served q) since % index_modulus;
  notified = list_any (notifies kind q) (after_latest (is_step is_empty q) since);
  halted = list_any (is_step is_halt q) since;
}

wraps : (n : ℕ) → (n + 1) % index_modulus ≡ (n % index_modulus + 1) % index_modulus
wraps n = omega arith

counted : (b : Bool) (n : ℕ) → cond b (n + 1) n % index_modulus ≡ cond b ((n % index_modulus + 1) % index_modulus) (n % index_modulus)
counted true n = wraps n
counted false n = refl

noticed : (b : Bool) (passes : MemberEntry → Bool) (e : MemberEntry) (since : List MemberEntry) → list_any passes (cond b [] (e ∷ since)) ≡ cond b false (passes e || list_any passes since)
noticed true passes e since = refl
noticed false passes e since = refl

one_more : (kind : Kind) (q : ℕ) (e : MemberEntry) (since : List MemberEntry) → seen_of kind q (e ∷ since) ≡ goes_on kind q e (seen_of kind q since)
one_more kind q e since = λ i. record {
  position = counted (is_step is_served q e) (count (is_step is_served q) since) i;
  notified = noticed (is_step is_empty q e) (notifies kind q) e (after_latest (is_step is_empty q) since) i;
  halted = list_any (is_step is_halt q) (e ∷ since);
}

fresh_ends : (q : ℕ) (e : MemberEntry) (run : List MemberEntry) → moves q e run ≡ true → fresh (e ∷ run) q ≡ []
fresh_ends q e run moved = rw moved refl

fresh_goes_on : (q : ℕ) (e : MemberEntry) (run : List MemberEntry) → moves q e run ≡ false → fresh (e ∷ run) q ≡ e ∷ fresh run q
fresh_goes_on q e run stays = rw stays refl

-- what is seen of the queue, after any entry
pub queue_seen-more : (kind : Kind) (q : ℕ) (e : MemberEntry) (past : List MemberEntry)
    → queue_seen kind (since_reset (e ∷ past)) q ≡ queue_then kind q (selected (since_reset past)) e (queue_seen kind (since_reset past) q)
queue_seen-more kind q e past = go (is_reset e) refl (moves q e (since_reset past)) refl
  where
    run : List MemberEntry
    run = since_reset past

    go : (r : Bool) → is_reset e ≡ r → (m : Bool) → moves q e (since_reset past) ≡ m
        → queue_seen kind (since_reset (e ∷ past)) q ≡ queue_then kind q (selected (since_reset past)) e (queue_seen kind (since_reset past) q)
    go true r m moved = ap (λ run. queue_seen kind run q) (run_ends e past r)
        ∙ sym (ap (λ b. cond (b || moves q e (since_reset past)) unseen (goes_on kind q e (queue_seen kind (since_reset past) q))) r)
    go false r true moved = ap (λ run. queue_seen kind run q) (run_goes_on e past r)
        ∙ ap (seen_of kind q) (fresh_ends q e (since_reset past) moved)
        ∙ sym (λ i. cond (r i || moved i) unseen (goes_on kind q e (queue_seen kind (since_reset past) q)))
    go false r false moved = ap (λ run. queue_seen kind run q) (run_goes_on e past r)
        ∙ ap (seen_of kind q) (fresh_goes_on q e (since_reset past) moved)
        ∙ one_more kind q e (fresh (since_reset past) q)
        ∙ sym (λ i. cond (r i || moved i) unseen (goes_on kind q e (queue_seen kind (since_reset past) q)))
