-- What is seen of a queue, and what an entry makes of it. The code's own.
use Rattle.std.specs.Prelude.{ℕ, ◌+◌, ◌%◌, ◌==◌, Bool, false, not, ◌&&◌, ◌||◌, List, [], ◌∷◌, slice_index_or, if◌then◌else◌}
use Rattle.ring_layout.specs.Chain.{index_modulus}
use Rattle.legacy_regs.specs.declared.device.Kind.{Kind}
use Rattle.legacy_regs.specs.declared.accesses.Space.TheVariants.{Common}
use Rattle.group_calls.specs.MemberEntries.{MemberEntry, done_write, is_reset}
use Rattle.group_calls.specs.MemberQueues.{is_address_write, is_served, is_empty, is_halt, is_step, notifies, position, is_halted, is_notified}
use Rattle.lone_device.specs.declared.queue.QueueSeen.{QueueSeen}

-- what a run says of a queue
abbrev pub queue_seen : Kind → List MemberEntry → ℕ → QueueSeen
queue_seen kind run q = record { position = position run q; notified = is_notified kind run q; halted = is_halted run q }

-- of a queue at first, and when it begins afresh
abbrev pub unseen : QueueSeen
unseen = record { position = 0; notified = false; halted = false }

abbrev pub is_pending : QueueSeen → Bool
is_pending f = not f.halted && f.notified

-- the entry is a reset, or a done write to the address of this queue, where this one was selected before it
abbrev pub begins : ℕ → ℕ → MemberEntry → Bool
begins q selected e = is_reset e || ((q == selected) && is_address_write (done_write Common e))

-- after an entry with which the queue doesn't begin afresh
abbrev pub goes_on : Kind → ℕ → MemberEntry → QueueSeen → QueueSeen
goes_on kind q e f = record {
  position = if is_step is_served q e then (f.position + 1) % index_modulus else f.position;
  notified = if is_step is_empty q e then false else notifies kind q e || f.notified;
  halted = is_step is_halt q e || f.halted;
}

-- after an entry
abbrev pub queue_then : Kind → ℕ → ℕ → MemberEntry → QueueSeen → QueueSeen
queue_then kind q selected e f = if begins q selected e then unseen else goes_on kind q e f

-- of both queues that a member may have
abbrev pub both_queues : Kind → List MemberEntry → List QueueSeen
both_queues kind run = queue_seen kind run 0 ∷ queue_seen kind run 1 ∷ []

-- what is seen of both queues, after an entry
abbrev pub queues_then : Kind → ℕ → MemberEntry → List QueueSeen → List QueueSeen
queues_then kind selected e queues = queue_then kind 0 selected e (slice_index_or queues 0 unseen) ∷ queue_then kind 1 selected e (slice_index_or queues 1 unseen) ∷ []
