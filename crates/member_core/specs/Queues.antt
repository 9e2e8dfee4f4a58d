-- What is kept of a queue, and what an entry makes of it. The code's own.
use Rattle.std.specs.Prelude.{ℕ, ◌+◌, ◌%◌, ◌==◌, Bool, true, false, not, ◌&&◌, ◌||◌, List, [], ◌∷◌, slice_index_or, if◌then◌else◌}
use Rattle.admin_wire.specs.declared.command.LegacyCmd.TheVariants.{CommonWrite}
use Rattle.ring_layout.specs.Chain.{index_modulus}
use Rattle.legacy_regs.specs.declared.device.Kind.{Kind}
use Rattle.legacy_regs.specs.declared.accesses.Space.TheVariants.{Common}
use Rattle.group_calls.specs.declared.member.MemberCall.{MemberCall}
use Rattle.group_calls.specs.declared.member.MemberCall.TheVariants.{Act, Notify, Step, Arrive, Flr}
use Rattle.group_calls.specs.MemberEntries.{MemberEntry, done_write, is_reset}
use Rattle.group_calls.specs.MemberQueues.{is_address_write, is_served, is_empty, is_halt, is_step, notifies, position, is_halted, is_notified}
use Rattle.member_core.specs.declared.queues.QueueFacts.{QueueFacts}

-- what a run says of a queue
abbrev pub queue_facts : Kind → List MemberEntry → ℕ → QueueFacts
queue_facts kind run q = record { position = position run q; notified = is_notified kind run q; halted = is_halted run q }

-- of a queue at first, and when it begins afresh
abbrev pub first_facts : QueueFacts
first_facts = record { position = 0; notified = false; halted = false }

abbrev pub is_pending : QueueFacts → Bool
is_pending f = not f.halted && f.notified

-- a call that may change what is kept of a queue: a write of the common structure, a notification, a step, a frame, or a function level reset
abbrev pub tells_queues : MemberCall → Bool
tells_queues (Act (CommonWrite offset bytes)) = true
tells_queues (Notify queue) = true
tells_queues (Step queue) = true
tells_queues (Arrive frame) = true
tells_queues Flr = true
tells_queues _ = false

-- the entry is a reset, or a done write to the address of this queue, where this one was selected before it
abbrev pub begins : ℕ → ℕ → MemberEntry → Bool
begins q selected e = is_reset e || ((q == selected) && is_address_write (done_write Common e))

-- after an entry with which the queue doesn't begin afresh
abbrev pub goes_on : Kind → ℕ → MemberEntry → QueueFacts → QueueFacts
goes_on kind q e f = record {
  position = if is_step is_served q e then (f.position + 1) % index_modulus else f.position;
  notified = if is_step is_empty q e then false else notifies kind q e || f.notified;
  halted = is_step is_halt q e || f.halted;
}

-- after an entry
abbrev pub queue_then : Kind → ℕ → ℕ → MemberEntry → QueueFacts → QueueFacts
queue_then kind q selected e f = if begins q selected e then first_facts else goes_on kind q e f

-- of both queues that a member may have
abbrev pub both_queues : Kind → List MemberEntry → List QueueFacts
both_queues kind run = queue_facts kind run 0 ∷ queue_facts kind run 1 ∷ []

-- what is kept of both queues, after an entry
abbrev pub queues_then : Kind → ℕ → MemberEntry → List QueueFacts → List QueueFacts
queues_then kind selected e queues = queue_then kind 0 selected e (slice_index_or queues 0 first_facts) ∷ queue_then kind 1 selected e (slice_index_or queues 1 first_facts) ∷ []
