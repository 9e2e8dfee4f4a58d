-- What a member's history says of its queues: VIRTIO 1.3, 2.7 (split virtqueues), 2.9 (driver notifications). When a queue is pending, and what halts it, is of this project. A run is the entries since the latest reset.
use Rattle.std.specs.Prelude.{ℕ, ◌%◌, ◌^◌, ◌==◌, Bool, true, false, not, ◌&&◌, ◌||◌, List, [], ◌∷◌, ◌++◌, Option, None, Some, drop, length, bit_or}
use Rattle.std.specs.List.{list_any}
use Rattle.byte_fields.specs.Places.{le16}
use Rattle.ring_layout.specs.Chain.{index_modulus}
use Rattle.admin_wire.specs.declared.command.LegacyCmd.TheVariants.{CommonWrite}
use Rattle.legacy_regs.specs.declared.device.Kind.{Kind}
use Rattle.legacy_regs.specs.declared.device.Kind.TheVariants.{Block, Net}
use Rattle.legacy_regs.specs.declared.accesses.Space.TheVariants.{Common}
use Rattle.legacy_regs.specs.declared.interrupts.Irq.TheVariants.{Vector}
use Rattle.legacy_regs.specs.Fields.{touches, queue_address_field, queue_notify_field}
use Rattle.history.specs.Look.{count, after_latest, after_latest_seen}
use Rattle.group_calls.specs.declared.member.MemberCall.{MemberCall}
use Rattle.group_calls.specs.declared.member.MemberCall.TheVariants.{Act, Notify, TakeIrqs, Step, Arrive}
use Rattle.group_calls.specs.declared.member.MemberReply.{MemberReply}
use Rattle.group_calls.specs.declared.member.MemberReply.TheVariants.{Served, Empty, Halted, Dropped, Irqs, Arrived}
use Rattle.group_calls.specs.MemberEntries.{MemberEntry, RegisterWrite, is_done, done_write}
use Rattle.group_calls.specs.MemberRegisters.{selected}

-- ---- since when a queue has its ring: VIRTIO 1.3, 2.7.2 (legacy interfaces: virtqueue layout)

abbrev pub is_address_write : Option RegisterWrite → Bool
is_address_write None = false
is_address_write (Some w) = touches queue_address_field w.offset (length w.bytes)

-- a done write to the address of queue q, which was selected
abbrev pub moves : ℕ → MemberEntry → List MemberEntry → Bool
moves q e past = (q == selected past) && is_address_write (done_write Common e)

-- the entries after the latest write to the queue's address, or all of the run
abbrev pub fresh : List MemberEntry → ℕ → List MemberEntry
fresh run q = after_latest_seen (moves q) run

-- ---- steps of a queue

abbrev pub is_served : MemberReply → Bool
is_served (Served length irq sent) = true
is_served _ = false

abbrev pub is_empty : MemberReply → Bool
is_empty Empty = true
is_empty _ = false

abbrev pub is_halt : MemberReply → Bool
is_halt (Halted halt) = true
is_halt _ = false

abbrev pub is_dropped : MemberReply → Bool
is_dropped Dropped = true
is_dropped _ = false

-- a step of queue q whose reply passes
abbrev pub is_step : (MemberReply → Bool) → ℕ → MemberEntry → Bool
is_step passes q e = elim e.call [ Step queue ↦ (queue == q) && passes e.reply | _ ↦ false ]

-- where the queue stands in its ring: the number of its services, modulo 65,536
abbrev pub position : List MemberEntry → ℕ → ℕ
position run q = count (is_step is_served q) (fresh run q) % index_modulus

abbrev pub is_halted : List MemberEntry → ℕ → Bool
is_halted run q = list_any (is_step is_halt q) (fresh run q)

-- ---- notifications of a queue

-- a doorbell, or a write of the queue's number with 2 bytes to queue notify
abbrev pub rings : ℕ → MemberCall → Bool
rings q (Notify queue) = queue == q
rings q (Act command) = elim command [
  | CommonWrite offset bytes ↦ (offset == queue_notify_field.offset) && (length bytes == queue_notify_field.size) && (le16 0 bytes == q)
  | _ ↦ false
]
rings q _ = false

-- queue 0 of a network device receives
abbrev pub receives : Kind → ℕ → Bool
receives (Block sectors read_only) q = false
receives (Net mac) q = q == 0

abbrev pub frame_kept : MemberEntry → Option (List ℕ)
frame_kept e = elim e.call [ Arrive frame ↦ elim e.reply [ Arrived ↦ Some frame | _ ↦ None ] | _ ↦ None ]

abbrev pub is_arrival : MemberEntry → Bool
is_arrival e = elim (frame_kept e) [ None ↦ false | Some frame ↦ true ]

-- a frame that is kept counts as a notification of the queue that receives
abbrev pub notifies : Kind → ℕ → MemberEntry → Bool
notifies kind q e = (is_done e.reply && rings q e.call) || (receives kind q && is_arrival e)

-- a notification stands after every step that found nothing
abbrev pub is_notified : Kind → List MemberEntry → ℕ → Bool
is_notified kind run q = list_any (notifies kind q) (after_latest (is_step is_empty q) (fresh run q))

abbrev pub is_pending : Kind → List MemberEntry → ℕ → Bool
is_pending kind run q = not (is_halted run q) && is_notified kind run q

-- ---- frames that wait: VIRTIO 1.3, 5.1.6 (device operation of a network device)

abbrev pub with_frame : Option (List ℕ) → List (List ℕ) → List (List ℕ)
with_frame None frames = frames
with_frame (Some frame) frames = frames ++ frame ∷ []

-- the frames that were kept, the earliest first
abbrev pub arrivals : List MemberEntry → List (List ℕ)
arrivals [] = []
arrivals (e ∷ past) = with_frame (frame_kept e) (arrivals past)

abbrev pub leaves_backlog : MemberEntry → Bool
leaves_backlog e = is_step is_served 0 e || elim e.call [ Step queue ↦ is_dropped e.reply | _ ↦ false ]

-- those of the run, without as many as were received or dropped
abbrev pub backlog : List MemberEntry → List (List ℕ)
backlog run = drop (count leaves_backlog run) (arrivals run)

-- ---- interrupts that the guest has yet to take: VIRTIO 1.3, 4.1.5.3 (used buffer notifications)

-- the vector that a service raised, as a bit
abbrev pub bit_raised : MemberEntry → ℕ
bit_raised e = elim e.call [ Step queue ↦ elim e.reply [ Served length irq sent ↦ elim irq [ Vector v ↦ 2 ^ v | _ ↦ 0 ] | _ ↦ 0 ] | _ ↦ 0 ]

abbrev pub all_bits : (MemberEntry → ℕ) → List MemberEntry → ℕ
all_bits bit [] = 0
all_bits bit (e ∷ past) = bit_or (bit e) (all_bits bit past)

abbrev pub takes_irqs : MemberEntry → Bool
takes_irqs e = elim e.call [ TakeIrqs ↦ elim e.reply [ Irqs mask ↦ true | _ ↦ false ] | _ ↦ false ]

-- the vectors that were raised after the latest TakeIrqs, as bits
abbrev pub raised : List MemberEntry → ℕ
raised h = all_bits bit_raised (after_latest takes_irqs h)
