-- What a step of a member's queue does: VIRTIO 1.3, 2.7 (split virtqueues), 5.2.6 (device operation of a block device), 5.1.6 (of a network device). The cases and their order are of this project. All reads are of the memory before the step.
use Rattle.std.specs.Prelude.{ℕ, ◌==◌, nat_lt, Bool, true, false, not, ◌&&◌, List, [], ◌∷◌, ◌++◌, Option, None, Some, length, if◌then◌else◌}
use Rattle.ring_layout.specs.declared.layout.Layout.{Layout}
use Rattle.ring_layout.specs.declared.descriptor.Descriptor.{Descriptor}
use Rattle.ring_layout.specs.Layout.{legacy_layout}
use Rattle.ring_layout.specs.Chain.{Found, nothing, bad_index, bad_chain, chain, found, available, writable_part, total_length, readable_bytes, Write, scattered, used_writes, event_write, wants_interrupt}
use Rattle.blk_engine.specs.Block.{is_malformed, block_reply, disk_after_request}
use Rattle.net_engine.specs.Frames.{with_header, transmitted}
use Rattle.legacy_regs.specs.declared.device.Kind.{Kind}
use Rattle.legacy_regs.specs.declared.device.Kind.TheVariants.{Block, Net}
use Rattle.legacy_regs.specs.declared.interrupts.Irq.{Irq}
use Rattle.legacy_regs.specs.declared.interrupts.Irq.TheVariants.{Silent}
use Rattle.legacy_regs.specs.Registers.{member_ring_size, queue_count, page_number, uses_tables, uses_events}
use Rattle.legacy_regs.specs.Interrupts.{queue_irq}
use Rattle.group_calls.specs.declared.member.MemberMade.{MemberMade}
use Rattle.group_calls.specs.declared.member.Halt.TheVariants.{Ring, Index, Chain, Request}
use Rattle.group_calls.specs.declared.member.MemberReply.{MemberReply}
use Rattle.group_calls.specs.declared.member.MemberReply.TheVariants.{Served, Empty, NotPending, Halted, Dropped}
use Rattle.group_calls.specs.MemberQueues.{receives}
use Rattle.group_calls.specs.Facts.{Facts}

-- what a service does: its reply into the writable part, the writes to memory in order, the disk after it, the frame that is sent or nothing, and the interrupt
pub record Service : Type 0 where
  pub reply : List ℕ
  pub writes : List Write
  pub disk : List ℕ
  pub sent : List ℕ
  pub irq : Irq

-- a step stops with a reply and changes nothing, or serves
pub data Outcome : Type 0 where
  stops : MemberReply → Outcome
  serves : Service → Outcome

-- ---- a service of a chain: VIRTIO 1.3, 2.7.8 (used ring), 2.7.7 (used buffer notification suppression), 2.7.10 (available buffer notification suppression)

-- the queue's interrupt, where the guest wants one for the queue's position
abbrev pub interrupt : List ℕ → Facts → ℕ → Layout → Irq
interrupt memory f q l = if wants_interrupt (uses_events f.registers) memory l (f.position q) then queue_irq f.registers q else Silent

-- the next position is named as the one to notify of, where event indices are used
abbrev pub event_writes : Facts → ℕ → Layout → List Write
event_writes f q l = if uses_events f.registers then event_write l (f.position q) ∷ [] else []

-- the reply goes into the writable buffers from their front; then the head and the reply's length into the used ring, then its index, and then the position to notify of
unfoldable pub service : List ℕ → Facts → ℕ → Layout → List Descriptor → List ℕ → List ℕ → List ℕ → Outcome
service memory f q l ds reply disk sent =
    let p : ℕ = f.position q in
    serves record {
      reply = reply;
      writes = scattered (writable_part ds) reply ++ used_writes l p (available memory l p) (length reply) ++ event_writes f q l;
      disk = disk;
      sent = sent;
      irq = interrupt memory f q l;
    }

-- ---- a chain of a block device

unfoldable pub block_step : MemberMade → Bool → List ℕ → List ℕ → Facts → ℕ → Layout → List Descriptor → Outcome
block_step made read_only memory disk f q l ds =
    let request : List ℕ = readable_bytes memory ds in
    let writable : ℕ = total_length (writable_part ds) in
    if is_malformed request writable then stops (Halted Request) else
    service memory f q l ds (block_reply made.id read_only disk request writable) (disk_after_request read_only disk request writable) []

-- ---- a chain of a network device

-- the first frame that waits, if it fits with its header
unfoldable pub receive_step : List ℕ → List ℕ → Facts → ℕ → Layout → List Descriptor → List (List ℕ) → Outcome
receive_step memory disk f q l ds [] = stops Empty
receive_step memory disk f q l ds (frame ∷ frames) =
    if nat_lt (total_length (writable_part ds)) (length (with_header frame)) then stops Dropped else
    service memory f q l ds (with_header frame) disk []

abbrev pub frame_or_nothing : Option (List ℕ) → List ℕ
frame_or_nothing None = []
frame_or_nothing (Some frame) = frame

-- the readable bytes behind their header are sent, if they are a frame; the chain is used all the same
unfoldable pub transmit_step : List ℕ → List ℕ → Facts → ℕ → Layout → List Descriptor → Outcome
transmit_step memory disk f q l ds = service memory f q l ds [] disk (frame_or_nothing (transmitted (readable_bytes memory ds)))

-- ---- a step

unfoldable pub chain_step : MemberMade → Kind → List ℕ → List ℕ → Facts → ℕ → Layout → List Descriptor → Outcome
chain_step made (Block sectors read_only) memory disk f q l ds = block_step made read_only memory disk f q l ds
chain_step made (Net mac) memory disk f q l ds =
    if q == 0 then receive_step memory disk f q l ds f.waiting else transmit_step memory disk f q l ds

unfoldable pub found_step : MemberMade → List ℕ → List ℕ → Facts → ℕ → Layout → Found → Outcome
found_step made memory disk f q l nothing = stops Empty
found_step made memory disk f q l bad_index = stops (Halted Index)
found_step made memory disk f q l bad_chain = stops (Halted Chain)
found_step made memory disk f q l (chain ds) = chain_step made made.kind memory disk f q l ds

unfoldable pub ring_step : MemberMade → List ℕ → List ℕ → Facts → ℕ → Option Layout → Outcome
ring_step made memory disk f q None = stops (Halted Ring)
ring_step made memory disk f q (Some l) = found_step made memory disk f q l (found (uses_tables f.registers) memory l (f.position q))

abbrev pub are_none : List (List ℕ) → Bool
are_none [] = true
are_none (frame ∷ frames) = false

-- the first of these that applies: the queue doesn't exist or isn't pending; it receives, and no frame waits; its ring decides
unfoldable pub outcome : MemberMade → List ℕ → List ℕ → Facts → ℕ → Outcome
outcome made memory disk f q =
    if not (nat_lt q (queue_count made.kind) && f.pending q) then stops NotPending else
    if receives made.kind q && are_none f.waiting then stops Empty else
    ring_step made memory disk f q (legacy_layout (page_number f.registers q) member_ring_size (length memory))

abbrev pub outcome_reply : Outcome → MemberReply
outcome_reply (stops reply) = reply
outcome_reply (serves s) = Served (length s.reply) s.irq s.sent
