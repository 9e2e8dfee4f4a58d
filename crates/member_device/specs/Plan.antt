-- A step that is planned and not yet done: which outcome it will be, and what has to hold for it to be done. The code's own.
use Rattle.std.specs.Prelude.{◌≡◌, ℕ, ◌<◌, ◌≤◌, Bool, List, [], ◌∷◌, length, if◌then◌else◌}
use Rattle.ring_layout.specs.declared.layout.Layout.{Layout}
use Rattle.ring_layout.specs.Layout.{LiesIn}
use Rattle.ring_layout.specs.Chain.{available, writable_part, total_length, scattered, Write, used_writes, event_write, written}
use Rattle.ring_device.specs.Buffers.{LieIn}
use Rattle.blk_engine.specs.Block.{stored, HasRoomAt}
use Rattle.legacy_regs.specs.declared.interrupts.Irq.{Irq}
use Rattle.legacy_regs.specs.Registers.{Registers}
use Rattle.group_calls.specs.declared.member.MemberReply.TheVariants.{NotPending as Idle, Empty as Nothing, Halted as Halts, Dropped, Served}
use Rattle.group_calls.specs.RegisterSteps.{after_step}
use Rattle.group_calls.specs.Facts.{Facts}
use Rattle.group_calls.specs.Steps.{Outcome, stops, service}
use Rattle.member_device.specs.declared.plan.Place.{Place}
use Rattle.member_device.specs.declared.plan.Plan.{Plan}
use Rattle.member_device.specs.declared.plan.Plan.TheVariants.{NotPending, Empty, Halted, Drops, Answers, Receives, Transmits}
use Rattle.member_device.specs.Device.{Holdings}

-- the facts of a device that is told the same of each queue
abbrev pub facts_of : Holdings → ℕ → Bool → Facts
facts_of d position pending = record {
  registers = d.registers;
  position = λ q. position;
  pending = λ q. pending;
  waiting = d.waiting;
  raised = 0;
}

-- the next position is named as the one to notify of, where event indices are used
abbrev pub event_writes_if : Bool → ℕ → Layout → List Write
event_writes_if events position l = if events then event_write l position ∷ [] else []

-- the memory after a reply at a position, the used ring, and the position to notify of
abbrev pub put_back : Bool → List ℕ → ℕ → Place → List ℕ → List ℕ
put_back events memory position p reply =
    written (event_writes_if events position p.layout) (
    written (used_writes p.layout position p.chain.head (length reply)) (
    written (scattered (writable_part p.chain.parts) reply) memory))

-- an interrupt of ISR sets it
abbrev pub raised_by : Irq → Registers → Registers
raised_by irq r = after_step (Served 0 irq []) r

-- the outcome that a plan will be
abbrev pub planned : Holdings → Facts → ℕ → Plan → Outcome
planned d f q NotPending = stops Idle
planned d f q Empty = stops Nothing
planned d f q (Halted halt) = stops (Halts halt)
planned d f q Drops = stops Dropped
planned d f q (Answers p put_at request reply) = service d.memory f q p.layout p.chain.parts reply (stored put_at request d.disk) []
planned d f q (Receives p reply) = service d.memory f q p.layout p.chain.parts reply d.disk []
planned d f q (Transmits p sent sent_again) = service d.memory f q p.layout p.chain.parts [] d.disk sent

-- a chain that stands at a position of a ring in this memory
pub record IsPlace (memory : List ℕ) (position : ℕ) (p : Place) : Type 0 where
  pub ring : LiesIn (length memory) p.layout
  pub inside : LieIn (length memory) p.chain.parts
  pub head : p.chain.head ≡ available memory p.layout position

-- and the reply fits the chain
pub record IsUsable (memory : List ℕ) (position : ℕ) (p : Place) (reply : List ℕ) : Type 0 where
  pub place : IsPlace memory position p
  pub fits : length reply ≤ total_length (writable_part p.chain.parts)

-- the plan can be carried out: a block device has no frame that waits, the disk has room for a request's data, the queue that receives has one, and the frame to be kept is the one to be told
abbrev pub IsReady : Holdings → ℕ → ℕ → Plan → Type 0
IsReady d q position Drops = 0 < length d.waiting
IsReady d q position (Answers p put_at request reply) = IsUsable d.memory position p reply × (d.waiting ≡ []) × HasRoomAt put_at request d.disk
IsReady d q position (Receives p reply) = IsUsable d.memory position p reply × (q ≡ 0) × (0 < length d.waiting)
IsReady d q position (Transmits p sent sent_again) = IsPlace d.memory position p × ¬ (q ≡ 0) × (sent_again ≡ sent)
IsReady d q position _ = Unit {0}
