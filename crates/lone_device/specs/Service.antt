-- What the code has of a step, and of memory and disk. The code's own.
use Rattle.std.specs.Prelude.{◌≡◌, ℕ, ◌≤◌, List, None, Some, length}
use Rattle.ring_layout.specs.Layout.{LiesIn}
use Rattle.ring_layout.specs.Chain.{available, writable_part, total_length}
use Rattle.ring_device.specs.Buffers.{LieIn}
use Rattle.blk_engine.specs.Block.{stored, HasRoomAt}
use Rattle.group_calls.specs.declared.member.MemberMade.{MemberMade}
use Rattle.group_calls.specs.declared.member.MemberCall.{MemberCall}
use Rattle.group_calls.specs.declared.member.MemberCall.TheVariants.{MemWrite}
use Rattle.group_calls.specs.declared.member.MemberReply.{MemberReply}
use Rattle.group_calls.specs.MemberEntries.{MemberEntry, is_done}
use Rattle.group_calls.specs.Facts.{Facts}
use Rattle.group_calls.specs.Steps.{Outcome, stops, service, outcome}
use Rattle.group_calls.specs.Storage.{memory_length, memory_after, disk_after as disk_left_by}
use Rattle.group_calls.specs.Member.{IsMemberMade, fits}
use Rattle.lone_device.specs.declared.service.Service.{Service}
use Rattle.lone_device.specs.declared.service.Outcome.{Outcome as Found}
use Rattle.lone_device.specs.declared.service.Outcome.TheVariants.{Stops, Serves}
use Rattle.lone_device.specs.declared.stored.Stored.{Stored}
use Rattle.lone_device.specs.declared.seen.Seen.{Seen}
use Rattle.lone_device.specs.Seen.{seen_facts}

-- ---- steps

-- the disk after a service
abbrev pub disk_served : Service → List ℕ → List ℕ
disk_served s disk = elim s.request [
  | None ↦ disk
  | Some r ↦ stored r.put_at r.bytes disk
]

-- the outcome that the code found for queue q
abbrev pub as_outcome : List ℕ → List ℕ → Facts → ℕ → Found → Outcome
as_outcome memory disk f q (Stops reply) = stops reply
as_outcome memory disk f q (Serves s) = service memory f q s.layout s.chain.parts s.reply (disk_served s disk) s.sent

-- there is room on the disk for what a service puts there
abbrev pub HasRoom : Service → List ℕ → Type 0
HasRoom s disk = elim s.request [
  | None ↦ Unit {0}
  | Some r ↦ HasRoomAt r.put_at r.bytes disk
]

-- the service of a chain that stands at a position of a ring in this memory, over this disk
pub record IsUsable (memory disk : List ℕ) (position : ℕ) (s : Service) : Type 0 where
  pub ring : LiesIn (length memory) s.layout
  pub inside : LieIn (length memory) s.chain.parts
  pub head : s.chain.head ≡ available memory s.layout position
  pub fits : length s.reply ≤ total_length (writable_part s.chain.parts)
  pub room : HasRoom s disk

abbrev pub CanBeDone : List ℕ → List ℕ → ℕ → Found → Type 0
CanBeDone memory disk position (Stops reply) = Unit {0}
CanBeDone memory disk position (Serves s) = IsUsable memory disk position s

-- what a step of each queue does over what is seen
abbrev pub does : Stored → Seen → ℕ → Outcome
does d s q = outcome d.made d.memory d.disk (seen_facts s) q

-- ---- memory and disk

-- of a member that was made so
pub record IsSized (d : Stored) : Type 0 where
  pub made : IsMemberMade d.made
  pub memory : length d.memory ≡ memory_length d.made

-- what is stored is what the history says
pub record Holds (made : MemberMade) (d : Stored) (h : List MemberEntry) : Type 0 where
  pub made_is : d.made ≡ made
  pub memory : d.memory ≡ memory_after made h
  pub disk : d.disk ≡ disk_left_by made h

-- a write of the memory is done exactly where it lies in the memory
abbrev pub FitsMemory : MemberMade → MemberCall → MemberReply → Type 0
FitsMemory made (MemWrite addr bytes) reply = is_done reply ≡ fits made addr (length bytes)
FitsMemory made _ reply = Unit {0}
