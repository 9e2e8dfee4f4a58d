-- What the events so far say of a device, as equations over its history. The code's own.
use Rattle.std.specs.Prelude.{◌≡◌, ℕ, ◌≤◌, Bool, true, false, List, length, drop, slice_index_or, is_some, unwrap_or, if◌then◌else◌}
use Rattle.history.specs.Look.{count}
use Rattle.admin_wire.specs.declared.command.LegacyCmd.{LegacyCmd}
use Rattle.legacy_regs.specs.declared.interrupts.Irq.TheVariants.{Isr}
use Rattle.legacy_regs.specs.Registers.{Registers, Bank, selected}
use Rattle.group_calls.specs.declared.member.MemberMade.{MemberMade}
use Rattle.group_calls.specs.declared.member.MemberCall.{MemberCall}
use Rattle.group_calls.specs.declared.member.MemberCall.TheVariants.{Act, MemWrite, MemRead, Step}
use Rattle.group_calls.specs.declared.member.MemberReply.{MemberReply}
use Rattle.group_calls.specs.declared.member.MemberReply.TheVariants.{Gone, Served}
use Rattle.group_calls.specs.MemberEntries.{MemberEntry, since_reset}
use Rattle.group_calls.specs.MemberRegisters.{is_msix, registers_after}
use Rattle.group_calls.specs.MemberQueues.{arrivals, leaves_backlog, raised}
use Rattle.group_calls.specs.RegisterSteps.{registers_then}
use Rattle.group_calls.specs.Facts.{Facts}
use Rattle.group_calls.specs.Member.{is_killed, gone_floor, act_answer}
use Rattle.lone_device.specs.declared.frames.Frames.{Frames}
use Rattle.lone_device.specs.declared.seen.Seen.{Seen}
use Rattle.lone_device.specs.Entries.{msix_then, kept_then, left_then, raised_then, floor_then, HasSmallVector}
use Rattle.lone_device.specs.Queues.{unseen, is_pending, both_queues, queues_then}

-- the frames that wait
abbrev pub waiting : Frames → List (List ℕ)
waiting f = drop f.left f.kept.items

-- what is seen is what the history says
pub record Stands (made : MemberMade) (s : Seen) (h : List MemberEntry) : Type 0 where
  pub kind : s.kind ≡ made.kind
  pub bank : s.regs.kind ≡ made.kind
  pub registers : s.regs.registers ≡ registers_after made.kind h
  pub msix : s.msix ≡ is_msix h
  pub queues : s.queues ≡ both_queues made.kind (since_reset h)
  pub kept : s.frames.kept.items ≡ arrivals (since_reset h)
  pub left : s.frames.left ≡ count leaves_backlog (since_reset h)
  pub few : s.frames.left ≤ length h
  pub raised : s.raised ≡ raised h
  pub killed : is_some s.floor ≡ is_killed h
  pub floor : unwrap_or s.floor 0 ≡ gone_floor h

-- what is seen, in the words of the definitions
abbrev pub seen_facts : Seen → Facts
seen_facts s = record {
  registers = s.regs.registers;
  position = λ q. (slice_index_or s.queues q unseen).position;
  pending = λ q. is_pending (slice_index_or s.queues q unseen);
  waiting = waiting s.frames;
  raised = s.raised;
}

-- ---- entries

-- the registers after a call and its reply
abbrev pub bank_then : MemberCall → MemberReply → Bank → Bank
bank_then call reply bank = record bank { registers = registers_then bank.kind call reply bank.registers }

-- an interrupt of ISR comes only with MSI-X disabled
abbrev pub FitsRegisters : MemberReply → Registers → Type 0
FitsRegisters (Served length Isr sent) r = r.msix ≡ false
FitsRegisters _ r = Unit {0}

-- an entry was noted at this place, before which this queue was selected; the registers stay
pub record NotesBeside (at selected_then : ℕ) (e : MemberEntry) (old new : Seen) : Type 0 where
  pub kind : new.kind ≡ old.kind
  pub regs : new.regs ≡ old.regs
  pub msix : new.msix ≡ msix_then e old.msix
  pub queues : new.queues ≡ queues_then old.kind selected_then e old.queues
  pub kept : new.frames.kept.items ≡ kept_then e old.frames.kept.items
  pub left : new.frames.left ≡ left_then e old.frames.left
  pub raised : HasSmallVector e.reply → new.raised ≡ raised_then e old.raised
  pub floor : new.floor ≡ floor_then at e old.floor

-- an entry was noted at this place, and in the registers
pub record Notes (at : ℕ) (e : MemberEntry) (old new : Seen) : Type 0 where
  pub kind : new.kind ≡ old.kind
  pub regs : FitsRegisters e.reply old.regs.registers → new.regs ≡ bank_then e.call e.reply old.regs
  pub msix : new.msix ≡ msix_then e old.msix
  pub queues : new.queues ≡ queues_then old.kind (selected old.regs.registers) e old.queues
  pub kept : new.frames.kept.items ≡ kept_then e old.frames.kept.items
  pub left : new.frames.left ≡ left_then e old.frames.left
  pub raised : HasSmallVector e.reply → new.raised ≡ raised_then e old.raised
  pub floor : new.floor ≡ floor_then at e old.floor

-- ---- register accesses

-- what the device answers to one
abbrev pub act_told : Seen → LegacyCmd → MemberReply
act_told s command = if is_some s.floor then Gone (unwrap_or s.floor 0) else act_answer s.regs.kind s.regs.registers command

-- ---- calls

-- a call that looks at neither memory nor disk, and is no register access
abbrev pub is_plain : MemberCall → Bool
is_plain (Act command) = false
is_plain (MemWrite addr bytes) = false
is_plain (MemRead addr count) = false
is_plain (Step queue) = false
is_plain _ = true
