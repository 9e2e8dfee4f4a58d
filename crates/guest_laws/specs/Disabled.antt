-- After a disabling no register access takes effect. Of this project.
use Rattle.std.specs.Prelude.{◌≡◌, ℕ, ◌+◌, ◌-◌, ◌≤◌, Bool, true, false, List, Some}
use Rattle.history.specs.Places.{entry_at, before}
use Rattle.group_calls.specs.declared.member.MemberMade.{MemberMade}
use Rattle.group_calls.specs.declared.member.MemberCall.{MemberCall}
use Rattle.group_calls.specs.declared.member.MemberCall.TheVariants.{MemWrite}
use Rattle.group_calls.specs.declared.member.MemberReply.TheVariants.{Gone}
use Rattle.group_calls.specs.MemberEntries.{MemberEntry}
use Rattle.group_calls.specs.MemberRegisters.{registers_after}
use Rattle.group_calls.specs.Facts.{facts}
use Rattle.group_calls.specs.Storage.{memory_after, disk_after}
use Rattle.group_calls.specs.Member.{is_memory_call}
use Rattle.member_laws.specs.Ends.{killed}
use Rattle.board_script.specs.Script.{Whole}
use Rattle.journal.specs.Lines.{made_of}
use Rattle.journal.specs.Journals.{Journal, IsLegalJournal}

-- the entries before the Kill of a member that was killed under this floor, which lies directly above the Kill
abbrev pub before_end : ℕ → List MemberEntry → List MemberEntry
before_end floor h = before (floor - 1) h

abbrev pub is_memory_write : MemberCall → Bool
is_memory_write (MemWrite addr bytes) = true
is_memory_write _ = false

-- what becomes of a member that was killed under this floor
pub record IsLeft (made : MemberMade) (h : List MemberEntry) (floor : ℕ) : Type 0 where
  -- each later call but a read or write of the guest's memory is answered Gone
  pub answers : (place : ℕ) (e : MemberEntry) → entry_at place h ≡ Some e → floor ≤ place → is_memory_call e.call ≡ false → e.reply ≡ Gone floor
  -- at each later place the registers are those that stood at the Kill
  pub registers : (place : ℕ) → floor ≤ place → registers_after made.kind (before place h) ≡ registers_after made.kind (before_end floor h)
  -- so are the queues, the frames that wait and the interrupts
  pub facts : (place : ℕ) → floor ≤ place → facts made (before place h) ≡ facts made (before_end floor h)
  -- and so is the disk
  pub disk : (place : ℕ) → floor ≤ place → disk_after made (before place h) ≡ disk_after made (before_end floor h)
  -- each later entry but a write of the memory leaves it as it was
  pub memory : (place : ℕ) (e : MemberEntry) → entry_at place h ≡ Some e → floor ≤ place → is_memory_write e.call ≡ false → memory_after made (before (place + 1) h) ≡ memory_after made (before place h)

abbrev pub DisabledIsLeft : Type 0
DisabledIsLeft = (s : Whole) (j : Journal) → IsLegalJournal s j → (m floor : ℕ) → killed (j.member m) ≡ Some floor → IsLeft (made_of s m) (j.member m) floor
