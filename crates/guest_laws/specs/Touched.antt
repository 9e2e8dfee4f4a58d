-- Who touches a guest's member: the guest, by its own lines, and those whose lines name the member. Of this project.
use Rattle.std.specs.Prelude.{◌≡◌, ℕ, ◌⊎◌, Bool, true, false, Some}
use Rattle.admin_wire.specs.declared.command.LegacyCmd.{LegacyCmd}
use Rattle.history.specs.Places.{entry_at}
use Rattle.group_calls.specs.declared.member.MemberCall.{MemberCall}
use Rattle.group_calls.specs.declared.member.MemberCall.TheVariants.{Act, Notify, Msix, MemWrite, MemRead, TakeIrqs}
use Rattle.group_calls.specs.declared.member.MemberReply.{MemberReply}
use Rattle.group_calls.specs.MemberEntries.{MemberEntry}
use Rattle.board_script.specs.Script.{Whole}
use Rattle.board_script.specs.Bounds.{IsScript}
use Rattle.journal.specs.Journals.{Journal, IsLegalSoFar}
use Rattle.journal.specs.Heads.{is_info, is_from_outside, IsAskedByLine}
use Rattle.journal_laws.specs.Theirs.{IsAccessLine}

-- a doorbell, a read or write of the memory, MSI-X, and the taking of interrupts
abbrev pub is_own_call : MemberCall → Bool
is_own_call (Notify queue) = true
is_own_call (Msix on) = true
is_own_call (MemWrite addr bytes) = true
is_own_call (MemRead addr count) = true
is_own_call TakeIrqs = true
is_own_call _ = false

pub record IsTouchedByOwn (s : Whole) (j : Journal) (m : ℕ) : Type 0 where
  -- these its guest alone calls
  pub own : (place : ℕ) (e : MemberEntry) → entry_at place (j.member m) ≡ Some e → is_own_call e.call ≡ true → e.who ≡ m
  -- a register access is that of a line of its guest, by whomever it was carried out
  pub accesses : (place who : ℕ) (access : LegacyCmd) (reply : MemberReply) → entry_at place (j.member m) ≡ Some record { who = who; call = Act access; reply = reply }
      → is_info (Act access) ≡ false → IsAccessLine s j m place access
  -- a step, a frame and a reset are its guest's, or those of a line that names the member
  pub outside : (place : ℕ) (e : MemberEntry) → entry_at place (j.member m) ≡ Some e → is_from_outside e.call ≡ true → (e.who ≡ m) ⊎ IsAskedByLine j m place e

abbrev pub EachIsTouchedByOwn : Type 0
EachIsTouchedByOwn = (s : Whole) (j : Journal) → IsScript s → IsLegalSoFar s j → (m : ℕ) → IsTouchedByOwn s j m
