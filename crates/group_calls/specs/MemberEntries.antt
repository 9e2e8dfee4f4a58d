-- A member's entries: which are done, what they write to the registers, and which reset the member.
use Rattle.std.specs.Prelude.{ℕ, Bool, true, false, ◌||◌, ◌&&◌, List, Option, None, Some, if◌then◌else◌}
use Rattle.admin_wire.specs.declared.command.LegacyCmd.{LegacyCmd}
use Rattle.admin_wire.specs.declared.command.LegacyCmd.TheVariants.{CommonWrite, DevWrite}
use Rattle.legacy_regs.specs.declared.accesses.Space.{Space}
use Rattle.legacy_regs.specs.declared.accesses.Space.TheVariants.{Common, Device}
use Rattle.legacy_regs.specs.Accesses.{byte_put, is_reset_write}
use Rattle.history.specs.declared.entry.Entry.{Entry}
use Rattle.history.specs.Look.{after_latest}
use Rattle.group_calls.specs.declared.member.MemberCall.{MemberCall}
use Rattle.group_calls.specs.declared.member.MemberCall.TheVariants.{Act, Flr}
use Rattle.group_calls.specs.declared.member.MemberReply.{MemberReply}
use Rattle.group_calls.specs.declared.member.MemberReply.TheVariants.{Refused, Gone}

abbrev pub MemberEntry : Type 0
MemberEntry = Entry MemberCall MemberReply

-- ---- what is done. Of this project

-- the reply is neither Gone nor Refused
abbrev pub is_done : MemberReply → Bool
is_done (Gone floor) = false
is_done (Refused why) = false
is_done _ = true

-- ---- register writes: VIRTIO 1.3, 4.1.4.10 (legacy interfaces), 2.12.1 (group administration commands, Legacy Interfaces)

-- bytes from an offset of a structure on
pub record RegisterWrite : Type 0 where
  pub offset : ℕ
  pub bytes : List ℕ

abbrev pub write_of : Space → LegacyCmd → Option RegisterWrite
write_of Common (CommonWrite offset bytes) = Some record { offset = offset; bytes = bytes }
write_of Device (DevWrite offset bytes) = Some record { offset = offset; bytes = bytes }
write_of space command = None

abbrev pub write_asked : Space → MemberCall → Option RegisterWrite
write_asked space (Act command) = write_of space command
write_asked space _ = None

-- the entry's write to a structure, if it is a done one
abbrev pub done_write : Space → MemberEntry → Option RegisterWrite
done_write space e = if is_done e.reply then write_asked space e.call else None

abbrev pub byte_at : ℕ → Option RegisterWrite → Option ℕ
byte_at place None = None
byte_at place (Some w) = byte_put place w.offset w.bytes

-- the byte that it puts at a place of the structure
abbrev pub byte_written : Space → ℕ → MemberEntry → Option ℕ
byte_written space place e = byte_at place (done_write space e)

-- ---- resets: VIRTIO 1.3, 2.4 (device reset)

abbrev pub is_zero_status : Option RegisterWrite → Bool
is_zero_status None = false
is_zero_status (Some w) = is_reset_write w.offset w.bytes

-- a done function level reset
abbrev pub is_flr : MemberEntry → Bool
is_flr e = is_done e.reply && elim e.call [ Flr ↦ true | _ ↦ false ]

-- a done write of 0 to device status, or a done function level reset
abbrev pub is_reset : MemberEntry → Bool
is_reset e = is_zero_status (done_write Common e) || is_flr e

-- a run: the entries after the latest reset
abbrev pub since_reset : List MemberEntry → List MemberEntry
since_reset h = after_latest is_reset h
