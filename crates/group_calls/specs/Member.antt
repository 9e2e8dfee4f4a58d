-- What a member answers, by what its history says.
use Rattle.std.specs.Prelude.{ℕ, ◌+◌, ◌<◌, ◌≤◌, nat_le, Bool, true, false, not, ◌&&◌, List, Option, None, Some, length, if◌then◌else◌}
use Rattle.std.specs.List.{list_any}
use Rattle.byte_fields.specs.Places.{bytes_at}
use Rattle.admin_wire.specs.declared.command.LegacyCmd.{LegacyCmd}
use Rattle.admin_wire.specs.declared.command.LegacyCmd.TheVariants.{CommonWrite, CommonRead, DevWrite, DevRead, Info as NotifyInfo}
use Rattle.net_engine.specs.Frames.{backlog_limit, is_frame_length}
use Rattle.legacy_regs.specs.declared.device.Kind.{Kind}
use Rattle.legacy_regs.specs.declared.accesses.Space.TheVariants.{Common, Device}
use Rattle.legacy_regs.specs.Registers.{Registers}
use Rattle.legacy_regs.specs.Accesses.{is_refused_read, is_refused_write, read_bytes}
use Rattle.history.specs.Limits.{actor_limit}
use Rattle.history.specs.Look.{latest_seen_or}
use Rattle.history.specs.Legal.{IsLegal, never_quiet}
use Rattle.group_calls.specs.declared.member.MemberMade.{MemberMade}
use Rattle.group_calls.specs.declared.member.Why.TheVariants.{Field, Range, Frame}
use Rattle.group_calls.specs.declared.member.MemberCall.{MemberCall}
use Rattle.group_calls.specs.declared.member.MemberCall.TheVariants.{Act, Notify, Msix, MemWrite, MemRead, TakeIrqs, Step, Arrive, Flr, Kill}
use Rattle.group_calls.specs.declared.member.MemberReply.{MemberReply}
use Rattle.group_calls.specs.declared.member.MemberReply.TheVariants.{Data, Written, Info, Refused, Gone, Irqs, Arrived, BacklogFull, Killed}
use Rattle.byte_fields.specs.Sizes.{member_limit, page_limit, sector_limit}
use Rattle.group_calls.specs.MemberEntries.{MemberEntry}
use Rattle.group_calls.specs.MemberQueues.{receives}
use Rattle.group_calls.specs.Facts.{Facts, facts}
use Rattle.group_calls.specs.Steps.{outcome, outcome_reply}
use Rattle.group_calls.specs.Storage.{Stored, zeros, memory_length, sectors_of, memory_from, disk_from}

-- ---- the end of a member. Of this project

abbrev pub kills : MemberEntry → Bool
kills e = elim e.call [ Kill ↦ elim e.reply [ Killed ↦ true | _ ↦ false ] | _ ↦ false ]

-- a Kill answered Killed stands
abbrev pub is_killed : List MemberEntry → Bool
is_killed h = list_any kills h

abbrev pub floor_shown : MemberEntry → List MemberEntry → Option ℕ
floor_shown e past = if kills e then Some (length past + 1) else None

-- the place of the latest of these, and one: a floor of whatever comes after it; else 0
abbrev pub gone_floor : List MemberEntry → ℕ
gone_floor h = latest_seen_or 0 floor_shown h

-- ---- register accesses: VIRTIO 1.3, 2.12.1 (group administration commands, Legacy Interfaces), 4.1.4.10 (legacy interfaces)

abbrev pub is_refused : Kind → Bool → LegacyCmd → Bool
is_refused kind msix (CommonWrite offset bytes) = is_refused_write kind msix Common offset bytes
is_refused kind msix (CommonRead offset count) = is_refused_read kind msix Common offset count
is_refused kind msix (DevWrite offset bytes) = is_refused_write kind msix Device offset bytes
is_refused kind msix (DevRead offset count) = is_refused_read kind msix Device offset count
is_refused kind msix NotifyInfo = false

abbrev pub access_answer : Kind → Registers → LegacyCmd → MemberReply
access_answer kind r (CommonWrite offset bytes) = Written
access_answer kind r (CommonRead offset count) = Data (read_bytes kind r Common offset count)
access_answer kind r (DevWrite offset bytes) = Written
access_answer kind r (DevRead offset count) = Data (read_bytes kind r Device offset count)
access_answer kind r NotifyInfo = Info

abbrev pub act_answer : Kind → Registers → LegacyCmd → MemberReply
act_answer kind r command = if is_refused kind r.msix command then Refused Field else access_answer kind r command

-- ---- memory, and frames: VIRTIO 1.3, 5.1.6 (device operation of a network device). The limits are of this project

-- so many bytes from an address on lie in the memory
abbrev pub fits : MemberMade → ℕ → ℕ → Bool
fits made addr count = nat_le (addr + count) (memory_length made)

abbrev pub mem_write_answer : MemberMade → ℕ → List ℕ → MemberReply
mem_write_answer made addr bytes = if fits made addr (length bytes) then Written else Refused Range

abbrev pub mem_read_answer : MemberMade → List ℕ → ℕ → ℕ → MemberReply
mem_read_answer made memory addr count = if fits made addr count then Data (bytes_at addr count memory) else Refused Range

-- a network device takes frames, and lets so many wait
abbrev pub arrive_answer : Kind → List (List ℕ) → List ℕ → MemberReply
arrive_answer kind waiting frame =
    if not (receives kind 0 && is_frame_length (length frame)) then Refused Frame else
    if nat_le backlog_limit (length waiting) then BacklogFull else Arrived

-- ---- answers. Of this project

-- of a member that lives, with these facts, memory and disk
abbrev pub living_answer : MemberMade → Facts → List ℕ → List ℕ → MemberCall → MemberReply
living_answer made f memory disk (Act command) = act_answer made.kind f.registers command
living_answer made f memory disk (Notify queue) = Written
living_answer made f memory disk (Msix on) = Written
living_answer made f memory disk (MemWrite addr bytes) = mem_write_answer made addr bytes
living_answer made f memory disk (MemRead addr count) = mem_read_answer made memory addr count
living_answer made f memory disk TakeIrqs = Irqs f.raised
living_answer made f memory disk (Step queue) = outcome_reply (outcome made memory disk f queue)
living_answer made f memory disk (Arrive frame) = arrive_answer made.kind f.waiting frame
living_answer made f memory disk Flr = Written
living_answer made f memory disk Kill = Killed

-- the guest's memory outlives the member
abbrev pub is_memory_call : MemberCall → Bool
is_memory_call (MemWrite addr bytes) = true
is_memory_call (MemRead addr count) = true
is_memory_call _ = false

-- of a member that was killed, under this floor, or lives
abbrev pub answer_by : MemberMade → Bool → ℕ → Facts → List ℕ → List ℕ → MemberCall → MemberReply
answer_by made killed floor f memory disk call = if killed && not (is_memory_call call) then Gone floor else living_answer made f memory disk call

-- what a member answers that began with this memory and disk
abbrev pub answer_from : Stored → MemberMade → List MemberEntry → MemberCall → MemberReply
answer_from first made h call = answer_by made (is_killed h) (gone_floor h) (facts made h) (memory_from first made h) (disk_from first made h) call

-- and with zeros
abbrev pub member_answer : MemberMade → List MemberEntry → MemberCall → MemberReply
member_answer made h call = answer_from (zeros made) made h call

-- ---- legal histories. Of this project

-- what a member is made with: a number of three digits, some memory, and not too much of it nor of disk
pub record IsMemberMade (made : MemberMade) : Type 0 where
  pub number : made.id ≤ member_limit
  pub some_memory : 1 ≤ made.pages
  pub most_memory : made.pages ≤ page_limit
  pub most_sectors : sectors_of made.kind ≤ sector_limit

-- what a call has to meet
abbrev pub member_may : MemberMade → ℕ → MemberCall → Type 0
member_may made who call = who < actor_limit

abbrev pub IsLegalMember : MemberMade → List MemberEntry → Type 0
IsLegalMember made h = IsLegal (member_answer made) never_quiet (member_may made) h
