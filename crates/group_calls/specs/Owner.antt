-- What the owner answers, by looking back through its history.
use Rattle.std.specs.Prelude.{ℕ, ◌≤◌, ◌<◌, ◌==◌, nat_lt, nat_le, Bool, true, false, not, ◌||◌, ◌&&◌, List, Option, None, Some, if◌then◌else◌}
use Rattle.std.specs.Int.{bit_at}
use Rattle.std.specs.List.{list_any}
use Rattle.admin_wire.specs.Numbers.{legacy_notify_info}
pub use Rattle.admin_wire.specs.Numbers.{sr_iov, einval, invalid_opcode, invalid_field, invalid_group, invalid_member}
use Rattle.admin_wire.specs.Command.{command_of, list_of}
use Rattle.admin_wire.specs.declared.command.Body.{Body}
use Rattle.admin_wire.specs.declared.command.Body.TheVariants.{Query, Use, Legacy as ToMember, Unknown}
use Rattle.admin_wire.specs.declared.command.Command.{Command}
use Rattle.history.specs.declared.entry.Entry.{Entry}
use Rattle.history.specs.Limits.{actor_limit}
use Rattle.history.specs.Look.{latest_or, after_latest}
use Rattle.history.specs.Legal.{IsLegal, never_quiet}
use Rattle.group_calls.specs.Limits.{writable_limit}
use Rattle.board_text.specs.Floors.{number_for}
use Rattle.group_calls.specs.declared.owner.OwnerCall.{OwnerCall}
use Rattle.group_calls.specs.declared.owner.OwnerCall.TheVariants.{SetVfs, Judge, Gone, Reset}
use Rattle.group_calls.specs.declared.owner.OwnerReply.{OwnerReply}
use Rattle.group_calls.specs.declared.owner.OwnerReply.TheVariants.{Done, List as Listed, Used, Refused, Legacy}

abbrev pub OwnerEntry : Type 0
OwnerEntry = Entry OwnerCall OwnerReply

-- ---- numbers: VIRTIO 1.3, 2.12.1 (group administration commands)

-- the largest opcode
abbrev pub largest_opcode : ℕ
largest_opcode = legacy_notify_info

-- the opcodes 0 to 6, as bits. Of this project
abbrev pub supported_list : ℕ
supported_list = 0x7f

-- ---- the virtual functions: VIRTIO 1.3, 2.12 (device groups)

abbrev pub is_reset : OwnerEntry → Bool
is_reset e = elim e.call [ Reset floors ↦ true | _ ↦ false ]

abbrev pub count_set : OwnerEntry → Option ℕ
count_set e = elim e.call [ SetVfs count ↦ Some count | _ ↦ None ]

-- how many there are: as the latest SetVfs after the latest Reset says, else none
abbrev pub vf_count : List OwnerEntry → ℕ
vf_count h = latest_or 0 count_set (after_latest is_reset h)

abbrev pub names : ℕ → OwnerEntry → Bool
names m e = elim e.call [ Gone member floor ↦ member == m | _ ↦ false ]

-- a Gone names the member. Of this project
abbrev pub is_away : List OwnerEntry → ℕ → Bool
is_away h m = list_any (names m) h

-- the member exists, and isn't away
abbrev pub is_there : List OwnerEntry → ℕ → Bool
is_there h m = nat_lt 0 m && nat_le m (vf_count h) && not (is_away h m)

-- ---- the list in use: VIRTIO 1.3, 2.12.1 (group administration commands)

abbrev pub list_taken : OwnerEntry → Option ℕ
list_taken e = elim e.call [ Judge bytes writable ↦ elim e.reply [ Used ↦ Some (list_of bytes) | _ ↦ None ] | _ ↦ None ]

-- the opcodes in use, as bits: the list of the latest Judge answered Used after the latest Reset, else none
abbrev pub list_in_use : List OwnerEntry → ℕ
list_in_use h = latest_or 0 list_taken (after_latest is_reset h)

-- opcodes 0 and 1 are always in use. Of this project
abbrev pub is_used : List OwnerEntry → ℕ → Bool
is_used h opcode = nat_le opcode 1 || (bit_at (list_in_use h) opcode == 1)

-- ---- the floor of a refusal. Of this project

abbrev pub floor_told : ℕ → OwnerEntry → Option ℕ
floor_told m e = elim e.call [
  | Gone member floor ↦ (if member == m then Some floor else None)
  | Reset floors ↦ Some (number_for m floors)
  | _ ↦ None
]

-- that of the latest Gone of the member, or the number for it in the latest Reset, whichever is later, else 0
abbrev pub refusal_floor : List OwnerEntry → ℕ → ℕ
refusal_floor h m = latest_or 0 (floor_told m) h

abbrev pub refused : List OwnerEntry → ℕ → ℕ → OwnerReply
refused h m qualifier = Refused einval qualifier (refusal_floor h m)

-- ---- the verdict: VIRTIO 1.3, 2.12.1 (group administration commands)

-- on what a command asks, where its group and its opcode are fine
abbrev pub verdict_on : List OwnerEntry → ℕ → Body → OwnerReply
verdict_on h m Query = Listed supported_list
verdict_on h m (Use bits) = if nat_lt supported_list bits then refused h m invalid_field else Used
verdict_on h m (ToMember command) = if is_there h m then Legacy m command else refused h m invalid_member
verdict_on h m Unknown = refused h m invalid_opcode

-- on a command: the group comes first, then the opcode
abbrev pub verdict : List OwnerEntry → List ℕ → ℕ → OwnerReply
verdict h bytes writable =
    let command : Command = command_of bytes writable in
    if not (command.group_type == sr_iov) then refused h command.member invalid_group else
    if not (nat_le command.opcode largest_opcode && is_used h command.opcode) then refused h command.member invalid_opcode else
    verdict_on h command.member command.body

-- what the owner answers
abbrev pub owner_answer : List OwnerEntry → OwnerCall → OwnerReply
owner_answer h (Judge bytes writable) = verdict h bytes writable
owner_answer h _ = Done

-- ---- legal histories. Of this project

-- what a call on an owner made for so many members has to meet
abbrev pub owner_may : ℕ → ℕ → OwnerCall → Type 0
owner_may members who (SetVfs count) = (who < actor_limit) × (count ≤ members)
owner_may members who (Judge bytes writable) = (who < actor_limit) × (writable ≤ writable_limit)
owner_may members who _ = who < actor_limit

abbrev pub IsLegalOwner : ℕ → List OwnerEntry → Type 0
IsLegalOwner members h = IsLegal owner_answer never_quiet (owner_may members) h
