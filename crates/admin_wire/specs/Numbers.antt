-- The numbers and the sizes of commands and completions: VIRTIO 1.3, 2.12 (device groups) and 2.12.1 (group administration commands).
use Rattle.std.specs.Prelude.{ℕ, ◌+◌}
use Rattle.admin_wire.specs.declared.outcome.Status.{Status}
use Rattle.admin_wire.specs.declared.outcome.Status.TheVariants.{Ok, Enomem, Einval}
use Rattle.admin_wire.specs.declared.outcome.Qualifier.{Qualifier}
use Rattle.admin_wire.specs.declared.outcome.Qualifier.TheVariants.{Unqualified, InvalidOpcode, InvalidField, InvalidGroup, InvalidMember}

-- ---- opcodes

abbrev pub list_query : ℕ
list_query = 0

abbrev pub list_use : ℕ
list_use = 1

abbrev pub legacy_common_cfg_write : ℕ
legacy_common_cfg_write = 2

abbrev pub legacy_common_cfg_read : ℕ
legacy_common_cfg_read = 3

abbrev pub legacy_dev_cfg_write : ℕ
legacy_dev_cfg_write = 4

abbrev pub legacy_dev_cfg_read : ℕ
legacy_dev_cfg_read = 5

abbrev pub legacy_notify_info : ℕ
legacy_notify_info = 6

-- ---- group types

abbrev pub sr_iov : ℕ
sr_iov = 1

-- ---- the status of a completion

-- the command was performed
abbrev pub ok : ℕ
ok = 0

abbrev pub enomem : ℕ
enomem = 12

abbrev pub einval : ℕ
einval = 22

abbrev pub status_number : Status → ℕ
status_number Ok = ok
status_number Enomem = enomem
status_number Einval = einval

-- ---- the qualifier of a status, whose numbers are of this project

-- of any status but EINVAL
abbrev pub unqualified : ℕ
unqualified = 0

abbrev pub invalid_opcode : ℕ
invalid_opcode = 1

abbrev pub invalid_field : ℕ
invalid_field = 2

abbrev pub invalid_group : ℕ
invalid_group = 3

abbrev pub invalid_member : ℕ
invalid_member = 4

abbrev pub qualifier_number : Qualifier → ℕ
qualifier_number Unqualified = unqualified
qualifier_number InvalidOpcode = invalid_opcode
qualifier_number InvalidField = invalid_field
qualifier_number InvalidGroup = invalid_group
qualifier_number InvalidMember = invalid_member

-- ---- sizes

-- before the data of a write: the fixed 24 bytes of a command, the offset and 7 reserved bytes
abbrev pub header_size : ℕ
header_size = 32

-- before the result of a completion
abbrev pub fixed_size : ℕ
fixed_size = 8

-- of the result of LIST_QUERY: one word
abbrev pub list_size : ℕ
list_size = 8

-- of the result of LEGACY_NOTIFY_INFO: 4 entries of 16 bytes
abbrev pub info_size : ℕ
info_size = 64

-- how many bytes a command and a completion have at most. Of this project
abbrev pub wire_limit : ℕ
wire_limit = 256

-- and so a result
abbrev pub result_limit : ℕ
result_limit = 248

-- and so the data of a write
abbrev pub data_limit : ℕ
data_limit = 224

-- the data of a write whose command lies in a piece itself, and a result whose completion does: what a piece's 39 bytes leave behind the 32 before data, and behind the 8 before a result. Of this project
abbrev pub place_data_limit : ℕ
place_data_limit = 7

abbrev pub place_payload_limit : ℕ
place_payload_limit = 31

-- how many bytes a driver makes writable for each of the two list commands
abbrev pub query_writable : ℕ
query_writable = fixed_size + list_size

abbrev pub use_writable : ℕ
use_writable = fixed_size
