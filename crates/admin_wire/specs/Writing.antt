-- The bytes that a driver writes for a command (VIRTIO 1.3, 2.12.1), with zeros where bytes are reserved.
use Rattle.std.specs.Prelude.{ℕ, List, [], ◌∷◌, ◌++◌, replicate}
use Rattle.byte_fields.specs.Places.{bytes_of}
use Rattle.admin_wire.specs.Numbers.{list_query, list_use, legacy_common_cfg_write, legacy_common_cfg_read, legacy_dev_cfg_write, legacy_dev_cfg_read, legacy_notify_info, sr_iov, info_size}
use Rattle.admin_wire.specs.declared.command.Body.TheVariants.{Query, Use, Legacy}
use Rattle.admin_wire.specs.declared.command.LegacyCmd.{LegacyCmd}
use Rattle.admin_wire.specs.declared.command.LegacyCmd.TheVariants.{CommonWrite, CommonRead, DevWrite, DevRead, Info}
use Rattle.admin_wire.specs.declared.command.Command.{Command}

-- le16 opcode, le16 group type, 12 reserved bytes, le64 member
unfoldable pub fixed_part : ℕ → ℕ → List ℕ
fixed_part opcode member = bytes_of 2 opcode ++ bytes_of 2 sr_iov ++ replicate 12 0 ++ bytes_of 8 member

-- LIST_QUERY
abbrev pub query_bytes : List ℕ
query_bytes = fixed_part list_query 0

-- LIST_USE
abbrev pub use_bytes : ℕ → List ℕ
use_bytes bits = fixed_part list_use 0 ++ bytes_of 8 bits

abbrev pub opcode_for : LegacyCmd → ℕ
opcode_for (CommonWrite offset bytes) = legacy_common_cfg_write
opcode_for (CommonRead offset size) = legacy_common_cfg_read
opcode_for (DevWrite offset bytes) = legacy_dev_cfg_write
opcode_for (DevRead offset size) = legacy_dev_cfg_read
opcode_for Info = legacy_notify_info

-- what follows the fixed part: an offset, and for a write 7 reserved bytes and the data
abbrev pub legacy_data : LegacyCmd → List ℕ
legacy_data (CommonWrite offset bytes) = (offset ∷ replicate 7 0) ++ bytes
legacy_data (CommonRead offset size) = offset ∷ []
legacy_data (DevWrite offset bytes) = (offset ∷ replicate 7 0) ++ bytes
legacy_data (DevRead offset size) = offset ∷ []
legacy_data Info = []

-- an access to the registers of a member
abbrev pub legacy_bytes : ℕ → LegacyCmd → List ℕ
legacy_bytes member command = fixed_part (opcode_for command) member ++ legacy_data command

-- the data that an access writes
abbrev pub bytes_written : LegacyCmd → List ℕ
bytes_written (CommonWrite offset bytes) = bytes
bytes_written (DevWrite offset bytes) = bytes
bytes_written (CommonRead offset size) = []
bytes_written (DevRead offset size) = []
bytes_written Info = []

-- how many bytes its result has: those that it reads, or those of the notify information
abbrev pub result_length : LegacyCmd → ℕ
result_length (CommonWrite offset bytes) = 0
result_length (CommonRead offset size) = size
result_length (DevWrite offset bytes) = 0
result_length (DevRead offset size) = size
result_length Info = info_size

-- the commands that these bytes are
abbrev pub query_command : Command
query_command = record { opcode = list_query; group_type = sr_iov; member = 0; body = Query }

abbrev pub use_command : ℕ → Command
use_command bits = record { opcode = list_use; group_type = sr_iov; member = 0; body = Use bits }

abbrev pub legacy_command : ℕ → LegacyCmd → Command
legacy_command member command = record { opcode = opcode_for command; group_type = sr_iov; member = member; body = Legacy command }
