-- Examples of verdicts on commands.
use Rattle.std.specs.Prelude.{ℕ, ◌-◌, ◌^◌, List, [], ◌∷◌, ◌++◌, take}
use Rattle.byte_fields.specs.Places.{bytes_of}
use Rattle.admin_wire.specs.declared.command.LegacyCmd.TheVariants.{CommonWrite, CommonRead}
use Rattle.group_calls.specs.declared.owner.OwnerCall.{OwnerCall}
use Rattle.group_calls.specs.declared.owner.OwnerCall.TheVariants.{SetVfs, Judge, Gone, Reset}
use Rattle.group_calls.specs.declared.owner.OwnerReply.{OwnerReply}
use Rattle.group_calls.specs.declared.owner.OwnerReply.TheVariants.{Done, List as Listed, Used, Refused, Legacy}
use Rattle.group_examples.specs.Bytes.{command_bytes}

-- LIST_USE with a list
abbrev pub use_list : ℕ → OwnerCall
use_list bits = Judge (command_bytes 1 1 0 ++ bytes_of 8 bits) 8

-- a read of the common structure of a member, from an offset on, of two bytes
abbrev pub read_two : ℕ → ℕ → OwnerCall
read_two member offset = Judge (command_bytes 3 1 member ++ offset ∷ []) 10

-- the list of supported opcodes; missing bytes are zeros; the group type comes before the opcode
abbrev pub commands_are_read : List (OwnerCall × OwnerReply)
commands_are_read =
    (Judge (command_bytes 0 1 0) 16, Listed 127)
    ∷ (Judge (command_bytes 0 1 0) 0, Listed 127)
    ∷ (Judge (0 ∷ 0 ∷ []) 16, Refused 22 3 0)
    ∷ (Judge [] 16, Refused 22 3 0)
    ∷ (Judge (command_bytes 99 2 0) 8, Refused 22 3 0)
    ∷ (Judge (command_bytes 99 1 0) 8, Refused 22 1 0)
    ∷ []

-- a command is served while its opcode is in the list in use
abbrev pub lists_are_used : List (OwnerCall × OwnerReply)
lists_are_used =
    (SetVfs 1, Done)
    ∷ (read_two 1 12, Refused 22 1 0)
    ∷ (use_list 0x7f, Used)
    ∷ (read_two 1 12, Legacy 1 (CommonRead 12 2))
    ∷ (use_list 0x77, Used)
    ∷ (read_two 1 12, Refused 22 1 0)
    ∷ (Judge (command_bytes 0 1 0) 16, Listed 127)
    ∷ []

-- a list with an opcode that isn't supported is refused, and the earlier one stays in use
abbrev pub unsupported_lists : List (OwnerCall × OwnerReply)
unsupported_lists =
    (SetVfs 1, Done)
    ∷ (use_list 0x7f, Used)
    ∷ (use_list 0xff, Refused 22 2 0)
    ∷ (read_two 1 12, Legacy 1 (CommonRead 12 2))
    ∷ []

-- there are members from 1 to the number of virtual functions
abbrev pub members_exist : List (OwnerCall × OwnerReply)
members_exist =
    (SetVfs 2, Done)
    ∷ (use_list 0x7f, Used)
    ∷ (read_two 0 18, Refused 22 4 0)
    ∷ (read_two 2 18, Legacy 2 (CommonRead 18 2))
    ∷ (read_two 3 18, Refused 22 4 0)
    ∷ (read_two (2 ^ 64 - 1) 18, Refused 22 4 0)
    ∷ []

-- a write's data begin at byte 32, and a read has what is writable behind its first 8 bytes
abbrev pub accesses_are_read : List (OwnerCall × OwnerReply)
accesses_are_read =
    (SetVfs 1, Done)
    ∷ (use_list 0x7f, Used)
    ∷ (Judge (command_bytes 2 1 1 ++ 18 ∷ 0 ∷ 0 ∷ 0 ∷ 0 ∷ 0 ∷ 0 ∷ 0 ∷ 3 ∷ []) 8, Legacy 1 (CommonWrite 18 (3 ∷ [])))
    ∷ (Judge (command_bytes 3 1 1 ++ 18 ∷ []) 9, Legacy 1 (CommonRead 18 1))
    ∷ (Judge (command_bytes 2 1 1 ++ 18 ∷ 0 ∷ 0 ∷ 0 ∷ 0 ∷ 0 ∷ 0 ∷ []) 8, Legacy 1 (CommonWrite 18 []))
    ∷ (Judge (command_bytes 3 1 1 ++ 18 ∷ []) 8, Legacy 1 (CommonRead 18 0))
    ∷ (Judge (command_bytes 3 1 1 ++ 12 ∷ []) 12, Legacy 1 (CommonRead 12 4))
    ∷ []

-- a member that was disabled, and the owner's reset, with their floors
abbrev pub members_go : List (OwnerCall × OwnerReply)
members_go =
    (SetVfs 3, Done)
    ∷ (use_list 0x7f, Used)
    ∷ (Gone 2 7, Done)
    ∷ (read_two 2 12, Refused 22 4 7)
    ∷ (read_two 1 12, Legacy 1 (CommonRead 12 2))
    ∷ (Judge (command_bytes 3 2 2) 10, Refused 22 3 7)
    ∷ (Judge (command_bytes 3 2 1) 10, Refused 22 3 0)
    ∷ (Reset (5 ∷ 9 ∷ []), Done)
    ∷ (read_two 1 12, Refused 22 1 5)
    ∷ (read_two 2 12, Refused 22 1 9)
    ∷ (read_two 3 12, Refused 22 1 0)
    ∷ (read_two 0 12, Refused 22 1 0)
    ∷ (use_list 0x7f, Used)
    ∷ (read_two 1 12, Refused 22 4 5)
    ∷ (SetVfs 3, Done)
    ∷ (read_two 1 12, Legacy 1 (CommonRead 12 2))
    ∷ (read_two 2 12, Refused 22 4 9)
    ∷ []

-- a write of 3 to device status, of which only so many bytes came
abbrev pub short_write : ℕ → OwnerCall
short_write length = Judge (take length (command_bytes 2 1 1 ++ 18 ∷ 0 ∷ 0 ∷ 0 ∷ 0 ∷ 0 ∷ 0 ∷ 0 ∷ 3 ∷ [])) 8

-- without its group type; without its member; without its offset; and without its data, or with them
abbrev pub commands_are_short : List (OwnerCall × OwnerReply)
commands_are_short =
    (SetVfs 1, Done)
    ∷ (use_list 0x7f, Used)
    ∷ (short_write 0, Refused 22 3 0)
    ∷ (short_write 2, Refused 22 3 0)
    ∷ (short_write 3, Refused 22 4 0)
    ∷ (short_write 16, Refused 22 4 0)
    ∷ (short_write 17, Legacy 1 (CommonWrite 0 []))
    ∷ (short_write 32, Legacy 1 (CommonWrite 18 []))
    ∷ (short_write 33, Legacy 1 (CommonWrite 18 (3 ∷ [])))
    ∷ []
