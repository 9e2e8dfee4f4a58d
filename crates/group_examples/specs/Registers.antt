-- Examples of register accesses.
use Rattle.std.specs.Prelude.{ℕ, true, false, List, [], ◌∷◌}
use Rattle.admin_wire.specs.declared.command.LegacyCmd.TheVariants.{CommonWrite, CommonRead, DevWrite, DevRead, Info as NotifyInfo}
use Rattle.group_calls.specs.declared.member.Why.TheVariants.{Field}
use Rattle.group_calls.specs.declared.member.Halt.TheVariants.{Ring}
use Rattle.group_calls.specs.declared.member.MemberCall.{MemberCall}
use Rattle.group_calls.specs.declared.member.MemberCall.TheVariants.{Act, Notify, Msix, MemWrite, MemRead, Step, Flr}
use Rattle.group_calls.specs.declared.member.MemberReply.{MemberReply}
use Rattle.group_calls.specs.declared.member.MemberReply.TheVariants.{Data, Written, Info, Refused, NotPending, Halted}
use Rattle.group_calls.specs.declared.lone.LoneEvent.{LoneEvent}
use Rattle.group_calls.specs.declared.lone.LoneEvent.TheVariants.{Read, Write, Other as Call}
use Rattle.group_calls.specs.declared.lone.LoneReply.{LoneReply}
use Rattle.group_calls.specs.declared.lone.LoneReply.TheVariants.{Data as Bytes, Ignored, Ones, Other}

abbrev pub read : ℕ → ℕ → MemberCall
read offset count = Act (CommonRead offset count)

abbrev pub write : ℕ → List ℕ → MemberCall
write offset bytes = Act (CommonWrite offset bytes)

-- MSI-X moves the device's own registers: here a block device's capacity
abbrev pub msix_moves_the_base : List (LoneEvent × LoneReply)
msix_moves_the_base =
    (Read 20 4, Bytes (8 ∷ 0 ∷ 0 ∷ 0 ∷ []))
    ∷ (Call (Msix true), Other Written)
    ∷ (Read 24 4, Bytes (8 ∷ 0 ∷ 0 ∷ 0 ∷ []))
    ∷ (Read 20 2, Bytes (255 ∷ 255 ∷ []))
    ∷ (Read 20 4, Ones)
    ∷ (Call (Msix false), Other Written)
    ∷ (Read 20 4, Bytes (8 ∷ 0 ∷ 0 ∷ 0 ∷ []))
    ∷ []

-- only a write of two bytes to queue notify notifies, and an access is inside one field
abbrev pub notify_is_two_bytes : List (LoneEvent × LoneReply)
notify_is_two_bytes =
    (Write 16 (0 ∷ []), Ignored)
    ∷ (Call (Step 0), Other NotPending)
    ∷ (Write 16 (1 ∷ 0 ∷ []), Ignored)
    ∷ (Call (Step 0), Other NotPending)
    ∷ (Write 16 (0 ∷ 0 ∷ []), Ignored)
    ∷ (Call (Step 0), Other (Halted Ring))
    ∷ (Read 16 2, Bytes (0 ∷ 0 ∷ []))
    ∷ (Read 12 4, Ones)
    ∷ (Read 14 2, Bytes (0 ∷ 0 ∷ []))
    ∷ []

-- a network device's registers: its features, its queues, its MAC and its link
abbrev pub network_registers : List (LoneEvent × LoneReply)
network_registers =
    (Read 0 4, Bytes (0x20 ∷ 0 ∷ 1 ∷ 0x38 ∷ []))
    ∷ (Write 14 (2 ∷ 0 ∷ []), Ignored)
    ∷ (Read 12 2, Bytes (0 ∷ 0 ∷ []))
    ∷ (Write 14 (1 ∷ 0 ∷ []), Ignored)
    ∷ (Read 12 2, Bytes (16 ∷ 0 ∷ []))
    ∷ (Read 20 4, Bytes (2 ∷ 0 ∷ 0 ∷ 0 ∷ []))
    ∷ (Read 24 2, Bytes (0 ∷ 1 ∷ []))
    ∷ (Read 26 2, Bytes (1 ∷ 0 ∷ []))
    ∷ (Write 20 (0xaa ∷ []), Ignored)
    ∷ (Read 20 1, Bytes (0xaa ∷ []))
    ∷ (Call (Msix true), Other Written)
    ∷ (Write 25 (0xbb ∷ []), Ignored)
    ∷ (Read 24 2, Bytes (0xaa ∷ 0xbb ∷ []))
    ∷ []

-- accesses without a byte, and across two fields
abbrev pub short_and_crossing : List (MemberCall × MemberReply)
short_and_crossing =
    (write 18 (3 ∷ []), Written)
    ∷ (read 18 1, Data (3 ∷ []))
    ∷ (write 18 [], Refused Field)
    ∷ (read 18 0, Refused Field)
    ∷ (read 12 4, Refused Field)
    ∷ (write 18 (5 ∷ 6 ∷ []), Refused Field)
    ∷ (read 18 1, Data (3 ∷ []))
    ∷ (Act NotifyInfo, Info)
    ∷ []

-- a write to a read-only field has no effect, and one to a part of a field changes that part
abbrev pub parts_of_fields : List (MemberCall × MemberReply)
parts_of_fields =
    (read 0 4, Data (0x40 ∷ 0x0a ∷ 0 ∷ 0x38 ∷ []))
    ∷ (write 0 (1 ∷ 2 ∷ 3 ∷ 4 ∷ []), Written)
    ∷ (read 0 4, Data (0x40 ∷ 0x0a ∷ 0 ∷ 0x38 ∷ []))
    ∷ (write 5 (10 ∷ []), Written)
    ∷ (read 4 4, Data (0 ∷ 10 ∷ 0 ∷ 0 ∷ []))
    ∷ (write 10 (1 ∷ 2 ∷ []), Written)
    ∷ (read 8 4, Data (0 ∷ 0 ∷ 1 ∷ 2 ∷ []))
    ∷ (Act (DevWrite 32 (6 ∷ [])), Written)
    ∷ (Act (DevRead 32 1), Data (0 ∷ []))
    ∷ (Act (DevWrite 32 (3 ∷ [])), Written)
    ∷ (Act (DevRead 32 1), Data (1 ∷ []))
    ∷ (Act (DevRead 8 12), Data (0 ∷ 0 ∷ 0 ∷ 0 ∷ 0 ∷ 0 ∷ 0 ∷ 0 ∷ 0 ∷ 0 ∷ 0 ∷ 0 ∷ []))
    ∷ (Act (DevRead 20 4), Data (0 ∷ 2 ∷ 0 ∷ 0 ∷ []))
    ∷ (Act (DevRead 32 2), Refused Field)
    ∷ (Act (DevWrite 33 (1 ∷ [])), Refused Field)
    ∷ []

-- a network device's vectors: which values are kept, whose they are, and that turning MSI-X off and on leaves them
abbrev pub vectors_are_kept : List (MemberCall × MemberReply)
vectors_are_kept =
    (read 20 2, Refused Field)
    ∷ (Msix true, Written)
    ∷ (read 20 2, Data (255 ∷ 255 ∷ []))
    ∷ (write 20 (2 ∷ 0 ∷ []), Written)
    ∷ (read 20 2, Data (2 ∷ 0 ∷ []))
    ∷ (write 20 (3 ∷ 0 ∷ []), Written)
    ∷ (read 20 2, Data (255 ∷ 255 ∷ []))
    ∷ (write 20 (0 ∷ []), Written)
    ∷ (read 20 2, Data (255 ∷ 255 ∷ []))
    ∷ (write 22 (1 ∷ 0 ∷ []), Written)
    ∷ (read 22 2, Data (1 ∷ 0 ∷ []))
    ∷ (write 22 (2 ∷ []), Written)
    ∷ (read 22 2, Data (2 ∷ 0 ∷ []))
    ∷ (write 14 (1 ∷ 0 ∷ []), Written)
    ∷ (read 22 2, Data (255 ∷ 255 ∷ []))
    ∷ (write 14 (0 ∷ []), Written)
    ∷ (read 22 2, Data (2 ∷ 0 ∷ []))
    ∷ (Msix false, Written)
    ∷ (write 22 (0 ∷ 0 ∷ []), Refused Field)
    ∷ (Msix true, Written)
    ∷ (read 22 2, Data (2 ∷ 0 ∷ []))
    ∷ (write 23 (1 ∷ []), Written)
    ∷ (read 22 2, Data (255 ∷ 255 ∷ []))
    ∷ []

-- a queue that doesn't exist has no size, no address and no vector, and keeps none; each queue has its own
abbrev pub queues_are_selected : List (MemberCall × MemberReply)
queues_are_selected =
    (Msix true, Written)
    ∷ (write 8 (1 ∷ 0 ∷ 0 ∷ 0 ∷ []), Written)
    ∷ (write 14 (1 ∷ 0 ∷ []), Written)
    ∷ (read 12 2, Data (16 ∷ 0 ∷ []))
    ∷ (read 8 4, Data (0 ∷ 0 ∷ 0 ∷ 0 ∷ []))
    ∷ (write 8 (2 ∷ 0 ∷ 0 ∷ 0 ∷ []), Written)
    ∷ (write 14 (2 ∷ 0 ∷ []), Written)
    ∷ (read 14 2, Data (2 ∷ 0 ∷ []))
    ∷ (read 12 2, Data (0 ∷ 0 ∷ []))
    ∷ (write 8 (9 ∷ 9 ∷ 9 ∷ 9 ∷ []), Written)
    ∷ (read 8 4, Data (0 ∷ 0 ∷ 0 ∷ 0 ∷ []))
    ∷ (write 22 (0 ∷ 0 ∷ []), Written)
    ∷ (read 22 2, Data (255 ∷ 255 ∷ []))
    ∷ (write 14 (0 ∷ []), Written)
    ∷ (read 8 4, Data (1 ∷ 0 ∷ 0 ∷ 0 ∷ []))
    ∷ (write 14 (1 ∷ []), Written)
    ∷ (read 8 4, Data (2 ∷ 0 ∷ 0 ∷ 0 ∷ []))
    ∷ []

-- what a reset of a block device takes away, and what it leaves: here MSI-X and the memory
abbrev pub resets_clear : MemberCall → List (MemberCall × MemberReply)
resets_clear reset =
    (write 4 (0x40 ∷ 0 ∷ 0 ∷ 8 ∷ []), Written)
    ∷ (write 8 (1 ∷ 0 ∷ 0 ∷ 0 ∷ []), Written)
    ∷ (write 18 (7 ∷ []), Written)
    ∷ (Act (DevWrite 32 (0 ∷ [])), Written)
    ∷ (Msix true, Written)
    ∷ (write 20 (1 ∷ 0 ∷ []), Written)
    ∷ (write 22 (1 ∷ 0 ∷ []), Written)
    ∷ (MemWrite 100 (9 ∷ []), Written)
    ∷ (Notify 0, Written)
    ∷ (read 18 1, Data (7 ∷ []))
    ∷ (reset, Written)
    ∷ (read 4 4, Data (0 ∷ 0 ∷ 0 ∷ 0 ∷ []))
    ∷ (read 8 4, Data (0 ∷ 0 ∷ 0 ∷ 0 ∷ []))
    ∷ (read 14 2, Data (0 ∷ 0 ∷ []))
    ∷ (read 18 1, Data (0 ∷ []))
    ∷ (read 20 2, Data (255 ∷ 255 ∷ []))
    ∷ (read 22 2, Data (255 ∷ 255 ∷ []))
    ∷ (Act (DevRead 32 1), Data (1 ∷ []))
    ∷ (MemRead 100 1, Data (9 ∷ []))
    ∷ (Step 0, NotPending)
    ∷ []

-- a reset leaves the MAC, and a function level reset gives the initial one
abbrev pub macs_return : List (MemberCall × MemberReply)
macs_return =
    (Act (DevWrite 0 (0xaa ∷ [])), Written)
    ∷ (Act (DevWrite 6 (0 ∷ 0 ∷ [])), Written)
    ∷ (Act (DevWrite 5 (1 ∷ 1 ∷ [])), Refused Field)
    ∷ (Act (DevRead 0 6), Data (0xaa ∷ 0 ∷ 0 ∷ 0 ∷ 0 ∷ 1 ∷ []))
    ∷ (Act (DevRead 6 2), Data (1 ∷ 0 ∷ []))
    ∷ (write 18 (0 ∷ []), Written)
    ∷ (Act (DevRead 0 6), Data (0xaa ∷ 0 ∷ 0 ∷ 0 ∷ 0 ∷ 1 ∷ []))
    ∷ (Flr, Written)
    ∷ (Act (DevRead 0 6), Data (2 ∷ 0 ∷ 0 ∷ 0 ∷ 0 ∷ 1 ∷ []))
    ∷ []
