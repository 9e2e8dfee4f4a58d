-- A block guest that boots, writes sector 3 and reads it back, on a device that is attached directly.
use Rattle.std.specs.Prelude.{true, List, [], ◌∷◌, ◌++◌}
use Rattle.byte_fields.specs.Places.{bytes_of}
use Rattle.legacy_regs.specs.declared.interrupts.Irq.TheVariants.{Vector}
use Rattle.group_calls.specs.declared.member.MemberCall.TheVariants.{Msix, MemWrite, MemRead, TakeIrqs, Step}
use Rattle.group_calls.specs.declared.member.MemberReply.TheVariants.{Data, Written, Served, Empty, NotPending, Irqs}
use Rattle.group_calls.specs.declared.lone.LoneEvent.{LoneEvent}
use Rattle.group_calls.specs.declared.lone.LoneEvent.TheVariants.{Read, Write, Other as Call}
use Rattle.group_calls.specs.declared.lone.LoneReply.{LoneReply}
use Rattle.group_calls.specs.declared.lone.LoneReply.TheVariants.{Data as Bytes, Ignored, Other}
use Rattle.group_examples.specs.Bytes.{buffer, available_ring, used_element, block_request}

abbrev pub a_guest_boots : List (LoneEvent × LoneReply)
a_guest_boots =
    (Write 18 (0 ∷ []), Ignored)
    ∷ (Write 18 (1 ∷ []), Ignored)
    ∷ (Write 18 (3 ∷ []), Ignored)
    ∷ (Read 0 4, Bytes (0x40 ∷ 0x0a ∷ 0 ∷ 0x38 ∷ []))
    ∷ (Write 4 (0x40 ∷ 0 ∷ 0 ∷ 0x08 ∷ []), Ignored)
    ∷ (Call (Msix true), Other Written)
    ∷ (Write 14 (0 ∷ 0 ∷ []), Ignored)
    ∷ (Read 12 2, Bytes (16 ∷ 0 ∷ []))
    ∷ (Write 8 (1 ∷ 0 ∷ 0 ∷ 0 ∷ []), Ignored)
    ∷ (Write 22 (1 ∷ 0 ∷ []), Ignored)
    ∷ (Read 22 2, Bytes (1 ∷ 0 ∷ []))
    ∷ (Read 24 4, Bytes (8 ∷ 0 ∷ 0 ∷ 0 ∷ []))
    ∷ (Write 18 (7 ∷ []), Ignored)
    ∷ (Call (MemWrite 12288 (block_request 1 3)), Other Written)
    ∷ (Call (MemWrite 12800 (0xaa ∷ 0xbb ∷ 0xcc ∷ 0xdd ∷ [])), Other Written)
    ∷ (Call (MemWrite 4096 (buffer 12288 16 1 1 ++ buffer 12800 512 1 2 ++ buffer 12304 1 2 0)), Other Written)
    ∷ (Call (MemWrite 4352 (available_ring 0 1 (0 ∷ []))), Other Written)
    ∷ (Write 16 (0 ∷ 0 ∷ []), Ignored)
    ∷ (Call (Step 0), Other (Served 1 (Vector 1) []))
    ∷ (Call TakeIrqs, Other (Irqs 2))
    ∷ (Call (MemRead 8192 12), Other (Data (bytes_of 2 0 ++ bytes_of 2 1 ++ used_element 0 1)))
    ∷ (Call (MemWrite 12288 (0 ∷ [])), Other Written)
    ∷ (Call (MemWrite 12800 (0 ∷ 0 ∷ 0 ∷ 0 ∷ [])), Other Written)
    ∷ (Call (MemWrite 4124 (3 ∷ 0 ∷ [])), Other Written)
    ∷ (Call (MemWrite 4354 (2 ∷ 0 ∷ 0 ∷ 0 ∷ 0 ∷ 0 ∷ [])), Other Written)
    ∷ (Write 16 (0 ∷ 0 ∷ []), Ignored)
    ∷ (Call (Step 0), Other (Served 513 (Vector 1) []))
    ∷ (Call (MemRead 12800 4), Other (Data (0xaa ∷ 0xbb ∷ 0xcc ∷ 0xdd ∷ [])))
    ∷ (Call (MemRead 8194 2), Other (Data (2 ∷ 0 ∷ [])))
    ∷ (Call (MemRead 8204 8), Other (Data (used_element 0 513)))
    ∷ (Call TakeIrqs, Other (Irqs 2))
    ∷ (Call (Step 0), Other Empty)
    ∷ (Call (Step 0), Other NotPending)
    ∷ []
