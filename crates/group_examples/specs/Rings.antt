-- Examples of a block device's queue.
use Rattle.std.specs.Prelude.{ℕ, List, [], ◌∷◌, ◌++◌, replicate}
use Rattle.byte_fields.specs.Places.{bytes_of}
use Rattle.legacy_regs.specs.declared.interrupts.Irq.TheVariants.{Silent, Isr}
use Rattle.group_calls.specs.declared.member.Halt.{Halt}
use Rattle.group_calls.specs.declared.member.Halt.TheVariants.{Ring, Index, Chain, Request}
use Rattle.group_calls.specs.declared.member.MemberCall.{MemberCall}
use Rattle.group_calls.specs.declared.member.MemberCall.TheVariants.{Notify, MemWrite, MemRead, Step, Kill}
use Rattle.group_calls.specs.declared.member.MemberReply.{MemberReply}
use Rattle.group_calls.specs.declared.member.MemberReply.TheVariants.{Data, Written, Gone, Served, Empty, NotPending, Halted, Killed}
use Rattle.group_examples.specs.Bytes.{buffer, available_ring, used_element, block_request}
use Rattle.group_examples.specs.Registers.{read, write}

-- the ring at page 1: its table at 4096, its available ring at 4352, its used ring at 8192
abbrev pub ring_at_page_one : MemberCall
ring_at_page_one = write 8 (1 ∷ 0 ∷ 0 ∷ 0 ∷ [])

-- a flush in two buffers
abbrev pub flush : List (MemberCall × MemberReply)
flush =
    (MemWrite 12288 (block_request 4 0), Written)
    ∷ (MemWrite 4096 (buffer 12288 16 1 1 ++ buffer 12304 1 2 0), Written)
    ∷ []

-- a service uses the chain and raises ISR, which a read clears; then nothing is left to serve
abbrev pub services_raise_isr : List (MemberCall × MemberReply)
services_raise_isr =
    (ring_at_page_one, Written)
    ∷ flush
    ++ (MemWrite 4352 (available_ring 0 1 (0 ∷ [])), Written)
    ∷ (Step 0, NotPending)
    ∷ (Notify 0, Written)
    ∷ (Step 1, NotPending)
    ∷ (Step 0, Served 1 Isr [])
    ∷ (read 19 1, Data (1 ∷ []))
    ∷ (read 19 1, Data (0 ∷ []))
    ∷ (MemRead 8192 12, Data (bytes_of 2 0 ++ bytes_of 2 1 ++ used_element 0 1))
    ∷ (Step 0, Empty)
    ∷ (Step 0, NotPending)
    ∷ []

-- a guest that doesn't want an interrupt gets none
abbrev pub interrupts_are_unwanted : List (MemberCall × MemberReply)
interrupts_are_unwanted =
    (ring_at_page_one, Written)
    ∷ flush
    ++ (MemWrite 4352 (available_ring 1 1 (0 ∷ [])), Written)
    ∷ (Notify 0, Written)
    ∷ (Step 0, Served 1 Silent [])
    ∷ (read 19 1, Data (0 ∷ []))
    ∷ []

-- two services one after another; a write to a part of the address begins the ring anew
abbrev pub addresses_restart : List (MemberCall × MemberReply)
addresses_restart =
    (ring_at_page_one, Written)
    ∷ flush
    ++ (MemWrite 4352 (available_ring 0 2 (0 ∷ 0 ∷ [])), Written)
    ∷ (Notify 0, Written)
    ∷ (Step 0, Served 1 Isr [])
    ∷ (Step 0, Served 1 Isr [])
    ∷ (MemRead 8194 2, Data (2 ∷ 0 ∷ []))
    ∷ (write 9 (0 ∷ []), Written)
    ∷ (Step 0, NotPending)
    ∷ (Notify 0, Written)
    ∷ (Step 0, Served 1 Isr [])
    ∷ (MemRead 8194 2, Data (1 ∷ 0 ∷ []))
    ∷ []

-- an endless chain, an available index too far ahead, a buffer outside the memory; and after a kill nothing is served
abbrev pub guests_are_hostile : List (MemberCall × MemberReply)
guests_are_hostile =
    (ring_at_page_one, Written)
    ∷ (MemWrite 4096 (buffer 12288 16 1 0), Written)
    ∷ (MemWrite 4352 (available_ring 0 1 (0 ∷ [])), Written)
    ∷ (Notify 0, Written)
    ∷ (Step 0, Halted Chain)
    ∷ (Notify 0, Written)
    ∷ (Step 0, NotPending)
    ∷ (read 12 2, Data (16 ∷ 0 ∷ []))
    ∷ (write 18 (0 ∷ []), Written)
    ∷ (ring_at_page_one, Written)
    ∷ (MemWrite 4354 (0x2c ∷ 1 ∷ []), Written)
    ∷ (Notify 0, Written)
    ∷ (Step 0, Halted Index)
    ∷ (write 18 (0 ∷ []), Written)
    ∷ (ring_at_page_one, Written)
    ∷ (MemWrite 4096 (buffer 16384 16 0 0), Written)
    ∷ (MemWrite 4354 (1 ∷ 0 ∷ []), Written)
    ∷ (Notify 0, Written)
    ∷ (Step 0, Halted Chain)
    ∷ (Kill, Killed)
    ∷ (Step 0, Gone 20)
    ∷ []

-- a flush, with a descriptor table and an available ring, what its step is answered, and the used ring after it
abbrev pub flush_over : List ℕ → List ℕ → MemberReply → List ℕ → List (MemberCall × MemberReply)
flush_over table ring reply used =
    (ring_at_page_one, Written)
    ∷ (MemWrite 12288 (block_request 4 0), Written)
    ∷ (MemWrite 4096 table, Written)
    ∷ (MemWrite 4352 ring, Written)
    ∷ (Notify 0, Written)
    ∷ (Step 0, reply)
    ∷ (MemRead 8192 12, Data used)
    ∷ []

abbrev pub is_served : List ℕ → List ℕ → List (MemberCall × MemberReply)
is_served table ring = flush_over table ring (Served 1 Isr []) (bytes_of 2 0 ++ bytes_of 2 1 ++ used_element 0 1)

abbrev pub is_halted : Halt → List ℕ → List ℕ → List (MemberCall × MemberReply)
is_halted halt table ring = flush_over table ring (Halted halt) (replicate 12 0)

abbrev pub one_entry : List ℕ
one_entry = available_ring 0 1 (0 ∷ [])

-- each on a device of its own: the chain of two buffers; a buffer to read behind one to write; INDIRECT; a follower beyond the table; a head beyond it; none to write; fewer than 16 bytes to read; a buffer that wraps; an empty buffer at the memory's end; a status that lies on the used index; another flag; sixteen entries, and seventeen
abbrev pub rings_are_hostile : List (List (MemberCall × MemberReply))
rings_are_hostile =
    is_served (buffer 12288 16 1 1 ++ buffer 12304 1 2 0) one_entry
    ∷ is_halted Chain (buffer 12288 16 3 1 ++ buffer 12304 1 0 0) one_entry
    ∷ is_halted Chain (buffer 12288 16 4 0) one_entry
    ∷ is_halted Chain (buffer 12288 16 1 16) one_entry
    ∷ is_halted Chain (buffer 12288 16 1 1 ++ buffer 12304 1 2 0) (available_ring 0 1 (16 ∷ []))
    ∷ is_halted Request (buffer 12288 16 0 0) one_entry
    ∷ is_halted Request (buffer 12288 15 1 1 ++ buffer 12304 1 2 0) one_entry
    ∷ is_halted Chain (buffer 0xfffffffffffffff0 32 1 1 ++ buffer 12304 1 2 0) one_entry
    ∷ is_served (buffer 12288 16 1 1 ++ buffer 16384 0 1 2 ++ buffer 12304 1 2 0) one_entry
    ∷ is_served (buffer 12288 16 1 1 ++ buffer 8194 1 2 0) one_entry
    ∷ is_served (buffer 12288 16 0x8001 1 ++ buffer 12304 1 2 0) one_entry
    ∷ is_served (buffer 12288 16 1 1 ++ buffer 12304 1 2 0) (available_ring 0 16 [])
    ∷ is_halted Index (buffer 12288 16 1 1 ++ buffer 12304 1 2 0) (available_ring 0 17 [])
    ∷ is_halted Chain (buffer 12288 16 1 1 ++ buffer 12288 16 1 0) one_entry
    ∷ []

-- a ring that passes the memory, and one that ends in it, where no entry is available
abbrev pub rings_fit : List (MemberCall × MemberReply)
rings_fit =
    (write 8 (3 ∷ 0 ∷ 0 ∷ 0 ∷ []), Written)
    ∷ (Notify 0, Written)
    ∷ (Step 0, Halted Ring)
    ∷ (write 8 (2 ∷ 0 ∷ 0 ∷ 0 ∷ []), Written)
    ∷ (Notify 7, Written)
    ∷ (Step 0, NotPending)
    ∷ (Step 7, NotPending)
    ∷ (Notify 0, Written)
    ∷ (Step 0, Empty)
    ∷ []

-- ---- what the driver accepted: VIRTIO 1.3, 2.7.5.3, 2.7.7 and 2.7.10

-- a flush in a table of two descriptors
abbrev pub flush_by_table : List (MemberCall × MemberReply)
flush_by_table =
    (MemWrite 12288 (block_request 4 0), Written)
    ∷ (MemWrite 12544 (buffer 12288 16 1 1 ++ buffer 12304 1 2 0), Written)
    ∷ (MemWrite 4096 (buffer 12544 32 4 0), Written)
    ∷ []

-- one entry for it, by a driver that set these features, and what its step is answered
abbrev pub table_is_met : List ℕ → MemberReply → List (MemberCall × MemberReply)
table_is_met features reply =
    (write 4 features, Written)
    ∷ (ring_at_page_one, Written)
    ∷ flush_by_table
    ++ (MemWrite 4352 one_entry, Written)
    ∷ (Notify 0, Written)
    ∷ (Step 0, reply)
    ∷ []

-- where it is served, what stands then in the used ring, in ISR, and behind the used ring's elements
abbrev pub table_is_served : List ℕ → List ℕ → List (MemberCall × MemberReply)
table_is_served features event =
    table_is_met features (Served 1 Isr [])
    ++ (MemRead 8192 12, Data (bytes_of 2 0 ++ bytes_of 2 1 ++ used_element 0 1))
    ∷ (read 19 1, Data (1 ∷ []))
    ∷ (MemRead 8324 2, Data event)
    ∷ []

-- each on a device of its own: with both features the table is followed and the next position is named; with INDIRECT_DESC alone no position is; with EVENT_IDX alone the queue halts
abbrev pub tables_are_followed : List (List (MemberCall × MemberReply))
tables_are_followed =
    table_is_served (0 ∷ 0 ∷ 0 ∷ 0x30 ∷ []) (1 ∷ 0 ∷ [])
    ∷ table_is_served (0 ∷ 0 ∷ 0 ∷ 0x10 ∷ []) (0 ∷ 0 ∷ [])
    ∷ table_is_met (0 ∷ 0 ∷ 0 ∷ 0x20 ∷ []) (Halted Chain)
    ∷ []

-- two entries for a flush; behind the entries of the available ring the driver asks for an interrupt at position 1
abbrev pub second_is_awaited : List ℕ → List (MemberCall × MemberReply) → List (MemberCall × MemberReply)
second_is_awaited features chain =
    (write 4 features, Written)
    ∷ (ring_at_page_one, Written)
    ∷ chain
    ++ (MemWrite 4352 (available_ring 0 2 (0 ∷ 0 ∷ [])), Written)
    ∷ (MemWrite 4388 (1 ∷ 0 ∷ []), Written)
    ∷ (Notify 0, Written)
    ∷ (Step 0, Served 1 Silent [])
    ∷ (read 19 1, Data (0 ∷ []))
    ∷ (Step 0, Served 1 Isr [])
    ∷ (read 19 1, Data (1 ∷ []))
    ∷ (MemRead 8324 2, Data (2 ∷ 0 ∷ []))
    ∷ []

-- each on a device of its own: with both features and a table, and with EVENT_IDX alone and no table
abbrev pub positions_are_awaited : List (List (MemberCall × MemberReply))
positions_are_awaited =
    second_is_awaited (0 ∷ 0 ∷ 0 ∷ 0x30 ∷ []) flush_by_table
    ∷ second_is_awaited (0 ∷ 0 ∷ 0 ∷ 0x20 ∷ []) flush
    ∷ []
