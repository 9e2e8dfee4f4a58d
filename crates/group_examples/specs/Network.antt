-- Examples of a network device. Frames come from 12288 on, behind their ten bytes of header.
use Rattle.std.specs.Prelude.{◌≡◌, ℕ, Bool, true, false, is_some, map, List, [], ◌∷◌, ◌++◌, replicate}
use Rattle.byte_fields.specs.Places.{bytes_of}
use Rattle.admin_wire.specs.declared.command.LegacyCmd.TheVariants.{DevWrite, DevRead}
use Rattle.net_engine.specs.Frames.{transmitted}
use Rattle.legacy_regs.specs.declared.interrupts.Irq.TheVariants.{Silent, Isr, Vector}
use Rattle.group_calls.specs.declared.member.Why.TheVariants.{Frame}
use Rattle.group_calls.specs.declared.member.Halt.TheVariants.{Ring}
use Rattle.group_calls.specs.declared.member.MemberCall.{MemberCall}
use Rattle.group_calls.specs.declared.member.MemberCall.TheVariants.{Act, Notify, Msix, MemWrite, MemRead, TakeIrqs, Step, Arrive}
use Rattle.group_calls.specs.declared.member.MemberReply.{MemberReply}
use Rattle.group_calls.specs.declared.member.MemberReply.TheVariants.{Data, Written, Refused, Served, Empty, NotPending, Halted, Dropped, Irqs, Arrived, BacklogFull}
use Rattle.group_examples.specs.Bytes.{buffer, available_ring, used_element}
use Rattle.group_examples.specs.Registers.{read, write}
use Rattle.group_examples.specs.Rings.{ring_at_page_one}

-- a frame to everybody, with so many bytes behind its 14
abbrev pub frame : ℕ → List ℕ
frame more = 255 ∷ 255 ∷ 255 ∷ 255 ∷ 255 ∷ 255 ∷ 2 ∷ 0 ∷ 0 ∷ 0 ∷ 0 ∷ 9 ∷ 8 ∷ 0 ∷ replicate more 0xaa

-- one chain with room for a frame of 14 bytes
abbrev pub room_for_a_frame : List (MemberCall × MemberReply)
room_for_a_frame =
    (ring_at_page_one, Written)
    ∷ (MemWrite 4096 (buffer 12288 24 2 0), Written)
    ∷ (MemWrite 4352 (available_ring 0 1 (0 ∷ [])), Written)
    ∷ []

-- a frame that doesn't fit and one that does, then a byte of the MAC
abbrev pub frames_are_received : List (MemberCall × MemberReply)
frames_are_received =
    room_for_a_frame
    ++ (Arrive (frame 1), Arrived)
    ∷ (Arrive (frame 0), Arrived)
    ∷ (Step 0, Dropped)
    ∷ (Step 0, Served 24 Isr [])
    ∷ (MemRead 8192 12, Data (bytes_of 2 0 ++ bytes_of 2 1 ++ used_element 0 24))
    ∷ (MemRead 12288 24, Data (replicate 10 0 ++ frame 0))
    ∷ (Act (DevWrite 0 (0xaa ∷ [])), Written)
    ∷ (Act (DevRead 0 1), Data (0xaa ∷ []))
    ∷ (Act (DevRead 5 1), Data (1 ∷ []))
    ∷ []

-- an address write takes the notification of the frames that wait, and not the frames; a reset takes the frames
abbrev pub frames_wait : List (MemberCall × MemberReply)
frames_wait =
    room_for_a_frame
    ++ (Arrive (frame 0), Arrived)
    ∷ (ring_at_page_one, Written)
    ∷ (Step 0, NotPending)
    ∷ (Arrive (replicate 14 7), Arrived)
    ∷ (Step 0, Served 24 Isr [])
    ∷ (MemRead 12298 14, Data (frame 0))
    ∷ (Step 0, Empty)
    ∷ (Notify 0, Written)
    ∷ (write 18 (0 ∷ []), Written)
    ∷ (Notify 0, Written)
    ∷ (Step 0, Empty)
    ∷ (Arrive (frame 0), Arrived)
    ∷ (Step 0, Halted Ring)
    ∷ []

-- what is no frame, and the 65th frame
abbrev pub backlogs_are_full : List (MemberCall × MemberReply)
backlogs_are_full =
    (Arrive (replicate 13 0), Refused Frame)
    ∷ (Arrive (replicate 1515 0), Refused Frame)
    ∷ (Arrive (replicate 1514 0), Arrived)
    ∷ replicate 63 (Arrive (frame 0), Arrived)
    ++ (Arrive (frame 0), BacklogFull)
    ∷ (Notify 0, Written)
    ∷ (Arrive (frame 0), BacklogFull)
    ∷ []

-- a block device takes no frames
abbrev pub frames_are_refused : List (MemberCall × MemberReply)
frames_are_refused = (Arrive (frame 0), Refused Frame) ∷ []

-- the transmit queue, whose chain has so many bytes to read
abbrev pub transmits : ℕ → ℕ → List ℕ → List (MemberCall × MemberReply)
transmits n len sent =
    (MemWrite 4096 (buffer 12288 len 1 1 ++ buffer 16000 8 2 0), Written)
    ∷ (MemWrite 4354 (bytes_of 2 n), Written)
    ∷ (Step 1, Served 0 Isr sent)
    ∷ []

-- the bytes behind a header are sent, if they are a frame; the chain is used all the same
abbrev pub frames_are_sent : List (MemberCall × MemberReply)
frames_are_sent =
    (write 14 (1 ∷ 0 ∷ []), Written)
    ∷ (ring_at_page_one, Written)
    ∷ (MemWrite 12298 (frame 1), Written)
    ∷ (Notify 1, Written)
    ∷ (Step 0, NotPending)
    ∷ transmits 1 25 (frame 1)
    ++ transmits 2 23 []
    ++ (MemRead 8194 2, Data (2 ∷ 0 ∷ []))
    ∷ []

-- the vectors of both queues, and a service without one; an address write leaves the other queue as it is, and a reset leaves what was raised
abbrev pub vectors_are_raised : List (MemberCall × MemberReply)
vectors_are_raised =
    (Msix true, Written)
    ∷ (write 22 (1 ∷ 0 ∷ []), Written)
    ∷ room_for_a_frame
    ++ (Arrive (frame 0), Arrived)
    ∷ (write 14 (1 ∷ 0 ∷ []), Written)
    ∷ (write 8 (4 ∷ 0 ∷ 0 ∷ 0 ∷ []), Written)
    ∷ (MemWrite 16640 (available_ring 0 2 []), Written)
    ∷ (Step 0, Served 24 (Vector 1) [])
    ∷ (Notify 1, Written)
    ∷ (Step 1, Served 0 Silent [])
    ∷ (write 22 (2 ∷ 0 ∷ []), Written)
    ∷ (Step 1, Served 0 (Vector 2) [])
    ∷ (read 19 1, Data (0 ∷ []))
    ∷ (write 18 (0 ∷ []), Written)
    ∷ (TakeIrqs, Irqs 6)
    ∷ (TakeIrqs, Irqs 0)
    ∷ []

-- how many bytes, and whether there is a frame behind their header
abbrev pub lengths_are_sent : List (ℕ × Bool)
lengths_are_sent = (0, false) ∷ (9, false) ∷ (10, false) ∷ (23, false) ∷ (24, true) ∷ (1524, true) ∷ (1525, false) ∷ []

abbrev pub AreFrames : List (ℕ × Bool) → Type 0
AreFrames rows = map (λ row. is_some (transmitted (replicate row.0 0))) rows ≡ map (λ row. row.1) rows
