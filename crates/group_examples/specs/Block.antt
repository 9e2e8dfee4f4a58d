-- Examples of block requests. A chain has a request's header, 512 bytes of data and the status.
use Rattle.std.specs.Prelude.{◌≡◌, ℕ, false, List, [], ◌∷◌, ◌++◌, map, codes, replicate}
use Rattle.byte_fields.specs.Places.{bytes_of}
use Rattle.blk_engine.specs.Block.{status_of}
use Rattle.legacy_regs.specs.declared.interrupts.Irq.TheVariants.{Isr}
use Rattle.group_calls.specs.declared.member.MemberCall.{MemberCall}
use Rattle.group_calls.specs.declared.member.MemberCall.TheVariants.{Notify, MemWrite, MemRead, Step}
use Rattle.group_calls.specs.declared.member.MemberReply.{MemberReply}
use Rattle.group_calls.specs.declared.member.MemberReply.TheVariants.{Data, Written, Served}
use Rattle.group_examples.specs.Bytes.{buffer, available_ring, block_request}
use Rattle.group_examples.specs.Registers.{read}
use Rattle.group_examples.specs.Rings.{ring_at_page_one}

-- data of a length that the device reads, or writes
abbrev pub gives : ℕ → MemberCall
gives len = MemWrite 4096 (buffer 12288 16 1 1 ++ buffer 12800 len 1 2 ++ buffer 12304 1 2 0)

abbrev pub takes : ℕ → MemberCall
takes len = MemWrite 4096 (buffer 12288 16 1 1 ++ buffer 12800 len 3 2 ++ buffer 12304 1 2 0)

-- the nth chain, of a layout: a request of a kind at a sector, its used length and its status
abbrev pub request : ℕ → MemberCall → ℕ → ℕ → ℕ → ℕ → List (MemberCall × MemberReply)
request n layout kind sector used status =
    (MemWrite 12288 (block_request kind sector), Written)
    ∷ (layout, Written)
    ∷ (MemWrite 4354 (bytes_of 2 n), Written)
    ∷ (Step 0, Served used Isr [])
    ∷ (MemRead 12304 1, Data (status ∷ []))
    ∷ []

-- a request with its data, how many bytes are writable, and the status that it gets
pub record Asked : Type 0 where
  pub bytes : List ℕ
  pub writable : ℕ
  pub status : ℕ

abbrev pub asked : ℕ → ℕ → ℕ → ℕ → ℕ → Asked
asked kind sector given writable status = record { bytes = block_request kind sector ++ replicate given 0; writable = writable; status = status }

-- of a disk of 8 sectors: the first sector and the last; one at the capacity, and one that would wrap; no sector at the capacity, and beyond it; a part of a sector; the same of a write; FLUSH; GET_ID with room for 20 bytes and without; and an unknown type
abbrev pub requests_are_checked : List Asked
requests_are_checked =
    asked 0 0 0 513 0
    ∷ asked 0 7 0 513 0
    ∷ asked 0 8 0 513 1
    ∷ asked 0 0xffffffffffffffff 0 513 1
    ∷ asked 0 8 0 1 0
    ∷ asked 0 9 0 1 1
    ∷ asked 0 0 0 512 1
    ∷ asked 1 6 1024 1 0
    ∷ asked 1 7 1024 1 1
    ∷ asked 1 0 511 1 1
    ∷ asked 4 9 0 1 0
    ∷ asked 8 0 0 21 0
    ∷ asked 8 0 0 20 1
    ∷ asked 9 0 0 5 2
    ∷ []

-- each has its status
abbrev pub HaveStatus : List Asked → Type 0
HaveStatus rows = map (λ row. status_of false (replicate 4096 0) row.bytes row.writable) rows ≡ map (λ row. row.status) rows

-- a sector is written and read back
abbrev pub sectors_are_kept : List (MemberCall × MemberReply)
sectors_are_kept =
    (ring_at_page_one, Written)
    ∷ (Notify 0, Written)
    ∷ (MemWrite 12800 (0xaa ∷ 0xbb ∷ 0xcc ∷ 0xdd ∷ []), Written)
    ∷ request 1 (gives 512) 1 3 1 0
    ++ (MemWrite 12800 (0 ∷ 0 ∷ 0 ∷ 0 ∷ []), Written)
    ∷ request 2 (takes 512) 0 3 513 0
    ++ (MemRead 12800 4, Data (0xaa ∷ 0xbb ∷ 0xcc ∷ 0xdd ∷ []))
    ∷ []

-- a reply goes into the writable buffers one after another, past an empty one: 10 bytes of GET_ID, and then the rest with the status
abbrev pub replies_are_scattered : List (MemberCall × MemberReply)
replies_are_scattered =
    (ring_at_page_one, Written)
    ∷ (MemWrite 12288 (block_request 8 0), Written)
    ∷ (MemWrite 4096 (buffer 12288 16 1 1 ++ buffer 12800 10 3 2 ++ buffer 12900 0 3 3 ++ buffer 13000 11 2 0), Written)
    ∷ (MemWrite 4352 (available_ring 0 1 (0 ∷ [])), Written)
    ∷ (Notify 0, Written)
    ∷ (Step 0, Served 21 Isr [])
    ∷ (MemRead 12800 11, Data (codes "virtio-gro" ++ 0 ∷ []))
    ∷ (MemRead 13000 11, Data (codes "up-blk-001" ++ 0 ∷ []))
    ∷ []

-- a read-only device offers RO and refuses to write
abbrev pub writes_are_refused : List (MemberCall × MemberReply)
writes_are_refused =
    (read 0 4, Data (0x60 ∷ 0x0a ∷ 0 ∷ 0x38 ∷ []))
    ∷ (ring_at_page_one, Written)
    ∷ (Notify 0, Written)
    ∷ (MemWrite 12800 (0xaa ∷ 0xbb ∷ 0xcc ∷ 0xdd ∷ []), Written)
    ∷ request 1 (gives 512) 1 3 1 1
    ++ request 2 (takes 512) 0 3 513 0
    ++ (MemRead 12800 4, Data (0 ∷ 0 ∷ 0 ∷ 0 ∷ []))
    ∷ request 3 (takes 20) 8 0 21 0
    ++ (MemRead 12800 20, Data (codes "virtio-group-blk-007"))
    ∷ []
