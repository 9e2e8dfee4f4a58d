-- Chains of descriptors in a split virtqueue: VIRTIO 1.3, 2.7. A memory is a list of bytes.
use Rattle.std.specs.Prelude.{◌≡◌, ℕ, zero, suc, ◌+◌, ◌-◌, ◌*◌, ◌/◌, ◌%◌, ◌^◌, ◌<◌, ◌≤◌, ◌==◌, nat_lt, nat_le, Bool, true, false, not, ◌&&◌, ◌||◌, ◌⊎◌, List, [], ◌∷◌, ◌++◌, Option, None, Some, option_map, length, take, drop, filter, if◌then◌else◌}
use Rattle.std.specs.Int.RustNames.{bit_and}
use Rattle.std.specs.List.{list_all, flat_map, sum_by}
use Rattle.byte_fields.specs.Places.{le16, le32, le64, bytes_at, overwrite, bytes_of}
use Rattle.ring_layout.specs.declared.layout.Layout.{Layout}
use Rattle.ring_layout.specs.declared.descriptor.Descriptor.{Descriptor}
use Rattle.ring_layout.specs.declared.table.Table.{Table}

-- the index of either ring is a 16-bit number, so it runs modulo this: 2.7.6, 2.7.8
abbrev pub index_modulus : ℕ
index_modulus = 65536

-- the descriptor at an index of a table that begins at an address: 2.7.5
unfoldable pub descriptor : List ℕ → ℕ → ℕ → Descriptor
descriptor mem table i = record {
  addr = le64 (table + 16 * i) mem;
  len = le32 (table + 16 * i + 8) mem;
  flags = record { 0 = le16 (table + 16 * i + 12) mem };
  next = le16 (table + 16 * i + 14) mem;
}

-- the flags NEXT, WRITE and INDIRECT: 2.7.5
abbrev pub has_next : Descriptor → Bool
has_next d = bit_and d.flags.0 1 == 1

abbrev pub is_written : Descriptor → Bool
is_written d = bit_and d.flags.0 2 == 2

abbrev pub is_indirect : Descriptor → Bool
is_indirect d = bit_and d.flags.0 4 == 4

-- the head that stands in the available ring at a position: 2.7.6
unfoldable pub available : List ℕ → Layout → ℕ → ℕ
available mem l pos = le16 (l.avail + 4 + 2 * (pos % l.size)) mem

-- how many entries are available from a position on: 2.7.6
unfoldable pub gap : List ℕ → Layout → ℕ → ℕ
gap mem l pos = (le16 (l.avail + 2) mem + (index_modulus - pos)) % index_modulus

-- the buffer lies in a memory of this length; of this project
abbrev pub is_inside : ℕ → Descriptor → Bool
is_inside memory d = nat_le (d.addr + d.len) memory

-- a buffer in memory, and no table
abbrev pub is_buffer : ℕ → Descriptor → Bool
is_buffer memory d = is_inside memory d && not (is_indirect d)

-- ---- tables of descriptors

-- the ring's own: 2.7.5
abbrev pub ring_table : Layout → Table
ring_table l = record { addr = l.table; count = l.size }

-- the table lies in a memory of this length, and its addresses have 64 bits; of this project
pub record TableLiesIn (memory : ℕ) (t : Table) : Type 0 where
  pub inside : t.addr + 16 * t.count ≤ memory
  pub small : t.addr + 16 * t.count ≤ 2 ^ 64

-- the most descriptors of a table that a descriptor with INDIRECT names; of this project
abbrev pub table_limit : ℕ
table_limit = 128

-- the descriptor's buffer, in a memory of this length, is the table, with 16 bytes a descriptor: 2.7.5.3
pub record IsTable (memory : ℕ) (d : Descriptor) (t : Table) : Type 0 where
  pub addr : t.addr ≡ d.addr
  pub size : 16 * t.count ≡ d.len
  pub some : 1 ≤ t.count
  pub most : t.count ≤ table_limit
  pub inside : is_inside memory d ≡ true

-- the descriptors that follow one another from an index of a table on: each stands in it at its index, each but the last
-- has NEXT and names the index of its follower, and the last has no NEXT: 2.7.5
abbrev pub AreLinked : List ℕ → Table → ℕ → List Descriptor → Type 0
AreLinked mem t i [] = ⊥
AreLinked mem t i (d ∷ []) = (i < t.count) × (d ≡ descriptor mem t.addr i) × (has_next d ≡ false)
AreLinked mem t i (d ∷ e ∷ rest) = (i < t.count) × (d ≡ descriptor mem t.addr i) × (has_next d ≡ true) × AreLinked mem t d.next (e ∷ rest)

-- the same, at most as many as the table has, so none is met twice on a loop; of this project
pub record IsRun (mem : List ℕ) (t : Table) (i : ℕ) (ds : List Descriptor) : Type 0 where
  pub linked : AreLinked mem t i ds
  pub few : length ds ≤ t.count

-- ---- chains

-- none without WRITE follows one with WRITE: 2.7.4
abbrev pub is_ordered : List Descriptor → Bool
is_ordered [] = true
is_ordered (d ∷ rest) = (not (is_written d) || list_all is_written rest) && is_ordered rest

-- the descriptors from a head on lead to a table: the last in the ring's table has INDIRECT, and the buffers are those
-- before it and then those of the table that it names, from index 0 on: 2.7.5.3
pub record HasTable (mem : List ℕ) (l : Layout) (head : ℕ) (c : List Descriptor) : Type 0 where
  pub before : List Descriptor
  pub last : Descriptor
  pub table : Table
  pub behind : List Descriptor
  pub direct : IsRun mem (ring_table l) head (before ++ last ∷ [])
  pub indirect : is_indirect last ≡ true
  pub names : IsTable (length mem) last table
  pub inner : IsRun mem table 0 behind
  pub joined : c ≡ before ++ behind

-- these are the buffers of a chain whose head stands at the position, where tables may be used or not: those of the
-- ring's table from the head on, or with a table behind them; each lies in the memory, none has INDIRECT, and those to
-- write stand behind those to read: 2.7.5
pub record IsChain (indirect : Bool) (mem : List ℕ) (l : Layout) (pos : ℕ) (c : List Descriptor) : Type 0 where
  pub parts : IsRun mem (ring_table l) (available mem l pos) c ⊎ ((indirect ≡ true) × HasTable mem l (available mem l pos) c)
  pub buffers : list_all (is_buffer (length mem)) c ≡ true
  pub ordered : is_ordered c ≡ true

-- ---- the chain at a position, computed

-- the table that a descriptor names, if its buffer is one
abbrev pub named_table : ℕ → Descriptor → Option Table
named_table memory d =
    if is_inside memory d && (d.len % 16 == 0) && nat_le 1 (d.len / 16) && nat_le (d.len / 16) table_limit
    then Some record { addr = d.addr; count = d.len / 16 }
    else None

-- the buffers from an index of a table on, if at most n descriptors follow one another; one with INDIRECT gives those of
-- its own table
abbrev pub followed : (Descriptor → Option (List Descriptor)) → List ℕ → Table → ℕ → ℕ → Option (List Descriptor)
followed own mem t zero i = None
followed own mem t (suc n) i =
    if not (nat_lt i t.count) then None
    else if is_indirect (descriptor mem t.addr i) then own (descriptor mem t.addr i)
    else if has_next (descriptor mem t.addr i) then option_map (λ rest. descriptor mem t.addr i ∷ rest) (followed own mem t n (descriptor mem t.addr i).next)
    else Some (descriptor mem t.addr i ∷ [])

-- the buffers of a table, in which no other is named
abbrev pub table_buffers : List ℕ → Option Table → Option (List Descriptor)
table_buffers mem None = None
table_buffers mem (Some t) = followed (λ d. None) mem t t.count 0

-- those of the table that a last descriptor names, where tables may be used
abbrev pub named_buffers : Bool → List ℕ → Descriptor → Option (List Descriptor)
named_buffers indirect mem d = if indirect && not (has_next d) then table_buffers mem (named_table (length mem) d) else None

-- those of a memory of this length that are buffers in order
abbrev pub sound : ℕ → Option (List Descriptor) → Option (List Descriptor)
sound memory None = None
sound memory (Some c) = if list_all (is_buffer memory) c && is_ordered c then Some c else None

-- the chain at a position, if there is one: no other list can be one; of this project
unfoldable pub chain_at : Bool → List ℕ → Layout → ℕ → Option (List Descriptor)
chain_at indirect mem l pos = sound (length mem) (followed (named_buffers indirect mem) mem (ring_table l) l.size (available mem l pos))

-- ---- what a device finds

-- what a device finds at a position: no entry, an index that is off, an entry that is no chain, or a chain's descriptors;
-- of this project
pub data Found : Type 0 where
  nothing : Found
  bad_index : Found
  bad_chain : Found
  chain : List Descriptor → Found

-- the last two of these
abbrev pub found_chain : Option (List Descriptor) → Found
found_chain None = bad_chain
found_chain (Some c) = chain c

-- nothing where no entry is available, and a bad index where more are than the ring has
unfoldable pub found : Bool → List ℕ → Layout → ℕ → Found
found indirect mem l pos =
    if gap mem l pos == 0 then nothing
    else if nat_lt l.size (gap mem l pos) then bad_index
    else found_chain (chain_at indirect mem l pos)

-- ---- the bytes of a chain, and its use

-- the buffers that the device reads and those that it writes, without WRITE and with it: 2.7.5
abbrev pub readable_part : List Descriptor → List Descriptor
readable_part ds = filter (λ d. not (is_written d)) ds

abbrev pub writable_part : List Descriptor → List Descriptor
writable_part ds = filter is_written ds

-- how many bytes these buffers have
abbrev pub total_length : List Descriptor → ℕ
total_length ds = sum_by (λ d. d.len) ds

-- the bytes of the buffers without WRITE, in order: 2.7.4
abbrev pub readable_bytes : List ℕ → List Descriptor → List ℕ
readable_bytes mem ds = flat_map (λ d. bytes_at d.addr d.len mem) (readable_part ds)

-- a write of bytes at an address; of this project
pub record Write : Type 0 where
  pub addr : ℕ
  pub bytes : List ℕ

-- the writes that put bytes into these buffers from their front on: 2.7.4
abbrev pub scattered : List Descriptor → List ℕ → List Write
scattered [] bytes = []
scattered (d ∷ ds) bytes = record { addr = d.addr; bytes = take d.len bytes } ∷ scattered ds (drop d.len bytes)

-- the writes that use a chain: the element at a position, with the head and the number of bytes put into the chain,
-- and then the index: 2.7.8
abbrev pub used_writes : Layout → ℕ → ℕ → ℕ → List Write
used_writes l pos head count =
    record { addr = l.used + 4 + 8 * (pos % l.size); bytes = bytes_of 4 head ++ bytes_of 4 count }
    ∷ record { addr = l.used + 2; bytes = bytes_of 2 ((pos + 1) % index_modulus) } ∷ []

-- the write that asks for a notification of the next position, behind the used ring's elements: avail_event of 2.7.10
abbrev pub event_write : Layout → ℕ → Write
event_write l pos = record { addr = l.used + 4 + 8 * l.size; bytes = bytes_of 2 ((pos + 1) % index_modulus) }

-- the memory after these writes, one after the other; of this project
abbrev pub written : List Write → List ℕ → List ℕ
written [] mem = mem
written (w ∷ ws) mem = written ws (overwrite w.addr w.bytes mem)

-- the flag NO_INTERRUPT of the available ring: 2.7.7
abbrev pub wants_no_interrupt : List ℕ → Layout → Bool
wants_no_interrupt mem l = bit_and (le16 l.avail mem) 1 == 1

-- the position whose use the driver wants to hear of, behind the available ring's entries: used_event of 2.7.7
abbrev pub used_event : List ℕ → Layout → ℕ
used_event mem l = le16 (l.avail + 4 + 2 * l.size) mem

-- whether an interrupt is wanted for the chain at a position: where event indices are used, for the position that is named
-- and no other; else unless the flag is set: 2.7.7
abbrev pub wants_interrupt : Bool → List ℕ → Layout → ℕ → Bool
wants_interrupt event mem l pos = if event then pos == used_event mem l else not (wants_no_interrupt mem l)
