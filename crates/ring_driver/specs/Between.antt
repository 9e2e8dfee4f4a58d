-- What stands in a split virtqueue between its driver and its device: VIRTIO 1.3, 2.7. A memory is a list of bytes.
--
-- The driver puts a chain into the table and its head into the available ring, where it is waiting. The device fetches
-- the waiting chains in order, holds them, and uses each that it holds, in any order: it puts the head into the used
-- ring. There it is done, until the driver takes it back, in order.
use Rattle.std.specs.Prelude.{◌≡◌, ℕ, ◌+◌, ◌*◌, ◌/◌, ◌%◌, ◌≤◌, ◌==◌, nat_lt, ◌&&◌, List, [], ◌∷◌, ◌++◌, length, map, if◌then◌else◌}
use Rattle.byte_fields.specs.Places.{le16, le32}
use Rattle.ring_layout.specs.declared.layout.Layout.{Layout}
use Rattle.ring_layout.specs.declared.descriptor.Descriptor.{Descriptor}
use Rattle.ring_layout.specs.Layout.{LiesIn}
use Rattle.ring_layout.specs.Chain.{descriptor, available, index_modulus}
use Rattle.ring_driver.specs.declared.span.Span.{Span}
use Rattle.ring_driver.specs.Driver.{Driver}

-- ---- chains and elements

-- a chain of two buffers, by its head: one that the device reads, and one that it writes
pub record Pair : Type 0 where
  pub head : ℕ
  pub readable : Span
  pub writable : Span

-- an element of the used ring: a chain's head, and how many bytes were put into its buffer: 2.7.8
pub record Element : Type 0 where
  pub head : ℕ
  pub length : ℕ

-- the buffer lies in a memory of this length
abbrev pub SpanLiesIn : ℕ → Span → Type 0
SpanLiesIn memory span = span.addr + span.len ≤ memory

-- the two descriptors of a chain: the first with NEXT, the second with WRITE: 2.7.5
abbrev pub first_of : Pair → Descriptor
first_of p = record { addr = p.readable.addr; len = p.readable.len; flags = record { 0 = 1 }; next = p.head + 1 }

abbrev pub second_of : Pair → Descriptor
second_of p = record { addr = p.writable.addr; len = p.writable.len; flags = record { 0 = 2 }; next = 0 }

-- the chain stands in the table, and its buffers lie in the memory
pub record IsInTable (mem : List ℕ) (l : Layout) (p : Pair) : Type 0 where
  pub below : p.head + 2 ≤ l.size
  pub even : p.head % 2 ≡ 0
  pub first : descriptor mem l.table p.head ≡ first_of p
  pub second : descriptor mem l.table (p.head + 1) ≡ second_of p
  pub readable : SpanLiesIn (length mem) p.readable
  pub writable : SpanLiesIn (length mem) p.writable

abbrev pub AreInTable : List ℕ → Layout → List Pair → Type 0
AreInTable mem l [] = Unit {0}
AreInTable mem l (p ∷ ps) = IsInTable mem l p × AreInTable mem l ps

-- their heads stand in the available ring from a position on: 2.7.6
abbrev pub AreAvailable : List ℕ → Layout → ℕ → List Pair → Type 0
AreAvailable mem l pos [] = Unit {0}
AreAvailable mem l pos (p ∷ ps) = (available mem l pos ≡ p.head) × AreAvailable mem l (pos + 1) ps

-- the element that stands in the used ring at a position: 2.7.8
unfoldable pub element : List ℕ → Layout → ℕ → Element
element mem l pos = record { head = le32 (l.used + 4 + 8 * (pos % l.size)) mem; length = le32 (l.used + 4 + 8 * (pos % l.size) + 4) mem }

-- these stand in the used ring from a position on
abbrev pub AreUsed : List ℕ → Layout → ℕ → List Element → Type 0
AreUsed mem l pos [] = Unit {0}
AreUsed mem l pos (e ∷ es) = (element mem l pos ≡ e) × AreUsed mem l (pos + 1) es

-- ---- a ring's state

-- how many chains the device has fetched, those that wait for it, and those that it holds; how many the driver has taken
-- back, and those that are used and not taken back
pub record Ring : Type 0 where
  pub fetched : ℕ
  pub waiting : List Pair
  pub held : List Pair
  pub taken : ℕ
  pub done : List Element

-- how many chains were posted, and how many were used
abbrev pub posted : Ring → ℕ
posted r = r.fetched + length r.waiting

abbrev pub used : Ring → ℕ
used r = r.taken + length r.done

-- how many times a head stands in a list
abbrev pub times : ℕ → List ℕ → ℕ
times h [] = 0
times h (x ∷ xs) = (if x == h then 1 else 0) + times h xs

abbrev pub heads : List Pair → List ℕ
heads ps = map (λ p. p.head) ps

abbrev pub used_heads : List Element → List ℕ
used_heads es = map (λ e. e.head) es

-- once for the head of a pair of descriptors, and else never
abbrev pub once_a_pair : ℕ → ℕ → ℕ
once_a_pair size h = if (h % 2 == 0) && nat_lt h size then 1 else 0

-- where a pair of descriptors is: free, or of one chain, which waits, is held or is done
abbrev pub places : Driver → Ring → ℕ → ℕ
places d r h = times h d.free + times h (heads r.waiting) + times h (heads r.held) + times h (used_heads r.done)

-- The memory of a ring, its driver and its state belong together. This is what a driver and a device that keep the rules
-- of 2.7 find and leave: the two indices are the counts modulo 65,536, the waiting chains stand in the available ring
-- from the device's position on, the elements that are done in the used ring from the driver's position on, the chains
-- that the device may still read in the table, and each pair of descriptors is at one place.
pub record Stands (mem : List ℕ) (d : Driver) (r : Ring) : Type 0 where
  pub lies : LiesIn (length mem) d.layout
  pub available_index : le16 (d.layout.avail + 2) mem ≡ posted r % index_modulus
  pub used_index : le16 (d.layout.used + 2) mem ≡ used r % index_modulus
  pub driver_posted : d.posted ≡ posted r % index_modulus
  pub driver_taken : d.taken ≡ r.taken % index_modulus
  pub waits : AreAvailable mem d.layout r.fetched r.waiting
  pub waiting_chains : AreInTable mem d.layout r.waiting
  pub held_chains : AreInTable mem d.layout r.held
  pub elements : AreUsed mem d.layout r.taken r.done
  pub one_place : (h : ℕ) → places d r h ≡ once_a_pair d.layout.size h
  pub pairs : length d.free + length r.waiting + length r.held + length r.done ≡ d.layout.size / 2

-- some state of the ring belongs to this memory and this driver
abbrev pub IsRing : List ℕ → Driver → Type 0
IsRing mem d = (r : Ring) × Stands mem d r

-- ---- what driver and device do to it

-- a new ring
abbrev pub new_ring : Ring
new_ring = record { fetched = 0; waiting = []; held = []; taken = 0; done = [] }

-- the driver posts a chain
abbrev pub with_posted : Ring → Pair → Ring
with_posted r p = record r { waiting = r.waiting ++ p ∷ [] }

-- the device fetches the chain that waits longest
abbrev pub with_fetched : Ring → Pair → List Pair → Ring
with_fetched r p ps = record r { fetched = r.fetched + 1; waiting = ps; held = p ∷ r.held }

-- the device uses a chain that it holds, among those before and behind it
abbrev pub with_used : Ring → List Pair → Pair → List Pair → ℕ → Ring
with_used r before p behind count = record r { held = before ++ behind; done = r.done ++ record { head = p.head; length = count } ∷ [] }

-- the driver takes the element that is done longest
abbrev pub with_taken : Ring → List Element → Ring
with_taken r es = record r { taken = r.taken + 1; done = es }
