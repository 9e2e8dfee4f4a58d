-- The memory of a queue: its ring, its slots, and what driver and device keep of it. Of this project, over VIRTIO 1.3, 2.7.
use Rattle.std.specs.Prelude.{◌≡◌, ◌≢◌, ℕ, ◌+◌, ◌*◌, ◌/◌, ◌<◌, ◌≤◌, List, [], ◌∷◌, length, Option, Some, None, true}
use Rattle.byte_fields.specs.Sizes.{is_queue_size, memory_limit}
use Rattle.ring_driver.specs.Same.{SameBytes}
use Rattle.ring_driver.specs.Between.{Pair, Ring, Stands, with_posted, with_fetched, new_ring}
use Rattle.admin_ring.specs.declared.host.Host.{Host}
use Rattle.admin_ring.specs.declared.host.Chain.{Chain}
use Rattle.admin_ring.specs.Slots.{command_at, answer_at}

-- a slot for each pair of descriptors
abbrev pub slot_count : Host → ℕ
slot_count h = h.layout.size / 2

-- the ring and the slots lie in the memory, one behind the other
pub record IsHost (h : Host) : Type 0 where
  pub size : is_queue_size h.layout.size ≡ true
  pub driven : h.driver.layout ≡ h.layout
  pub behind : h.layout.end ≤ h.slots
  pub inside : h.slots + 512 * slot_count h ≤ length h.mem
  pub small : h.slots + 512 * slot_count h ≤ memory_limit

-- what lies where stays
pub record SamePlaces (old new : Host) : Type 0 where
  pub layout : new.layout ≡ old.layout
  pub driver : new.driver.layout ≡ old.driver.layout
  pub slots : new.slots ≡ old.slots
  pub length_is : length new.mem ≡ length old.mem

-- the bytes of each other slot stay
abbrev pub OthersStay : Host → Host → ℕ → Type 0
OthersStay old new key = (other : ℕ) → other ≢ key → other < slot_count old → SameBytes (command_at old.slots other) (command_at old.slots other + 512) old.mem new.mem

-- ---- chains

-- the chain of the two halves of a slot
abbrev pub slot_chain : ℕ → ℕ → ℕ → ℕ → ℕ → Pair
slot_chain slots key head len room = record { head = head; readable = record { addr = command_at slots key; len = len }; writable = record { addr = answer_at slots key; len = room } }

abbrev pub pair_of : Chain → Pair
pair_of c = record { head = c.head; readable = c.readable; writable = c.writable }

-- it is of this slot
pub record IsOfSlot (h : Host) (key : ℕ) (c : Chain) : Type 0 where
  pub below : key < slot_count h
  pub command : c.readable.addr ≡ command_at h.slots key
  pub answer : c.writable.addr ≡ answer_at h.slots key
  pub room : c.writable.len ≤ 256

-- the chain that the device serves, if there is one
abbrev pub served_by : Option Chain → List Pair
served_by None = []
served_by (Some c) = pair_of c ∷ []

-- the ring's state: it stands in the memory, the device holds the chain that it serves, and none is used and not taken back
pub record HasRing (h : Host) (r : Ring) : Type 0 where
  pub stands : Stands h.mem h.driver r
  pub held : r.held ≡ served_by h.serving
  pub done : r.done ≡ []

-- nothing is in it yet
pub record IsNewHost (size : ℕ) (h : Host) : Type 0 where
  pub host : IsHost h
  pub size_is : h.layout.size ≡ size
  pub ring : HasRing h new_ring
  pub idle : h.serving ≡ None

-- ---- what driver and device do

-- the chain of this slot waits behind the others
abbrev pub HasPosted : Host → Host → Ring → ℕ → ℕ → ℕ → Type 0
HasPosted old new r key len room = (head : ℕ) × HasRing new (with_posted r (slot_chain old.slots key head len room))

-- the device serves the chain that waited longest; or none waits, and nothing changed
abbrev pub HasFetched : Option Chain → Host → Host → Ring → Type 0
HasFetched None old new r = (r.waiting ≡ []) × (new ≡ old)
HasFetched (Some c) old new r = (rest : List Pair) × (r.waiting ≡ pair_of c ∷ rest) × HasRing new (with_fetched r (pair_of c) rest) × (new ≡ record old { serving = Some c })

-- the chain that is served is used and taken back
abbrev pub with_completed : Ring → Ring
with_completed r = record r { held = []; taken = r.taken + 1; done = [] }
