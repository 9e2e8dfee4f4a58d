-- What stands in the memory of a queue. Of this project, over VIRTIO 1.3, 2.7 and 2.13.
use Rattle.std.specs.Prelude.{◌≡◌, ℕ, ◌+◌, ◌/◌, ◌≤◌, ◌<◌, List, [], ◌∷◌, length, Option, Some, None}
use Rattle.ring_driver.specs.Between.{Pair, Ring}
use Rattle.slab.specs.Slab.{Slab, get, slab_len}
use Rattle.history.specs.Kept.{Kept}
use Rattle.group_calls.specs.Queue.{RingEntry}
use Rattle.admin_ring.specs.declared.table.Note.{Note}
use Rattle.admin_ring.specs.declared.host.Host.{Host}
use Rattle.admin_ring.specs.Slots.{command_at, answer_at, slot_at}
use Rattle.admin_ring.specs.Host.{IsHost, HasRing, slot_count}
use Rattle.admin_ring.specs.Kept.{Keeps}

abbrev pub AnswerFits : ℕ → Option (ℕ × ℕ) → Type 0
AnswerFits writable None = Unit {0}
AnswerFits writable (Some c) = c.0 ≤ writable

-- a note is of one of so many slots, its lengths fit the slot's halves, and it has room for the answer
pub record IsNote (count key : ℕ) (x : Note) : Type 0 where
  pub slot : key < count
  pub command : x.len ≤ 256
  pub room : x.writable ≤ 256
  pub answer : AnswerFits x.writable x.answer
  pub spare : x.writable ≤ x.answer_room

-- The chain in the ring is the command of this number: it is noted under a key and isn't completed, the first buffer of the
-- chain is the command in the slot of the key, and the second is the room for its answer.
pub record IsCommand (table : Slab Note) (slots s : ℕ) (p : Pair) : Type 0 where
  pub key : ℕ
  pub note : Note
  pub noted : get table key ≡ Some note
  pub seq : note.seq ≡ s
  pub unanswered : note.answer ≡ None
  pub readable : p.readable ≡ record { addr = command_at slots key; len = note.len }
  pub writable : p.writable ≡ record { addr = answer_at slots key; len = note.writable }

-- the chains are the commands from this number on, in order
abbrev pub AreCommands : Slab Note → ℕ → ℕ → List Pair → Type 0
AreCommands table slots s [] = Unit {0}
AreCommands table slots s (p ∷ ps) = IsCommand table slots s p × AreCommands table slots (s + 1) ps

-- While the queue is open: the device has fetched and the driver has taken back as many chains as commands were fetched and
-- completed, the commands that were posted and not fetched wait in the ring, in order, and the chain that the device
-- serves is the command that was fetched and isn't completed.
pub record IsOpen (n f d : ℕ) (host : Host) (table : Slab Note) : Type 0 where
  pub ring : Ring
  pub has : HasRing host ring
  pub fetched : ring.fetched ≡ f
  pub taken : ring.taken ≡ d
  pub posted : f + length ring.waiting ≡ n
  pub completed : d + length ring.held ≡ f
  pub waits : AreCommands table host.slots f ring.waiting
  pub serves : AreCommands table host.slots d ring.held

-- each command that is noted has one of the slots
pub record HasSlots (size : ℕ) (host : Host) (table : Slab Note) : Type 0 where
  pub size_is : host.layout.size ≡ size
  pub keys : table.capacity ≡ size / 2
  pub notes : (key : ℕ) (x : Note) → get table key ≡ Some x → IsNote (slot_count host) key x

-- each command from this number on has room for its bytes: none of them was fetched
abbrev pub HasRooms : ℕ → Slab Note → Type 0
HasRooms f table = (key : ℕ) (x : Note) → get table key ≡ Some x → f ≤ x.seq → x.len ≤ x.command_room

-- The bytes of the ring and the slots belong to the history: what the slots hold is what is outstanding, and while the queue
-- is open the ring holds what isn't completed.
pub record IsQueue (size n f d : ℕ) (floors : Option (List ℕ)) (host : Host) (table : Slab Note) (log : Kept RingEntry) : Type 0 where
  pub past : Keeps size n f d floors (slot_at host.mem host.slots table) (slab_len table) log
  pub memory : IsHost host
  pub slots : HasSlots size host table
  pub rooms : HasRooms f table
  pub open_ring : floors ≡ None → IsOpen n f d host table
