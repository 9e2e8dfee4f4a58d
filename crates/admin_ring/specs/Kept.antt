-- What the queue keeps of its history: the numbers of its commands and what is outstanding. Of this project.
use Rattle.std.specs.Prelude.{◌≡◌, ◌≢◌, ℕ, ◌+◌, ◌-◌, ◌≤◌, nat_lt, false, List, [], length, Option, Some, None, is_some, unwrap_or, take, if◌then◌else◌}
use Rattle.history.specs.Legal.{IsLegal}
use Rattle.history.specs.Kept.{Kept}
use Rattle.history.specs.Limits.{history_limit}
use Rattle.board_text.specs.Floors.{number_for}
use Rattle.group_calls.specs.declared.queue.RingReply.{RingReply}
use Rattle.group_calls.specs.declared.queue.RingReply.TheVariants.{Stale, Ready, Lost, NotYet, Empty, Fetched}
use Rattle.group_calls.specs.Queue.{RingEntry, Posted, posted, is_fetched, completion, is_taken, is_closed, latest_floors, outstanding, command, IsNumbered, queue_answer, queue_may, is_quiet_reply}
use Rattle.admin_ring.specs.Slots.{Slot}

-- as many of a completion's bytes as are writable
abbrev pub kept_bytes : ℕ → Option (List ℕ × ℕ) → Option (List ℕ × ℕ)
kept_bytes writable None = None
kept_bytes writable (Some c) = Some (take writable c.0, c.1)

abbrev pub slot_with : List RingEntry → Posted → Slot
slot_with h p = record { seq = p.seq; bytes = p.bytes; writable = p.writable; tag = p.tag; completion = kept_bytes p.writable (completion h p.seq) }

abbrev pub slot_if : List RingEntry → Posted → Option Slot
slot_if h p = if is_taken h p.seq then None else Some (slot_with h p)

abbrev pub slot_of_command : List RingEntry → Option Posted → Option Slot
slot_of_command h None = None
slot_of_command h (Some p) = slot_if h p

-- the command of this number with its completion, while it is outstanding
abbrev pub slot_of : List RingEntry → ℕ → Option Slot
slot_of h s = slot_of_command h (command h s)

-- the answer to a Take of what is outstanding
abbrev pub taken_answer : Option (List ℕ) → Option Slot → RingReply
taken_answer floors None = Stale
taken_answer floors (Some x) = elim x.completion [ Some c ↦ Ready c.0 c.1 | None ↦ elim floors [ Some told ↦ Lost (number_for x.tag.guest told) | None ↦ NotYet ] ]

-- the answer to a Pop over the next command
abbrev pub fetched_answer : Option Slot → RingReply
fetched_answer None = Empty
fetched_answer (Some x) = Fetched x.seq x.bytes x.writable x.tag

-- what stands under the keys is what the numbers have, each once
pub record Holds (at : ℕ → Option Slot) (of : ℕ → Option Slot) : Type 0 where
  pub sound : (key : ℕ) (x : Slot) → at key ≡ Some x → of x.seq ≡ Some x
  pub complete : (s : ℕ) (x : Slot) → of s ≡ Some x → (key : ℕ) × (at key ≡ Some x)
  pub distinct : (key other : ℕ) (x y : Slot) → at key ≡ Some x → at other ≡ Some y → x.seq ≡ y.seq → key ≡ other

-- the slots after a change at one key
pub record Changes (at now : ℕ → Option Slot) (key : ℕ) (slot : Option Slot) : Type 0 where
  pub changed : now key ≡ slot
  pub others : (other : ℕ) → other ≢ key → now other ≡ at other

-- the numbers that were posted, fetched and completed, and the floors of the latest Reset
pub record AreCounts (n f d : ℕ) (floors : Option (List ℕ)) (h : List RingEntry) : Type 0 where
  pub numbered : IsNumbered (posted h)
  pub posts : n ≡ length (posted h)
  pub fetches : (s : ℕ) → is_fetched h s ≡ nat_lt s f
  pub completions : (s : ℕ) → is_some (completion h s) ≡ nat_lt s d
  pub completed_first : d ≤ f
  pub one_in_service : f ≤ d + 1
  pub fetched_first : f ≤ n
  pub shut : is_closed h ≡ is_some floors
  pub told : latest_floors h ≡ unwrap_or floors []
  pub none_taken : (s : ℕ) → n ≤ s → is_taken h s ≡ false
  pub none_lost : floors ≡ None → (s : ℕ) → d ≤ s → is_taken h s ≡ false
  pub few : n ≤ length h

-- the entries that the commands may still leave
abbrev pub owed : ℕ → ℕ → ℕ → ℕ → ℕ
owed n f d held = (n - f) + (n - d) + held

-- the counts and the slots are those of the history, which is legal, and there is room for what the commands may leave
pub record Keeps (size n f d : ℕ) (floors : Option (List ℕ)) (at : ℕ → Option Slot) (held : ℕ) (log : Kept RingEntry) : Type 0 where
  pub counts : AreCounts n f d floors log.entries
  pub holds : Holds at (slot_of log.entries)
  pub count : held ≡ length (outstanding log.entries)
  pub legal : IsLegal (queue_answer size) is_quiet_reply (queue_may size) log.entries
  pub most : length log.entries + owed n f d held ≤ history_limit
  pub reserved : length log.entries + owed n f d held ≤ log.room
