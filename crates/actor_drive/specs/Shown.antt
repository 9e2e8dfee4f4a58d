-- What a caller sees of cells, as a journal, and what they are made of. Of this project.
use Rattle.std.specs.Prelude.{◌≡◌, ℕ, zero, suc, ◌+◌, List, [], length, map, Option, None, Some}
use Rattle.std.specs.List.{slice_get}
use Rattle.history.specs.declared.entry.Entry.{Entry}
use Rattle.group_calls.specs.Queue.{RingEntry}
use Rattle.group_calls.specs.MemberEntries.{MemberEntry}
use Rattle.board_script.specs.Script.{Whole}
use Rattle.group_cells.specs.Cells.{Seen, Sight, QueueSeen, MemberSeen, shows}
use Rattle.journal.specs.Lines.{members_of, made_of}
use Rattle.journal.specs.Journals.{Journal}

-- ---- the histories

module _ {M C R : Type 0} where
  abbrev pub shown_of : Option (Seen M C R) → List (Entry C R)
  shown_of None = []
  shown_of (Some c) = c.shown

  abbrev pub least_of : Option (Seen M C R) → ℕ
  least_of None = 0
  least_of (Some c) = c.least

abbrev pub queue_shown : Sight → ℕ → List RingEntry
queue_shown c k = shown_of (slice_get c.queues k)

-- members have the numbers from 1 on
abbrev pub member_shown : Sight → ℕ → List MemberEntry
member_shown c zero = []
member_shown c (suc k) = shown_of (slice_get c.members k)

-- of no lines
abbrev pub shown_journal : Sight → Journal
shown_journal c = record { owner = c.owner.shown; queue = queue_shown c; member = member_shown c; past = λ who. [] }

-- ---- what stays

-- the cells with nothing shown
abbrev pub frame_of : Sight → Sight
frame_of c = record { who = c.who; owner = shows [] c.owner; queues = map (shows []) c.queues; members = map (shows []) c.members }

abbrev pub queue_least : Sight → ℕ → ℕ
queue_least f k = least_of (slice_get f.queues k)

abbrev pub member_least : Sight → ℕ → ℕ
member_least f zero = 0
member_least f (suc k) = least_of (slice_get f.members k)

-- these are the cells of a script
pub record AreCellsOf (s : Whole) (f : Sight) : Type 0 where
  pub owner : f.owner.made ≡ members_of s
  pub as_many_queues : length f.queues ≡ s.board.queues
  pub queues : (k : ℕ) (c : QueueSeen) → slice_get f.queues k ≡ Some c → c.made ≡ s.board.queue_size
  pub as_many_members : length f.members ≡ members_of s
  pub members : (k : ℕ) (c : MemberSeen) → slice_get f.members k ≡ Some c → c.made ≡ made_of s (k + 1)
