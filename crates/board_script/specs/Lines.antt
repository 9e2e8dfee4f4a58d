-- What each form of a line says: the causes of its words in their order, and then what all lines say with it. The forms stand in the order of the table of forms. Of this project.
use Rattle.std.specs.Prelude.{ℕ, ◌+◌, ◌&&◌, nat_le, nat_lt, not, is_none, is_some, Bool, true, List, [], ◌∷◌, ◌++◌, length, Option, Some, None, Result, Ok}
use Rattle.byte_fields.specs.Sizes.{guest_limit, page_limit, sector_limit, shortest_frame, longest_frame}
use Rattle.board_text.specs.Number.{number_of}
use Rattle.board_text.specs.Hex.{hex_bytes}
use Rattle.script_words.specs.declared.cause.Cause.{Cause}
use Rattle.script_words.specs.declared.cause.Cause.TheVariants as cause
use Rattle.script_words.specs.declared.words.Head.{Head}
use Rattle.script_words.specs.declared.words.Head.TheVariants as head
use Rattle.script_words.specs.declared.shape.Tail.{Tail}
use Rattle.script_words.specs.Words.{head_of}
use Rattle.script_words.specs.Values.{◌>>=◌, when, number_in, any_number, width_at, queue_size_at, bytes_in, bytes_of_width}
use Rattle.legacy_regs.specs.declared.device.Kind.{Kind}
use Rattle.legacy_regs.specs.declared.device.Kind.TheVariants as kind
use Rattle.board_script.specs.declared.draft.Use.{Use}
use Rattle.board_script.specs.declared.draft.Use.TheVariants as use_of
use Rattle.board_script.specs.declared.place.Place.{Place}
use Rattle.board_script.specs.declared.script.What.{What}
use Rattle.board_script.specs.declared.script.What.TheVariants as what
use Rattle.board_script.specs.Limits.{queue_limit, worker_limit, mac_length, first_worker, the_host, offset_limit, range_limit, index_limit, turns_limit, alone_limit}
use Rattle.board_script.specs.SoFar.{SoFar, has_begun, is_out_of_turn, guest_at, worker_at, queue_at, memory_of, is_net, scheduled}

-- ---- what several forms have

-- this cause, unless something holds
abbrev pub provided : Bool → Cause → Result (Unit {0}) Cause
provided holds otherwise = when holds otherwise tt

-- `setup`: the `board` line comes first, and once
abbrev pub before_board : SoFar → Result (Unit {0}) Cause
before_board d = provided (is_none d.board) cause.Setup

abbrev pub behind_board : SoFar → Result (Unit {0}) Cause
behind_board d = provided (is_some d.board) cause.Setup

-- `setup`: then the `guest` lines, in their turn
abbrev pub in_turn : SoFar → List ℕ → Result (Unit {0}) Cause
in_turn d number = provided (is_some d.board && not (has_begun d) && not (is_out_of_turn d number)) cause.Setup

-- the number of the guest that is next
abbrev pub next_guest : SoFar → List ℕ → Result ℕ Cause
next_guest d number = do
  _ ← in_turn d number
  number_in 1 guest_limit number

-- a guest that is made, the last of those so far
abbrev pub with_guest : SoFar → ℕ → Kind → SoFar
with_guest d pages of_kind = record d { guests = d.guests ++ record { pages = pages; kind = of_kind } ∷ [] }

-- the lines of actors that a script may have
abbrev pub has_room : Use → SoFar → Bool
has_room use_of.Group d = true
has_room use_of.Alone d = nat_lt (length d.lines) alone_limit

-- what an actor does, as the last line of those so far; `limit` where there is no room for one
abbrev pub with_line : Place → SoFar → ℕ → What → Result SoFar Cause
with_line at d who does = when (has_room at.used d) cause.Limit (record d { lines = d.lines ++ record { number = at.number; who = who; what = does } ∷ [] })

-- `@K`, where it stands
abbrev pub queue_named : SoFar → Option (List ℕ) → Result (Option ℕ) Cause
queue_named d None = Ok None
queue_named d (Some word) = do
  queue ← queue_at d word
  Ok (Some queue)

-- ---- the board and the guests

-- `board Q S K`
abbrev pub board_says : SoFar → List ℕ → List ℕ → List ℕ → Result SoFar Cause
board_says d queues size workers = do
  _ ← before_board d
  q ← number_in 1 queue_limit queues
  s ← queue_size_at (number_of size)
  k ← number_in 0 worker_limit workers
  Ok (record d { board = Some (record { queues = q; queue_size = s; workers = k }) })

-- `guest N block PAGES SECTORS [ro]`
abbrev pub block_says : SoFar → List ℕ → List ℕ → List ℕ → Bool → Result SoFar Cause
block_says d number pages sectors read_only = do
  _ ← next_guest d number
  p ← number_in 1 page_limit pages
  s ← number_in 0 sector_limit sectors
  Ok (with_guest d p (kind.Block s read_only))

-- `guest N net PAGES MAC`
abbrev pub net_says : SoFar → List ℕ → List ℕ → List ℕ → Result SoFar Cause
net_says d number pages mac = do
  _ ← next_guest d number
  p ← number_in 1 page_limit pages
  m ← bytes_in mac_length mac_length mac
  Ok (with_guest d p (kind.Net m))

-- ---- the lines of guests

-- `gN in OFF LEN [@K] [once]`
abbrev pub in_says : Place → SoFar → List ℕ → List ℕ → List ℕ → Tail → Result SoFar Cause
in_says at d guest offset length_ tail = do
  _ ← behind_board d
  g ← guest_at d guest
  o ← number_in 0 offset_limit offset
  l ← width_at (number_of length_)
  q ← queue_named d tail.queue
  with_line at d g (what.BarRead o l q tail.once)

-- `gN out OFF HEX [@K] [once]`
abbrev pub out_says : Place → SoFar → List ℕ → List ℕ → List ℕ → Tail → Result SoFar Cause
out_says at d guest offset bytes tail = do
  _ ← behind_board d
  g ← guest_at d guest
  o ← number_in 0 offset_limit offset
  b ← bytes_of_width (hex_bytes bytes)
  q ← queue_named d tail.queue
  with_line at d g (what.BarWrite o b q tail.once)

-- `gN mem ADDR HEX`
abbrev pub mem_says : Place → SoFar → List ℕ → List ℕ → List ℕ → Result SoFar Cause
mem_says at d guest addr bytes = do
  _ ← behind_board d
  g ← guest_at d guest
  a ← any_number (number_of addr)
  b ← bytes_in 1 range_limit bytes
  _ ← provided (nat_le (a + length b) (memory_of d.guests g)) cause.Range
  with_line at d g (what.Mem a b)

-- `gN peek ADDR LEN`
abbrev pub peek_says : Place → SoFar → List ℕ → List ℕ → List ℕ → Result SoFar Cause
peek_says at d guest addr length_ = do
  _ ← behind_board d
  g ← guest_at d guest
  a ← any_number (number_of addr)
  l ← number_in 1 range_limit length_
  _ ← provided (nat_le (a + l) (memory_of d.guests g)) cause.Range
  with_line at d g (what.Peek a l)

-- `gN msix on`, `gN msix off`, `gN io on`, `gN io off` and `gN irqs`, where no word behind the guest can be wrong
abbrev pub guest_says : Place → SoFar → List ℕ → What → Result SoFar Cause
guest_says at d guest does = do
  _ ← behind_board d
  g ← guest_at d guest
  with_line at d g does

-- `gN cfg OFF LEN`
abbrev pub cfg_says : Place → SoFar → List ℕ → List ℕ → List ℕ → Result SoFar Cause
cfg_says at d guest offset length_ = do
  _ ← behind_board d
  g ← guest_at d guest
  o ← number_in 0 offset_limit offset
  l ← width_at (number_of length_)
  with_line at d g (what.Cfg o l)

-- `gN poll V`
abbrev pub poll_says : Place → SoFar → List ℕ → List ℕ → Result SoFar Cause
poll_says at d guest queue = do
  _ ← behind_board d
  g ← guest_at d guest
  v ← number_in 0 index_limit queue
  with_line at d g (what.Poll v)

-- ---- the lines of workers

-- `wK serve Q`
abbrev pub serve_says : Place → SoFar → List ℕ → List ℕ → Result SoFar Cause
serve_says at d worker queue = do
  _ ← behind_board d
  k ← worker_at d worker
  q ← queue_at d queue
  with_line at d (first_worker + k) (what.Serve q)

-- `wK poll N V`
abbrev pub worker_poll_says : Place → SoFar → List ℕ → List ℕ → List ℕ → Result SoFar Cause
worker_poll_says at d worker member queue = do
  _ ← behind_board d
  k ← worker_at d worker
  n ← guest_at d member
  v ← number_in 0 index_limit queue
  with_line at d (first_worker + k) (what.WorkerPoll n v)

-- ---- the lines of the host

-- `host frame N HEX`
abbrev pub frame_says : Place → SoFar → List ℕ → List ℕ → Result SoFar Cause
frame_says at d member bytes = do
  _ ← behind_board d
  n ← guest_at d member
  f ← bytes_in shortest_frame longest_frame bytes
  _ ← provided (is_net d.guests n) cause.Kind
  with_line at d the_host (what.Frame n f)

-- `host flr N`
abbrev pub flr_says : Place → SoFar → List ℕ → Result SoFar Cause
flr_says at d member = do
  _ ← behind_board d
  n ← guest_at d member
  with_line at d the_host (what.Flr n)

-- `host disable N`
abbrev pub disable_says : Place → SoFar → List ℕ → Result SoFar Cause
disable_says at d member = do
  _ ← behind_board d
  n ← guest_at d member
  with_line at d the_host (what.Disable n)

-- `host reset`
abbrev pub reset_says : Place → SoFar → Result SoFar Cause
reset_says at d = do
  _ ← behind_board d
  with_line at d the_host what.Reset

-- ---- the schedule

-- an actor of `go`; a name there is `host`
abbrev pub actor_at : SoFar → Head → Result ℕ Cause
actor_at d (head.Guest digits) = guest_at d digits
actor_at d (head.Worker digits) = do
  k ← worker_at d digits
  Ok (first_worker + k)
actor_at d (head.Name name) = Ok the_host

-- `ACTOR COUNT`
abbrev pub with_pair : SoFar → List ℕ → List ℕ → Result SoFar Cause
with_pair d actor count = do
  a ← actor_at d (head_of actor)
  c ← number_in 0 turns_limit count
  Ok (record d { turns = d.turns ++ record { who = a; count = c } ∷ [] })

-- the pairs from left to right
abbrev pub with_pairs : SoFar → List (List ℕ) → Result SoFar Cause
with_pairs d [] = Ok d
with_pairs d (actor ∷ []) = Ok d
with_pairs d (actor ∷ count ∷ rest) = do
  next ← with_pair d actor count
  with_pairs next rest

-- `go ACTOR COUNT`, and further pairs
abbrev pub go_says : SoFar → List (List ℕ) → Result SoFar Cause
go_says d pairs = do
  _ ← behind_board d
  next ← with_pairs d pairs
  when (nat_le (scheduled next) turns_limit) cause.Limit next
