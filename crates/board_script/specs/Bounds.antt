-- What each script that was read keeps to. Of this project.
use Rattle.std.specs.Prelude.{◌≡◌, ℕ, ◌+◌, ◌≤◌, ◌<◌, ◌⊎◌, true, List, length, Option, Some, None, IfSome}
use Rattle.std.specs.List.{All, AllPairs, sum_by}
use Rattle.hex.specs.Hex.{IsBytes}
use Rattle.byte_fields.specs.Sizes.{guest_limit, is_queue_size, page_limit, sector_limit, shortest_frame, longest_frame}
use Rattle.board_script.specs.declared.draft.Use.{Use}
use Rattle.board_script.specs.declared.draft.Use.TheVariants as use_of
use Rattle.board_script.specs.declared.script.Board.{Board}
use Rattle.legacy_regs.specs.declared.device.Kind.{Kind}
use Rattle.legacy_regs.specs.declared.device.Kind.TheVariants as kind
use Rattle.board_script.specs.declared.script.Setup.{Setup}
use Rattle.board_script.specs.declared.script.Turns.{Turns}
use Rattle.board_script.specs.declared.script.What.{What}
use Rattle.board_script.specs.declared.script.What.TheVariants as what
use Rattle.board_script.specs.declared.script.ActorLine.{ActorLine}
use Rattle.script_words.specs.Values.{is_width}
use Rattle.board_script.specs.Limits.{queue_limit, worker_limit, mac_length, first_worker, the_host, offset_limit, range_limit, index_limit, line_limit, turns_limit}
use Rattle.board_script.specs.SoFar.{SoFar, memory_of, is_net, queues_at, workers_at}
use Rattle.board_script.specs.Script.{Whole}

pub record IsBoard (board : Board) : Type 0 where
  pub a_queue : 1 ≤ board.queues
  pub few_queues : board.queues ≤ queue_limit
  pub queue_size : is_queue_size board.queue_size ≡ true
  pub few_workers : board.workers ≤ worker_limit

abbrev pub IsKind : Kind → Type 0
IsKind (kind.Block sectors read_only) = sectors ≤ sector_limit
IsKind (kind.Net mac) = (length mac ≡ mac_length) × IsBytes mac

pub record IsSetup (setup : Setup) : Type 0 where
  pub a_page : 1 ≤ setup.pages
  pub few_pages : setup.pages ≤ page_limit
  pub kind : IsKind setup.kind

-- one of the guests, and its member
pub record IsGuest (guests : List Setup) (n : ℕ) : Type 0 where
  pub low : 1 ≤ n
  pub exists : n ≤ length guests

-- one of so many workers, as an actor
pub record IsWorker (workers who : ℕ) : Type 0 where
  pub low : first_worker ≤ who
  pub exists : who < first_worker + workers

-- the queue of `@K`, where it stands, is one of so many
abbrev pub IsQueue : ℕ → Option ℕ → Type 0
IsQueue queues None = Unit {0}
IsQueue queues (Some queue) = queue < queues

-- What an actor may ask, where there are so many queues, so many workers and these guests.
abbrev pub MayAsk : ℕ → ℕ → List Setup → ℕ → What → Type 0
MayAsk queues workers guests who (what.BarRead offset length_ queue once) = IsGuest guests who × (offset ≤ offset_limit) × (is_width length_ ≡ true) × IsQueue queues queue
MayAsk queues workers guests who (what.BarWrite offset bytes queue once) = IsGuest guests who × (offset ≤ offset_limit) × IsBytes bytes × (is_width (length bytes) ≡ true) × IsQueue queues queue
MayAsk queues workers guests who (what.Mem addr bytes) = IsGuest guests who × IsBytes bytes × (1 ≤ length bytes) × (length bytes ≤ range_limit) × (addr + length bytes ≤ memory_of guests who)
MayAsk queues workers guests who (what.Peek addr length_) = IsGuest guests who × (1 ≤ length_) × (length_ ≤ range_limit) × (addr + length_ ≤ memory_of guests who)
MayAsk queues workers guests who (what.Msix on) = IsGuest guests who
MayAsk queues workers guests who (what.Io on) = IsGuest guests who
MayAsk queues workers guests who (what.Cfg offset length_) = IsGuest guests who × (offset ≤ offset_limit) × (is_width length_ ≡ true)
MayAsk queues workers guests who what.Irqs = IsGuest guests who
MayAsk queues workers guests who (what.Poll queue) = IsGuest guests who × (queue ≤ index_limit)
MayAsk queues workers guests who (what.Serve queue) = IsWorker workers who × (queue < queues)
MayAsk queues workers guests who (what.WorkerPoll member queue) = IsWorker workers who × IsGuest guests member × (queue ≤ index_limit)
MayAsk queues workers guests who (what.Frame member frame) = (who ≡ the_host) × IsGuest guests member × IsBytes frame × (shortest_frame ≤ length frame) × (length frame ≤ longest_frame) × (is_net guests member ≡ true)
MayAsk queues workers guests who (what.Flr member) = (who ≡ the_host) × IsGuest guests member
MayAsk queues workers guests who (what.Disable member) = (who ≡ the_host) × IsGuest guests member
MayAsk queues workers guests who what.Reset = who ≡ the_host

abbrev pub IsActor : ℕ → List Setup → ℕ → Type 0
IsActor workers guests who = IsGuest guests who ⊎ IsWorker workers who ⊎ (who ≡ the_host)

pub record IsTurns (workers : ℕ) (guests : List Setup) (turns : Turns) : Type 0 where
  pub actor : IsActor workers guests turns.who
  pub count : turns.count ≤ turns_limit

-- Lines have the numbers of the text that they stand in: each number is below the limit, and above those of all lines before.
pub record AreNumbered (lines : List ActorLine) : Type 0 where
  pub in_order : AllPairs (λ earlier later. earlier.number < later.number) lines
  pub below : All (λ line. line.number < line_limit) lines

-- A script: its guests number at most 16, its actors ask what they may, its lines are in order, and its turns are few enough.
pub record IsScript (s : Whole) : Type 0 where
  pub board : IsBoard s.board
  pub few_guests : length s.guests ≤ guest_limit
  pub guests : All IsSetup s.guests
  pub lines : All (λ line. MayAsk s.board.queues s.board.workers s.guests line.who line.what) s.lines
  pub numbered : AreNumbered s.lines
  pub turns : All (IsTurns s.board.workers s.guests) s.turns
  pub scheduled : sum_by (λ t. t.count) s.turns ≤ turns_limit

-- A script has at most as many lines of actors as there are numbers of lines, and schedules at most a million turns.
abbrev pub ScriptsAreShort : Type 0
ScriptsAreShort = (s : Whole) → IsScript s → (length s.lines ≤ line_limit) × (sum_by (λ t. t.count) s.turns ≤ turns_limit)

-- one guest, where it is alone
abbrev pub IsServed : Use → Whole → Type 0
IsServed use_of.Group s = Unit {0}
IsServed use_of.Alone s = length s.guests ≡ 1

-- The lines so far keep to all bounds but that on the sum of turns, which is asked after the last pair of its line.
pub record IsSoFar (d : SoFar) : Type 0 where
  pub board : IfSome d.board IsBoard
  pub few_guests : length d.guests ≤ guest_limit
  pub guests : All IsSetup d.guests
  pub lines : All (λ line. MayAsk (queues_at d.board) (workers_at d.board) d.guests line.who line.what) d.lines
  pub numbered : AreNumbered d.lines
  pub turns : All (IsTurns (workers_at d.board) d.guests) d.turns
