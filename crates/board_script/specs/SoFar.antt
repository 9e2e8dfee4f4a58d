-- What the lines so far say. Of this project.
use Rattle.std.specs.Prelude.{ℕ, ◌+◌, ◌-◌, ◌*◌, ◌==◌, ◌||◌, nat_le, not, Bool, true, false, List, [], length, Option, Some, None, Result}
use Rattle.std.specs.List.{slice_get, sum_by}
use Rattle.board_text.specs.Number.{number_of}
use Rattle.board_script.specs.declared.script.Board.{Board}
use Rattle.board_script.specs.declared.script.Setup.{Setup}
use Rattle.board_script.specs.declared.script.Turns.{Turns}
use Rattle.board_script.specs.declared.script.ActorLine.{ActorLine}
use Rattle.legacy_regs.specs.declared.device.Kind.{Kind}
use Rattle.legacy_regs.specs.declared.device.Kind.TheVariants as kind
use Rattle.script_words.specs.declared.cause.Cause.{Cause}
use Rattle.script_words.specs.Values.{among}
use Rattle.byte_fields.specs.Sizes.{page_size}

pub record SoFar : Type 0 where
  pub board : Option Board
  pub guests : List Setup
  pub lines : List ActorLine
  pub turns : List Turns

abbrev pub nothing : SoFar
nothing = record { board = None; guests = []; lines = []; turns = [] }

abbrev pub queues_at : Option Board → ℕ
queues_at None = 0
queues_at (Some board) = board.queues

abbrev pub workers_at : Option Board → ℕ
workers_at None = 0
workers_at (Some board) = board.workers

-- the bytes of a guest's memory
abbrev pub bytes_at : Option Setup → ℕ
bytes_at None = 0
bytes_at (Some setup) = page_size * setup.pages

abbrev pub memory_of : List Setup → ℕ → ℕ
memory_of guests n = bytes_at (slice_get guests (n - 1))

abbrev pub is_net_kind : Kind → Bool
is_net_kind (kind.Block sectors read_only) = false
is_net_kind (kind.Net mac) = true

abbrev pub is_net_at : Option Setup → Bool
is_net_at None = false
is_net_at (Some setup) = is_net_kind setup.kind

abbrev pub is_net : List Setup → ℕ → Bool
is_net guests n = is_net_at (slice_get guests (n - 1))

-- an actor's line or a `go` line has come
abbrev pub has_begun : SoFar → Bool
has_begun d = nat_le 1 (length d.lines) || nat_le 1 (length d.turns)

-- a number that isn't malformed and isn't the next guest's
abbrev pub is_other : ℕ → Option ℕ → Bool
is_other next None = false
is_other next (Some n) = not (n == next)

abbrev pub is_out_of_turn : SoFar → List ℕ → Bool
is_out_of_turn d word = is_other (length d.guests + 1) (number_of word)

-- the actors and queues that exist
abbrev pub guest_at : SoFar → List ℕ → Result ℕ Cause
guest_at d word = among 1 (length d.guests + 1) (number_of word)

abbrev pub worker_at : SoFar → List ℕ → Result ℕ Cause
worker_at d word = among 0 (workers_at d.board) (number_of word)

abbrev pub queue_at : SoFar → List ℕ → Result ℕ Cause
queue_at d word = among 0 (queues_at d.board) (number_of word)

abbrev pub scheduled : SoFar → ℕ
scheduled d = sum_by (λ t. t.count) d.turns
