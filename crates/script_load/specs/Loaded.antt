-- The script that `load SEED COUNT` makes. Of this project.
use Rattle.std.specs.Prelude.{ℕ, zero, suc, ◌+◌, ◌*◌, ◌/◌, ◌%◌, ◌^◌, ◌==◌, false, if◌then◌else◌, List, [], ◌∷◌, None}
use Rattle.legacy_regs.specs.declared.device.Kind.TheVariants as kind
use Rattle.board_script.specs.declared.script.ActorLine.{ActorLine}
use Rattle.board_script.specs.declared.script.Board.{Board}
use Rattle.board_script.specs.declared.script.Setup.{Setup}
use Rattle.board_script.specs.declared.script.What.{What}
use Rattle.board_script.specs.declared.script.What.TheVariants as what
use Rattle.board_script.specs.Script.{Whole}

-- the most lines
abbrev pub load_limit : ℕ
load_limit = 100000

-- ---- the numbers that are drawn

abbrev pub multiplier : ℕ
multiplier = 6364136223846793005

abbrev pub increment : ℕ
increment = 1442695040888963407

-- the state of the next line
abbrev pub next_state : ℕ → ℕ
next_state x = (x * multiplier + increment) % 2 ^ 64

-- the number that a state draws
abbrev pub drawn : ℕ → ℕ
drawn x = x / 2 ^ 33

-- ---- the lines

-- `in OFF LEN`
abbrev pub reads : ℕ → ℕ → What
reads offset length_ = what.BarRead offset length_ None false

-- `out 14`, with a number below 4 in two bytes, the low one first
abbrev pub selects : ℕ → What
selects number = what.BarWrite 14 (number ∷ 0 ∷ []) None false

-- `in 18 1`, `out 14`, `in 12 2` or `in 19 1`
abbrev pub asked : ℕ → What
asked d = if d / 4 % 4 == 0 then reads 18 1 else if d / 4 % 4 == 1 then selects (d / 16 % 4) else if d / 4 % 4 == 2 then reads 12 2 else reads 19 1

-- a line of one of the guests 1 to 4
abbrev pub loaded_line : ℕ → ℕ → ActorLine
loaded_line number d = record { number = number; who = 1 + d % 4; what = asked d }

-- so many lines, numbered from there on, where the line before left this state
unfoldable pub loaded_lines : ℕ → ℕ → ℕ → List ActorLine
loaded_lines zero number x = []
loaded_lines (suc count) number x = loaded_line number (drawn (next_state x)) ∷ loaded_lines count (number + 1) (next_state x)

-- ---- the script

abbrev pub loaded_board : Board
loaded_board = record { queues = 1; queue_size = 4; workers = 0 }

-- `block 4 8`
abbrev pub block_setup : Setup
block_setup = record { pages = 4; kind = kind.Block 8 false }

-- `net 4` with a MAC that ends with the number of the guest
abbrev pub net_setup : ℕ → Setup
net_setup number = record { pages = 4; kind = kind.Net (2 ∷ 0 ∷ 0 ∷ 0 ∷ 0 ∷ number ∷ []) }

abbrev pub loaded_guests : List Setup
loaded_guests = block_setup ∷ net_setup 2 ∷ block_setup ∷ net_setup 4 ∷ []

-- The board and the guests take lines 1 to 5.
abbrev pub loaded : ℕ → ℕ → Whole
loaded seed count = record { board = loaded_board; guests = loaded_guests; lines = loaded_lines count 6 seed; turns = [] }
