-- Runs so short that every place fits the limit of a history.
use Rattle.std.proofs.Common.{ℕ, ◌≤◌, List, length}
use Rattle.board_script.specs.Limits.{line_limit}
use Rattle.board_script.specs.Script.{Whole}
use Rattle.board_script.specs.Bounds.{IsScript}
use Rattle.board_script.proofs.Short.{scripts_are_short}
use Rattle.journal.specs.Laws.{turn_limit}

pub record IsShortRun (s : Whole) (ts : List ℕ) : Type 0 where
  pub lines : length s.lines ≤ line_limit
  pub turns : length ts ≤ turn_limit

pub short_run : (s : Whole) (turns : List ℕ) → IsScript s → length turns ≤ turn_limit → IsShortRun s turns
short_run s turns script few = record { lines = (scripts_are_short s script).0; turns = few }
