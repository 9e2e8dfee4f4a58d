-- Numbers that name no actor of a script. Of this project.
use Rattle.std.specs.Prelude.{◌≡◌, ◌≢◌, ℕ, []}
use Rattle.board_script.specs.Script.{Whole}
use Rattle.board_script.specs.Bounds.{IsScript, IsActor}
use Rattle.journal.specs.Lines.{lines_of}

-- such a number has no lines
abbrev pub OthersAreIdle : Type 0
OthersAreIdle = (s : Whole) (who : ℕ) → IsScript s → who ≢ 0 → (IsActor s.board.workers s.guests who → ⊥) → lines_of s who ≡ []
