-- What the text of a script reads as. Of this project.
use Rattle.std.specs.Prelude.{◌≡◌, ℕ, ◌+◌, List, [], ◌∷◌, length, Ok}
use Rattle.board_script.specs.declared.draft.Use.TheVariants as use_of
use Rattle.board_script.specs.declared.script.ActorLine.{ActorLine}
use Rattle.board_script.specs.Bounds.{IsScript}
use Rattle.board_script.specs.Script.{Whole, script_of}
use Rattle.script_writer.specs.Written.{written}

-- the lines with the numbers from there on
abbrev pub numbered : ℕ → List ActorLine → List ActorLine
numbered number [] = []
numbered number (line ∷ lines) = record line { number = number } ∷ numbered (number + 1) lines

-- The same script with the line numbers of its written text, where the lines of actors follow the board and the guests.
abbrev pub renumbered : Whole → Whole
renumbered s = record s { lines = numbered (2 + length s.guests) s.lines }

-- A script that is written reads as the same script but for the line numbers.
abbrev pub IsReadAgain : Type 0
IsReadAgain = (s : Whole) → IsScript s → script_of use_of.Group (written s) ≡ Ok (renumbered s)
