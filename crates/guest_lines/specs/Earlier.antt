-- What the earlier lines of a guest left, the latest line first, and how an answer is printed. Of this project.
use Rattle.std.specs.Prelude.{ℕ, ◌++◌, [], ◌∷◌, Bool, true, List, Option, None, Some, codes}
use Rattle.std.specs.Fmt.{decimal}
use Rattle.history.specs.Look.{latest_or}
use Rattle.board_script.specs.declared.script.ActorLine.{ActorLine}
use Rattle.board_script.specs.declared.script.What.TheVariants.{Io}

abbrev pub io_set : ActorLine → Option Bool
io_set line = elim line.what [ Io on ↦ Some on | _ ↦ None ]

-- I/O is enabled at first, and then as the latest line says
abbrev pub has_io : List ActorLine → Bool
has_io earlier = latest_or true io_set earlier

-- the number of the line in its text, and the answer
abbrev pub numbered : ℕ → List ℕ → List ℕ
numbered number words = decimal number ++ codes " " ++ words ++ 10 ∷ []
