-- How many bytes a line of the script accesses. Of this project.
use Rattle.std.specs.Prelude.{◌≡◌, true, length}
use Rattle.script_words.specs.Values.{is_width}
use Rattle.board_script.specs.declared.script.What.{What}
use Rattle.board_script.specs.declared.script.What.TheVariants as what

-- an access has 1, 2 or 4 bytes
abbrev pub HasWidth : What → Type 0
HasWidth (what.BarRead offset count queue once) = is_width count ≡ true
HasWidth (what.BarWrite offset bytes queue once) = is_width (length bytes) ≡ true
HasWidth (what.Cfg offset count) = is_width count ≡ true
HasWidth _ = Unit {0}
