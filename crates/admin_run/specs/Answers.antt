-- What `admin` answers. Of this project.
use Rattle.std.specs.Prelude.{ℕ, ◌==◌, if◌then◌else◌, List, [], ◌∷◌, ◌++◌, length, codes}
use Rattle.hex.specs.Hex.{encode_lower}
use Rattle.admin_script.specs.declared.line.AdminLine.{AdminLine}
use Rattle.admin_script.specs.declared.line.AdminLine.TheVariants.{Vfs, Reset, Cmd}
use Rattle.admin_run.specs.Group.{Group, first_group, after_line}
use Rattle.admin_run.specs.Completion.{completion}

-- bytes in hex, or `-` where there are none
abbrev pub hex_or_dash : List ℕ → List ℕ
hex_or_dash bytes = if length bytes == 0 then codes "-" else encode_lower bytes

abbrev pub done_line : List ℕ → List ℕ
done_line bytes = codes "done " ++ hex_or_dash bytes ++ 10 ∷ []

-- a line for a command, and nothing else
abbrev pub answer_to : Group → AdminLine → List ℕ
answer_to g (Vfs count) = []
answer_to g Reset = []
answer_to g (Cmd writable bytes) = done_line (completion g writable bytes)

-- the answers to lines, of which each finds the group as the lines before left it
abbrev pub answers : Group → List AdminLine → List ℕ
answers g [] = []
answers g (line ∷ lines) = answer_to g line ++ answers (after_line g line) lines

-- the output for a text of these lines
abbrev pub admin_output : List AdminLine → List ℕ
admin_output lines = answers first_group lines
