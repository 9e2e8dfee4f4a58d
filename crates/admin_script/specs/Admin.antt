-- The input of `admin`: which texts are read, and what they say. Of this project.
use Rattle.std.specs.Prelude.{ℕ, ◌+◌, ◌==◌, length, Bool, true, false, if◌then◌else◌, List, [], ◌∷◌, ◌++◌, codes, Option, Some, None, Result, Ok, Err}
use Rattle.std.specs.List.{list_any}
use Rattle.std.specs.Str.{bytes_eq}
use Rattle.board_text.specs.Line.{lines_of}
use Rattle.script_words.specs.declared.cause.Cause.{Cause}
use Rattle.script_words.specs.declared.cause.Cause.TheVariants as cause
use Rattle.script_words.specs.Words.{words_of, are_words, one_of, two_of}
use Rattle.script_words.specs.Parts.{form}
use Rattle.script_words.specs.Texts.{At, and_then, is_ignored}
use Rattle.script_words.specs.Values.{◌>>=◌, number_in, bytes_in}
use Rattle.admin_script.specs.declared.line.AdminLine.{AdminLine}
use Rattle.admin_script.specs.declared.line.AdminLine.TheVariants as admin
use Rattle.admin_script.specs.declared.shape.AdminShape.{AdminShape}
use Rattle.admin_script.specs.declared.shape.AdminShape.TheVariants as line
use Rattle.admin_script.specs.Limits.{function_limit, command_limit, room_limit}

-- `vfs N`, `reset`, `cmd W HEX` and `cmd W -`
abbrev pub admin_form : List (List ℕ) → Option AdminShape
admin_form [] = None
admin_form (name ∷ rest) =
    if bytes_eq name (codes "vfs") then form (one_of rest) (λ n. line.Vfs n)
    else if bytes_eq name (codes "reset") then (if length rest == 0 then Some line.Reset else None)
    else if bytes_eq name (codes "cmd") then form (two_of rest) (λ w. line.Cmd w.0 w.1)
    else None

abbrev pub admin_shape_of : List ℕ → Option AdminShape
admin_shape_of text = if are_words (words_of text) then admin_form (words_of text) else None

-- a `vfs` or a `reset`
abbrev pub begins : AdminLine → Bool
begins (admin.Vfs count) = true
begins admin.Reset = true
begins (admin.Cmd writable bytes) = false

-- The cause `setup`: a `vfs` after a `vfs` or a `reset`.
abbrev pub breaks_admin : List AdminLine → AdminShape → Bool
breaks_admin earlier (line.Vfs n) = list_any begins earlier
breaks_admin earlier line.Reset = false
breaks_admin earlier (line.Cmd writable bytes) = false

-- the bytes of a command in hex, or `-` for no byte
abbrev pub command_bytes : List ℕ → Result (List ℕ) Cause
command_bytes word = if bytes_eq word (codes "-") then Ok [] else bytes_in 0 command_limit word

abbrev pub admin_row : AdminShape → Result AdminLine Cause
admin_row (line.Vfs n) = do
  count ← number_in 0 function_limit n
  Ok (admin.Vfs count)
admin_row line.Reset = Ok admin.Reset
admin_row (line.Cmd writable bytes) = do
  w ← number_in 0 room_limit writable
  b ← command_bytes bytes
  Ok (admin.Cmd w b)

abbrev pub with_admin_row : List AdminLine → AdminShape → Result (List AdminLine) Cause
with_admin_row earlier shape = do
  said ← admin_row shape
  Ok (earlier ++ said ∷ [])

abbrev pub with_admin_form : List AdminLine → Option AdminShape → Result (List AdminLine) Cause
with_admin_form earlier None = Err cause.Word
with_admin_form earlier (Some shape) = if breaks_admin earlier shape then Err cause.Setup else with_admin_row earlier shape

abbrev pub with_admin_text : List AdminLine → List ℕ → Result (List AdminLine) Cause
with_admin_text earlier text = if is_ignored text then Ok earlier else with_admin_form earlier (admin_shape_of text)

-- What the lines say, which are numbered from there on. The first line with a fault counts.
abbrev pub with_admin_lines : ℕ → List AdminLine → List (List ℕ) → Result (List AdminLine) At
with_admin_lines number earlier [] = Ok earlier
with_admin_lines number earlier (text ∷ texts) = and_then number (with_admin_text earlier text) (λ next. with_admin_lines (number + 1) next texts)

-- the lines of a text, or its first fault
abbrev pub admin_text_of : List ℕ → Result (List AdminLine) At
admin_text_of text = with_admin_lines 1 [] (lines_of text)
