-- Texts line by line: the lines that are ignored, and the first fault of a text. Of this project.
use Rattle.std.specs.Prelude.{◌≡◌, ℕ, ◌==◌, ◌||◌, Bool, List, ◌++◌, length, slice_index, codes, Result, Ok, Err}
use Rattle.std.specs.Fmt.{decimal}
use Rattle.script_words.specs.Causes.{cause_name}
use Rattle.script_words.specs.declared.cause.Cause.{Cause}
use Rattle.script_words.specs.declared.cause.Fault.{Fault}
use Rattle.script_words.specs.declared.cause.Fault.TheVariants as of_line
use Rattle.script_words.specs.declared.texts.ScriptFault.{ScriptFault}
use Rattle.script_words.specs.declared.texts.ScriptFault.TheVariants as fault

-- empty lines and lines that begin with `#`
abbrev pub is_ignored : List ℕ → Bool
is_ignored text = length text == 0 || slice_index text 0 == 35

-- the number of a line and what is wrong with it
pub record At : Type 0 where
  pub line : ℕ
  pub cause : Cause

-- The lines of a text one after another: the first line with a fault counts.
abbrev pub and_then : {A : Type 0} → ℕ → Result A Cause → (A → Result A At) → Result A At
and_then number (Ok x) others = others x
and_then number (Err found) others = Err (record { line = number; cause = found })

-- What reading a text answers, unless memory runs out.
abbrev pub Reads : {A : Type 0} → Result A ScriptFault → Result A At → Type 0
Reads (Ok found) read = read ≡ Ok found
Reads (Err (fault.Bad number found)) read = read ≡ Err (record { line = number; cause = found })
Reads (Err fault.NoMemory) read = Unit {0}

-- why a line with this number was not read
abbrev pub fault_at : ℕ → Fault → ScriptFault
fault_at number (of_line.Bad found) = fault.Bad number found
fault_at number of_line.NoMemory = fault.NoMemory

-- why a text was not read, in words
abbrev pub fault_words : ScriptFault → List ℕ
fault_words (fault.Bad line found) = codes "bad line " ++ decimal line ++ codes ": " ++ cause_name found
fault_words fault.NoMemory = codes "out of memory"
