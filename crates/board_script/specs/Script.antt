-- Which texts are scripts, and which scripts they are. Of this project.
use Rattle.std.specs.Prelude.{ℕ, ◌+◌, ◌==◌, Bool, true, if◌then◌else◌, List, [], ◌∷◌, length, Option, Some, None, Result, Ok, Err}
use Rattle.board_text.specs.Line.{lines_of}
use Rattle.script_words.specs.declared.cause.Cause.{Cause}
use Rattle.script_words.specs.declared.cause.Cause.TheVariants as cause
use Rattle.script_words.specs.Words.{words_of}
use Rattle.script_words.specs.Texts.{At, and_then, is_ignored}
use Rattle.board_script.specs.declared.draft.Use.{Use}
use Rattle.board_script.specs.declared.draft.Use.TheVariants as use_of
use Rattle.board_script.specs.declared.place.Place.{Place}
use Rattle.board_script.specs.declared.script.ActorLine.{ActorLine}
use Rattle.board_script.specs.declared.script.Board.{Board}
use Rattle.board_script.specs.declared.script.Setup.{Setup}
use Rattle.board_script.specs.declared.script.Turns.{Turns}
use Rattle.board_script.specs.SoFar.{SoFar, nothing}
use Rattle.board_script.specs.Forms.{line_says}

-- what the lines say with one line more
abbrev pub with_text : Place → SoFar → List ℕ → Result SoFar Cause
with_text at d text = if is_ignored text then Ok d else line_says at d (words_of text)

-- What the lines say, which are numbered from there on. The first line with a fault counts.
abbrev pub with_lines : Use → ℕ → SoFar → List (List ℕ) → Result SoFar At
with_lines used number d [] = Ok d
with_lines used number d (text ∷ texts) = and_then number (with_text (record { used = used; number = number }) d text) (λ next. with_lines used (number + 1) next texts)

pub record Whole : Type 0 where
  pub board : Board
  pub guests : List Setup
  pub lines : List ActorLine
  pub turns : List Turns

abbrev pub whole_of : SoFar → Option Board → Option Whole
whole_of d None = None
whole_of d (Some board) = Some (record { board = board; guests = d.guests; lines = d.lines; turns = d.turns })

-- one guest, where it is alone
abbrev pub serves : Use → SoFar → Bool
serves use_of.Group d = true
serves use_of.Alone d = length d.guests == 1

-- What counts only where no line has a fault: a missing `board`, and then the number of guests.
abbrev pub ended : Bool → Option Whole → Result Whole At
ended serves None = Err (record { line = 1; cause = cause.Setup })
ended serves (Some whole) = if serves then Ok whole else Err (record { line = 1; cause = cause.Limit })

abbrev pub at_end : Use → Result SoFar At → Result Whole At
at_end used (Ok d) = ended (serves used d) (whole_of d d.board)
at_end used (Err found) = Err found

-- the script of a text, or its first fault
abbrev pub script_of : Use → List ℕ → Result Whole At
script_of used text = at_end used (with_lines used 1 nothing (lines_of text))
