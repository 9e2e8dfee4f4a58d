-- What each status of a command says.
use Rattle.std.specs.Prelude.{◌≡◌, ℕ, ◌<◌, ◌≤◌, nat_lt, if◌then◌else◌, List, length, Option, Result, Ok, Err}
use Rattle.std.specs.Io.KnownBytes.{Appends, Keeps, IsAtEnd}
use Rattle.board_io.specs.Sink.{AppendsPrefix}
use Rattle.group_board.specs.Limits.{text_limit}
use Rattle.group_board.specs.declared.status.Status.{Status}
use Rattle.group_board.specs.declared.status.Status.TheVariants.{Done, Usage, NoMemory, ReadFault, WriteFault, BadScript, TooLong}
use Rattle.script_words.specs.Texts.{At}
use Rattle.load_run.specs.Load.{load_text}
use Rattle.group_board.specs.declared.words.Command.{Command}
use Rattle.group_board.specs.declared.words.Load.{Load}
use Rattle.group_board.specs.Output.{output_of, fault_line}

-- the text that is put for an output or a fault
abbrev pub text_put : Result (List ℕ) At → List ℕ
text_put (Ok output) = output
text_put (Err first) = fault_line first.line first.cause

abbrev pub IsFine : {A E : Type 0} → Result A E → Type 0
IsFine (Ok output) = Unit {0}
IsFine (Err first) = ⊥

abbrev pub status_for : {A : Type 0} → Result A At → Status
status_for (Ok output) = Done
status_for (Err first) = BadScript first.line first.cause

-- the status of a text that reads so, where source and sink don't fail and there is memory
abbrev pub status_read : {A : Type 0} → List ℕ → Result A At → Status
status_read text read = if nat_lt text_limit (length text) then TooLong else status_for read

abbrev pub status_of : Command → List ℕ → Status
status_of command text = status_read text (output_of command text)

-- Of a text that the source told, and of what the sink held and holds, where it tells.
abbrev pub SaysOf : Command → Status → List ℕ → Option (List ℕ) → Option (List ℕ) → Type 0
-- the text is valid, and its output was put
SaysOf command Done text old new = (length text ≤ text_limit) × IsFine (output_of command text) × Appends old new (text_put (output_of command text))
-- this is its first fault, and one line was put
SaysOf command (BadScript line cause) text old new =
    (length text ≤ text_limit) × (output_of command text ≡ Err (record { line = line; cause = cause })) × Appends old new (fault_line line cause)
-- a part was put
SaysOf command WriteFault text old new = (length text ≤ text_limit) × AppendsPrefix old new (text_put (output_of command text))
SaysOf command TooLong text old new = text_limit < length text
SaysOf command Usage text old new = Unit {0}
SaysOf command NoMemory text old new = Unit {0}
SaysOf command ReadFault text old new = Unit {0}

-- What was put, where the sink tells, whether or not the source told a text: the output of a text that was read, the line of its first fault, or a prefix of these.
abbrev pub PutsOf : Command → Status → Option (List ℕ) → Option (List ℕ) → Type 0
PutsOf command Done old new = (text : List ℕ) × SaysOf command Done text old new
PutsOf command (BadScript line cause) old new = (text : List ℕ) × SaysOf command (BadScript line cause) text old new
PutsOf command WriteFault old new = (text : List ℕ) × SaysOf command WriteFault text old new
PutsOf command Usage old new = Unit {0}
PutsOf command NoMemory old new = Unit {0}
PutsOf command ReadFault old new = Unit {0}
PutsOf command TooLong old new = Unit {0}

-- Nothing was put with these.
abbrev pub PutsNothing : Status → Option (List ℕ) → Option (List ℕ) → Type 0
PutsNothing Usage old new = Keeps old new
PutsNothing NoMemory old new = Keeps old new
PutsNothing ReadFault old new = Keeps old new
PutsNothing TooLong old new = Keeps old new
PutsNothing Done old new = Unit {0}
PutsNothing (BadScript line cause) old new = Unit {0}
PutsNothing WriteFault old new = Unit {0}

-- The source was read to its end with these.
abbrev pub ReadsToEnd : Status → Option (List ℕ) → Type 0
ReadsToEnd Done left = IsAtEnd left
ReadsToEnd (BadScript line cause) left = IsAtEnd left
ReadsToEnd Usage left = Unit {0}
ReadsToEnd NoMemory left = Unit {0}
ReadsToEnd ReadFault left = Unit {0}
ReadsToEnd WriteFault left = Unit {0}
ReadsToEnd TooLong left = Unit {0}

-- ---- `load`, which reads nothing

-- what its status says: the summary of the run of the script that the seed makes was put, or a prefix of it, or memory ran out
abbrev pub LoadSays : Load → Status → Option (List ℕ) → Option (List ℕ) → Type 0
LoadSays load Done old new = Appends old new (load_text load.seed load.count)
LoadSays load WriteFault old new = AppendsPrefix old new (load_text load.seed load.count)
LoadSays load NoMemory old new = Keeps old new
LoadSays load Usage old new = ⊥
LoadSays load ReadFault old new = ⊥
LoadSays load (BadScript line cause) old new = ⊥
LoadSays load TooLong old new = ⊥
