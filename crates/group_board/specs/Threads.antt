-- What `run` says, whose text is that of whichever legal journal the threads made. Of this project.
use Rattle.std.specs.Prelude.{◌≡◌, ◌⊎◌, ℕ, ◌<◌, ◌≤◌, List, length, IfSome, Option, Result, Ok, Err}
use Rattle.std.specs.Io.KnownBytes.{Appends}
use Rattle.board_io.specs.Sink.{AppendsPrefix}
use Rattle.script_words.specs.Texts.{At}
use Rattle.script_words.specs.declared.texts.ScriptFault.{ScriptFault}
use Rattle.script_words.specs.declared.texts.ScriptFault.TheVariants as fault
use Rattle.board_script.specs.declared.draft.Use.TheVariants.{Group}
use Rattle.board_script.specs.Script.{script_of}
use Rattle.journal.specs.Texts.{rendered}
use Rattle.group_board.specs.Limits.{text_limit}
use Rattle.group_board.specs.Headline.{HasHeadline}
use Rattle.group_board.specs.Output.{fault_line}
use Rattle.group_board.specs.Outcome.{status_read}
use Rattle.group_board.specs.Putting.{text_of, IsWhole}
use Rattle.group_board.specs.declared.commands.Output.{Output}
use Rattle.group_board.specs.declared.status.Status.{Status}
use Rattle.group_board.specs.declared.status.Status.TheVariants.{Done, Usage, NoMemory, ReadFault, WriteFault, BadScript, TooLong}

-- the text was read, and it is what the source told, where it tells
abbrev pub IsRead : Option (List ℕ) → List ℕ → Type 0
IsRead told text = IfSome told (λ whole. whole ≡ text) × (length text ≤ text_limit)

-- this is the text's first fault
abbrev pub HasFault : List ℕ → At → Type 0
HasFault text first = script_of Group text ≡ Err first

-- this is put for the text: the text of a legal journal with the headline, or the line of the first fault
abbrev pub IsPutFor : List ℕ → List ℕ → Type 0
IsPutFor text put =
    ((h : HasHeadline text) × (put ≡ rendered h.script h.journal)) ⊎ ((first : At) × HasFault text first × (put ≡ fault_line first.line first.cause))

-- Of what the source told, and of what the sink held and holds, where they tell.
abbrev pub RunSays : Status → Option (List ℕ) → Option (List ℕ) → Option (List ℕ) → Type 0
-- the text of a legal journal with the headline was put
RunSays Done told old new = (text : List ℕ) × IsRead told text × (h : HasHeadline text) × Appends old new (rendered h.script h.journal)
-- one line was put
RunSays (BadScript line cause) told old new =
    (text : List ℕ) × IsRead told text × HasFault text (record { line = line; cause = cause }) × Appends old new (fault_line line cause)
-- a part was put
RunSays WriteFault told old new = (text : List ℕ) × IsRead told text × (put : List ℕ) × IsPutFor text put × AppendsPrefix old new put
RunSays TooLong told old new = IfSome told (λ text. text_limit < length text)
RunSays Usage told old new = Unit {0}
RunSays NoMemory told old new = Unit {0}
RunSays ReadFault told old new = Unit {0}

-- the status of a text where source and sink don't fail and there is memory
abbrev pub run_status : List ℕ → Status
run_status text = status_read text (script_of Group text)

-- ---- what is made of a text, unless memory runs out

abbrev pub MakesRun : List ℕ → Result Output ScriptFault → Type 0
MakesRun text (Ok output) = (h : HasHeadline text) × (text_of output ≡ rendered h.script h.journal) × IsWhole output
MakesRun text (Err (fault.Bad number found)) = HasFault text (record { line = number; cause = found })
MakesRun text (Err fault.NoMemory) = Unit {0}
