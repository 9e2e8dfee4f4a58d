-- What a command made, and the text that is put for it.
use Rattle.std.specs.Prelude.{◌≡◌, ℕ, ◌<◌, List, length, Option, Result, Ok, Err}
use Rattle.std.specs.Io.KnownBytes.{Appends, Keeps}
use Rattle.board_io.specs.Sink.{AppendsPrefix}
use Rattle.script_words.specs.Texts.{At}
use Rattle.script_words.specs.declared.texts.ScriptFault.{ScriptFault}
use Rattle.script_words.specs.declared.texts.ScriptFault.TheVariants as fault
use Rattle.board_render.specs.Runs.{run_text}
use Rattle.group_board.specs.Output.{fault_line}
use Rattle.group_board.specs.declared.status.Status.{Status}
use Rattle.group_board.specs.declared.status.Status.TheVariants.{Done, Usage, NoMemory, ReadFault, WriteFault, BadScript, TooLong}
use Rattle.group_board.specs.declared.commands.Output.{Output}
use Rattle.group_board.specs.declared.commands.Output.TheVariants.{Text, Run}

abbrev pub text_of : Output → List ℕ
text_of (Text bytes) = bytes
text_of (Run ran) = run_text ran.cells ran.actors.items.items ran.left.items.items

-- each member's guest is among the actors of a run, behind the board
abbrev pub IsWhole : Output → Type 0
IsWhole (Text bytes) = Unit {0}
IsWhole (Run ran) = length ran.cells.members < length ran.actors.items.items

-- what a text makes, unless memory runs out
abbrev pub Makes : Result Output ScriptFault → Result (List ℕ) At → Type 0
Makes (Ok output) read = (read ≡ Ok (text_of output)) × IsWhole output
Makes (Err (fault.Bad number found)) read = read ≡ Err (record { line = number; cause = found })
Makes (Err fault.NoMemory) read = Unit {0}

-- ---- putting what was made, or the line of the text's first fault

abbrev pub made_status : Result Output ScriptFault → Status
made_status (Ok output) = Done
made_status (Err (fault.Bad number found)) = BadScript number found
made_status (Err fault.NoMemory) = NoMemory

-- all of it was put, or a prefix of it; or memory ran out
abbrev pub MadeSays : Result Output ScriptFault → Status → Option (List ℕ) → Option (List ℕ) → Type 0
MadeSays (Ok output) Done old new = Appends old new (text_of output)
MadeSays (Ok output) WriteFault old new = AppendsPrefix old new (text_of output)
MadeSays (Err (fault.Bad number found)) (BadScript line cause) old new = (number ≡ line) × (found ≡ cause) × Appends old new (fault_line number found)
MadeSays (Err (fault.Bad number found)) WriteFault old new = AppendsPrefix old new (fault_line number found)
MadeSays (Err found) NoMemory old new = Keeps old new
MadeSays made status old new = ⊥

-- an output is whole
abbrev pub IsWholeMade : Result Output ScriptFault → Type 0
IsWholeMade (Ok output) = IsWhole output
IsWholeMade (Err found) = Unit {0}
