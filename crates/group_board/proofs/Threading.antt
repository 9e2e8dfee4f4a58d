-- What is made of a text under `run`, and what is then put.
use Rattle.std.proofs.Common.{◌≡◌, ℕ, List, Option, refl, subst, inl, inr}
use Rattle.std.specs.Prelude.{Result, Ok, Err}
use Rattle.std.specs.Io.KnownBytes.{Appends}
use Rattle.script_words.specs.declared.cause.Cause.{Cause}
use Rattle.script_words.specs.declared.texts.ScriptFault.{ScriptFault}
use Rattle.script_words.specs.declared.texts.ScriptFault.TheVariants as fault
use Rattle.board_script.specs.declared.draft.Use.TheVariants.{Group}
use Rattle.board_script.specs.Script.{Whole, script_of}
use Rattle.journal.specs.Texts.{rendered}
use Rattle.board_run.specs.declared.run.Ran.{Ran}
use Rattle.thread_run.specs.Runs.{IsLegalRun}
use Rattle.group_board.specs.declared.commands.Output.{Output}
use Rattle.group_board.specs.declared.commands.Output.TheVariants.{Run}
use Rattle.group_board.specs.declared.status.Status.{Status}
use Rattle.group_board.specs.declared.status.Status.TheVariants.{Done, Usage, NoMemory, ReadFault, WriteFault, BadScript, TooLong}
use Rattle.group_board.specs.Output.{fault_line}
use Rattle.group_board.specs.Putting.{text_of, MadeSays}
use Rattle.group_board.specs.Threads.{IsRead, HasFault, RunSays, MakesRun}
use Rattle.group_board.proofs.Running.{same_run_text, some_guests}

-- a run that threads made has the text of its journal
pub run_made : (text : List ℕ) (s : Whole) (ran : Ran) → script_of Group text ≡ Ok s → IsLegalRun s ran.cells ran.actors.items.items ran.left.items.items → MakesRun text (Ok (Run ran))
run_made text s ran read is = (
  record { script = s; journal = is.journal; read = read; headlined = record { legal = is.legal; all = is.all } },
  same_run_text s is.journal is.legal ran.cells ran.actors.items.items ran.left.items.items is.run,
  some_guests s is.journal is.legal ran.cells ran.actors.items.items ran.left.items.items is.run,
)

pub run_says : (made : Result Output ScriptFault) (status : Status) (told old new : Option (List ℕ)) (text : List ℕ) → IsRead told text → MakesRun text made → MadeSays made status old new
    → RunSays status told old new
run_says (Ok output) Done told old new text read makes says = (text, read, makes.0, subst (λ (t : List ℕ). Appends old new t) makes.1 says)
run_says (Ok output) WriteFault told old new text read makes says = (text, read, text_of output, inl (makes.0, makes.1), says)
run_says (Err (fault.Bad number found)) (BadScript line cause) told old new text read makes says =
    let told_fault : HasFault text (record { line = line; cause = cause }) × Appends old new (fault_line line cause) =
    subst (λ (c : Cause). HasFault text (record { line = line; cause = c }) × Appends old new (fault_line line c)) says.1
    (subst (λ (n : ℕ). HasFault text (record { line = n; cause = found }) × Appends old new (fault_line n found)) says.0 (makes, says.2)) in
    (text, read, told_fault.0, told_fault.1)
run_says (Err (fault.Bad number found)) WriteFault told old new text read makes says =
    (text, read, fault_line number found, inr (record { line = number; cause = found }, makes, refl), says)
run_says (Err found) NoMemory told old new text read makes says = tt
run_says made status told old new text read makes says = absurd says
