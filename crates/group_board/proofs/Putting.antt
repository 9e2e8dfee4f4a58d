-- What is put under `step` is the text of a run that has the headline.
use Rattle.std.proofs.Common.{◌≡◌, ℕ, List, Option, None, Some, sym, ap, ◌∙◌, subst}
use Rattle.std.specs.Prelude.{IfSome, IfOk, Result, Ok, Err}
use Rattle.std.specs.Io.KnownBytes.{Appends, IsAtEnd}
use Rattle.script_words.specs.Texts.{At}
use Rattle.script_words.specs.declared.texts.ScriptFault.{ScriptFault}
use Rattle.script_words.specs.declared.texts.ScriptFault.TheVariants as fault
use Rattle.journal.specs.Texts.{rendered}
use Rattle.group_board.specs.declared.commands.Output.{Output}
use Rattle.group_board.specs.declared.status.Status.{Status}
use Rattle.group_board.specs.declared.status.Status.TheVariants.{Done}
use Rattle.group_board.specs.declared.words.Command.{Command}
use Rattle.group_board.specs.declared.words.Command.TheVariants.{Admin, Step, Alone}
use Rattle.group_board.specs.Output.{output_for, output_of, step_text}
use Rattle.group_board.specs.Putting.{Makes, MadeSays}
use Rattle.group_board.specs.Headline.{HasStepHeadline, HasItsHeadline, PutsHeadline}

fine : (a b : List ℕ) (read : Result (List ℕ) At) → read ≡ Ok a → read ≡ Ok b → a ≡ b
fine a b read one other = cc

-- what was made is the text of the journal that has the headline
same_text : (text made : List ℕ) (h : HasStepHeadline text) → output_of Step text ≡ Ok made → made ≡ rendered h.0.script h.0.journal
same_text text made h read =
    let whole : output_of Step text ≡ Ok (step_text h.0.script) = ap (output_for step_text) h.0.read in
    fine made (step_text h.0.script) (output_of Step text) read whole ∙ ap (rendered h.0.script) (sym h.1)

for_command : (command : Command) (told old new : Option (List ℕ)) (text made : List ℕ) → IfSome told (λ whole. whole ≡ text) → output_of command text ≡ Ok made → HasItsHeadline command text
    → Appends old new made → PutsHeadline (Some command) told old new
for_command Admin told old new text made whole read has put = tt
for_command Alone told old new text made whole read has put = tt
for_command Step told old new text made whole read has put = (text, has, whole, subst (λ (t : List ℕ). Appends old new t) (same_text text made has read) put)

pub puts_headline : (command : Command) (made : Result Output ScriptFault) (status : Status) (told old new : Option (List ℕ)) (text : List ℕ) → IfSome told (λ whole. whole ≡ text)
    → Makes made (output_of command text) → IfOk made (λ output. HasItsHeadline command text) → MadeSays made status old new → status ≡ Done → PutsHeadline (Some command) told old new
puts_headline command (Ok output) status told old new text whole makes has says done =
    let put : MadeSays (Ok output) Done old new = subst (λ (s : Status). MadeSays (Ok output) s old new) done says in
    for_command command told old new text _ whole makes.0 has put
puts_headline command (Err (fault.Bad number found)) status told old new text whole makes has says done =
    absurd (subst (λ (s : Status). MadeSays (Err (fault.Bad number found)) s old new) done says)
puts_headline command (Err fault.NoMemory) status told old new text whole makes has says done =
    absurd (subst (λ (s : Status). MadeSays (Err fault.NoMemory) s old new) done says)

-- what the source told is what was read
pub told_same : (told left : Option (List ℕ)) (text : List ℕ) → IfSome told (λ all. (all ≡ text) × IsAtEnd left) → IfSome told (λ whole. whole ≡ text)
told_same None left text is = tt
told_same (Some all) left text is = is.0
