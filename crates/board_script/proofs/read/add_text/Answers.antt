use Rattle.std.proofs.Common.{Result, sym, subst, ◌∙◌}
use Rattle.script_words.specs.declared.cause.Cause.{Cause}
use Rattle.script_words.specs.Values.{Steps}
use Rattle.board_script.specs.SoFar.{SoFar}
use Rattle.board_script.specs.Shapes.{form_says}
use Rattle.board_script.proofs.Table.{with_text-shape}
use Rattle.board_script.proofs.read.add_text.Goals as goal

pub returns-clause-value : goal.returns-clause-value
returns-clause-value c =
    let counts = sym c.is_ignored.ensures ∙ c.if-is_ignored.false in
    let said = rw c.read_shape.ensures at c.add_form.ensures.value in
    subst (λ (r : Result SoFar Cause). Steps c.add_form.result c.add_form.new.draft r) (sym (with_text-shape c.args.place c.args.draft.now c.args.text.now counts)) said
