use Rattle.std.proofs.Common.{◌+◌, ◌∙◌, ◌++◌, List, ℕ, sym, ap, drop, append_assoc}
use Rattle.admin_script.specs.declared.line.AdminLine.{AdminLine}
use Rattle.admin_run.specs.Group.{Group, after_line}
use Rattle.admin_run.specs.Answers.{answer_to, answers}
use Rattle.admin_run.proofs.Members.{line_at}
use Rattle.admin_run.proofs.run.run_admin.Goals as goal

pub lines-preserved : goal.lines-preserved
lines-preserved c =
    let lines : List AdminLine = c.args.text.now in
    let line : AdminLine = c.line.result.now in
    let old : Group = c.lines.group in
    let rest : Group → List ℕ = λ g. answers g (drop (c.lines.index + 1) lines) in
    c.lines.invariant ∙ ap (λ (l : List AdminLine). c.lines.output.items ++ answers old l) (line_at lines c.lines.index line c.line.ensures.value)
    ∙ sym (append_assoc c.lines.output.items (answer_to old line) (rest (after_line old line)))
    ∙ ap (λ (out : List ℕ). out ++ rest (after_line old line)) (sym c.in_ok-answer.ensures.output)
    ∙ ap (λ (g : Group). c.answer.new.output.items ++ rest g) (sym c.in_ok-answer.ensures.group)
