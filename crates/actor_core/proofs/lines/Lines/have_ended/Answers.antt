use Rattle.std.proofs.Common.{sym, ap, ◌∙◌, subst}
use Rattle.std.specs.Prelude.{nat_le}
use Rattle.actor_core.specs.declared.lines.Lines.{Lines}
use Rattle.actor_core.specs.Boards.{AreBegun, lines_due}
use Rattle.actor_core.proofs.Boards.{end_now}
use Rattle.actor_core.proofs.lines.Lines.have_ended.Goals as goal

pub returns-in-OfBoard : goal.returns-in-OfBoard
returns-in-OfBoard c s who begun are =
    let a = subst (AreBegun s who begun) c.in-OfBoard.is are in
    c.ends_before.ensures ∙ end_now s who begun c.in-OfBoard.next c.in-OfBoard.drains a.0 a.1 ∙ ap (λ (l : Lines). nat_le (lines_due s who l) begun) (sym c.in-OfBoard.is)
