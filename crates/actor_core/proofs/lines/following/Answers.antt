use Rattle.std.proofs.Common.{sym, subst}
use Rattle.actor_core.specs.declared.lines.Line.{Line}
use Rattle.actor_core.specs.Boards.{LineFits, Follows}
use Rattle.actor_core.proofs.Boards.{brings_next, empties_next}
use Rattle.actor_core.proofs.lines.following.Goals as goal

pub returns-in-BringsUp-clause-follows : goal.returns-in-BringsUp-clause-follows
returns-in-BringsUp-clause-follows c =
    let s = c.args.script.now in
    let new = c.bringing_up-in-BringsUp in
    subst (λ (line : Line). Follows s line new.result) (sym c.in-BringsUp.is)
    (brings_next s c.in-BringsUp.member new.result (subst (LineFits s) c.in-BringsUp.is c.requires) new.ensures.first, new.ensures.last)

pub returns-in-Empties-clause-follows : goal.returns-in-Empties-clause-follows
returns-in-Empties-clause-follows c =
    let s = c.args.script.now in
    subst (λ (line : Line). Follows s line c.emptying.result) (sym c.in-Empties.is)
    (c.emptying.ensures.first, empties_next s c.in-Empties.queue c.emptying.result (subst (LineFits s) c.in-Empties.is c.requires) c.emptying.ensures.last)
