use Rattle.std.proofs.Common.{◌∷◌, List, sym, ap, ◌∙◌, subst}
use Rattle.std.specs.Prelude.{IfSome}
use Rattle.journal.specs.Lines.{Line}
use Rattle.actor_core.specs.Stands.{IsNear}
use Rattle.actor_core.specs.Actors.{begun, upcoming_in}
use Rattle.actor_core.proofs.actor.Actor.next.Goals as goal

pub lines-preserved : goal.lines-preserved
lines-preserved c =
    let s = c.args.script.now in
    let so_far = c.lines.invariant in
    let goes = c.go_on.ensures in
    record {
      fits = goes.fits;
      who = goes.who ∙ so_far.who;
      short = λ short. so_far.short (goes.short short);
      due = λ s who. goes.due s who ∙ so_far.due s who;
      so_far = λ who past stands short near.
          let came = so_far.so_far who past stands (goes.short short) near in
          let due = so_far.due s who in
          let then = c.in-Begun.ensures.stands who came.0 came.2 short
          (subst (λ (lines : List Line). IfSome (upcoming_in s who lines came.0).ask IsNear) (sym due) (subst (λ u. IfSome u.ask IsNear) came.1 near)) in
          (begun then.1.0 ∷ came.0, came.1 ∙ ap (λ lines. upcoming_in s who lines came.0) (sym due) ∙ then.1.1 ∙ ap (λ lines. upcoming_in s who lines (begun then.1.0 ∷ came.0)) due, then.1.2);
    }
