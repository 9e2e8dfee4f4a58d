use Rattle.std.proofs.Common.{◌≡◌, ◌+◌, length, subst, arith}
use Rattle.std.proofs.lemmas.Result.{IfOk-weaker}
use Rattle.journal.specs.Journals.{Journal}
use Rattle.journal.specs.Settling.{each_while, serves_now, waits_now, has_lines, actors, guests}
use Rattle.board_run.specs.Places.{actor_count}
use Rattle.board_run.specs.Running.{AreRunning}
use Rattle.board_run.proofs.Ends.{all_each, guests_each}
use Rattle.board_run.proofs.phases.settle.Goals as goal

pub returns : goal.returns
returns c j all =
    let s = c.args.script.now in
    let count = all.all.count in
    let n : c.len-all.result ≡ actor_count s = omega (arith, count) in
    let g : c.guests.result + 1 ≡ length s.guests + 1 = omega arith in
    let a : Journal = each_while serves_now s (actors s) j in
    let b : Journal = each_while waits_now s (guests s) a in
    let x1 = subst (λ (k : Journal). AreRunning s k c.finish_each.new.cells c.finish_each.new.actors.items) (all_each s serves_now c.len-all.result j n) (c.in_ok-finish_each.ensures j all) in
    let x2 = subst (λ (k : Journal). AreRunning s k c.finish_each-2.new.cells c.finish_each-2.new.actors.items) (guests_each s waits_now (c.guests.result + 1) a g) (c.in_ok-finish_each-2.ensures a x1) in
    IfOk-weaker c.finish_each-3.result _ _ (λ u y. subst (λ (k : Journal). AreRunning s k c.finish_each-3.new.cells c.finish_each-3.new.actors.items) (all_each s has_lines c.len-all.result b n) y) (c.finish_each-3.ensures b x2)
