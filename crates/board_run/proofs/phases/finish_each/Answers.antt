use Rattle.std.proofs.Common.{inl, true, ◌≡◌, ℕ, ◌-◌, List, map, sym, ap, ◌∙◌, subst, arith, length-set}
use Rattle.std.specs.Prelude.{slice_set}
use Rattle.journal.specs.Lines.{numbers}
use Rattle.journal.specs.Journals.{Journal}
use Rattle.journal.specs.Settling.{each_while}
use Rattle.actor_core.specs.declared.actor.Actor.{Actor}
use Rattle.board_run.specs.Places.{who_at}
use Rattle.board_run.specs.Running.{AreRunning}
use Rattle.board_run.specs.Finishing.{test_of}
use Rattle.board_run.proofs.Places.{placed_more}
use Rattle.board_run.proofs.Orders.{each_more}
use Rattle.board_run.proofs.Others.{read_at, one_at, other_at, finished_all}
use Rattle.board_run.proofs.phases.finish_each.Goals as goal

pub finish-requires-clause-run : goal.finish-requires-clause-run
finish-requires-clause-run c =
    let s = c.args.script.now in
    let at = read_at c.actors.actors.items c.actors.place c.index_mut.result.now (let t = c.actors-test.true in let n = c.actors.invariant.count in let there = c.requires.there in omega (arith, t, n, there)) c.index_mut.ensures.value in
    let now = c.actors.invariant.so_far c.requires.all.0 c.requires.all.1 in
    let k : Journal = each_while (test_of c.args.rest) s (map (who_at s) (numbers 1 (c.actors.place - 1))) c.requires.all.0 in
    (true, (k, (now.run, one_at s k c.actors.actors.items c.actors.place c.index_mut.result.now now.all at)))

pub finish-requires-clause-rest : goal.finish-requires-clause-rest
finish-requires-clause-rest c =
    let s = c.args.script.now in
    let script = c.queues-queues.ensures.bounds in
    let at = read_at c.actors.actors.items c.actors.place c.index_mut.result.now (let t = c.actors-test.true in let n = c.actors.invariant.count in let there = c.requires.there in omega (arith, t, n, there)) c.index_mut.ensures.value in
    let now = c.actors.invariant.so_far c.requires.all.0 c.requires.all.1 in
    let k : Journal = each_while (test_of c.args.rest) s (map (who_at s) (numbers 1 (c.actors.place - 1))) c.requires.all.0 in
    inl (other_at s script k c.actors.actors.items c.actors.place c.index_mut.result.now c.actors.invariant.low now.all at)

pub actors-preserved : goal.actors-preserved
actors-preserved c =
    let s = c.args.script.now in
    let script = c.queues-queues.ensures.bounds in
    let test = test_of c.args.rest in
    let actors : List Actor = c.actors.actors.items in
    let place = c.actors.place in
    let at = read_at c.actors.actors.items c.actors.place c.index_mut.result.now (let t = c.actors-test.true in let n = c.actors.invariant.count in let there = c.requires.there in omega (arith, t, n, there)) c.index_mut.ensures.value in
    let low = c.actors.invariant.low in
    let old : Actor = c.index_mut.result.now in
    let new : Actor = c.finish.new.actor in
    record {
      low = omega (arith, low);
      count = length-set actors place new ∙ c.actors.invariant.count;
      so_far = λ j all.
          let done_ : List ℕ = map (who_at s) (numbers 1 (place - 1)) in
          let k : Journal = each_while test s done_ j in
          let now = c.actors.invariant.so_far j all in
          let one = one_at s k actors place old now.all at in
          subst (λ (x : Journal). AreRunning s x c.finish.new.cells (slice_set actors place new))
          (sym (ap (λ (l : List ℕ). each_while test s l j) (placed_more (who_at s) place low) ∙ each_more s test done_ (who_at s place) j))
          (finished_all s script k c.actors.cells c.finish.new.cells actors place old new low now at c.args.rest (c.in_ok-finish.ensures.finished true k now.run one));
    }

pub returns : goal.returns
returns c j all =
    let s = c.args.script.now in
    let low = c.actors-test.false in
    let high = c.actors.auto.place-end c.requires.some in
    let end : c.actors.place ≡ c.args.end = omega (arith, low, high) in
    subst (λ (n : ℕ). AreRunning s (each_while (test_of c.args.rest) s (map (who_at s) (numbers 1 (n - 1))) j) c.actors.cells c.actors.actors.items) end (c.actors.invariant.so_far j all)
