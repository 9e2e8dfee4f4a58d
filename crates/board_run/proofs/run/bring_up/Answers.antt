use Rattle.std.proofs.Common.{inr, false, List, refl, arith}
use Rattle.std.proofs.lemmas.Result.{IfOk-weaker}
use Rattle.journal.specs.Worlds.{first}
use Rattle.actor_core.specs.declared.actor.Actor.{Actor}
use Rattle.board_run.proofs.Others.{read_at}
use Rattle.board_run.proofs.Ends.{some_actor, starts, first_one, up_all}
use Rattle.board_run.proofs.run.bring_up.Goals as goal

pub index_mut-requires : goal.index_mut-requires
index_mut-requires c = let some = some_actor c.args.script.now first c.args.actors.now.items c.requires.all in omega (arith, some)

pub finish-requires-clause-run : goal.finish-requires-clause-run
finish-requires-clause-run c =
    let at = read_at c.args.actors.now.items 0 c.index_mut.result.now (some_actor c.args.script.now first c.args.actors.now.items c.requires.all) c.index_mut.ensures.value in
    let s = c.args.script.now in
    (false, (first, (starts s c.args.cells.now c.requires.cells, first_one s c.args.actors.now.items c.index_mut.result.now c.requires.all at)))

pub finish-requires-clause-rest : goal.finish-requires-clause-rest
finish-requires-clause-rest c = inr refl

pub returns : goal.returns
returns c =
    let s = c.args.script.now in
    let script = c.queues-queues.ensures.bounds in
    let all : List Actor = c.args.actors.now.items in
    let old : Actor = c.index_mut.result.now in
    let new : Actor = c.finish.new.actor in
    let at = read_at c.args.actors.now.items 0 c.index_mut.result.now (some_actor c.args.script.now first c.args.actors.now.items c.requires.all) c.index_mut.ensures.value in
    IfOk-weaker c.finish.result _ _ (λ u done. up_all s script c.args.cells.now c.finish.new.cells all old new c.requires.all at c.requires.board done)
    (c.finish.ensures.finished false first (starts s c.args.cells.now c.requires.cells) (first_one s all old c.requires.all at))
