use Rattle.std.proofs.Common.{inr, true, List, refl, ap, arith}
use Rattle.journal.specs.Journals.{Journal}
use Rattle.actor_core.specs.declared.actor.Actor.{Actor}
use Rattle.actor_core.specs.declared.lists.LeftList.{LeftList}
use Rattle.board_run.proofs.Others.{read_at}
use Rattle.board_run.proofs.Ends.{board_one, some_actor, drains, drained_run}
use Rattle.board_run.proofs.run.drain.Goals as goal

pub index_mut-board-requires : goal.index_mut-board-requires
index_mut-board-requires c = let some = some_actor c.args.script.now c.requires.0 c.args.actors.now.items c.requires.1.all in omega (arith, some)

pub finish-requires-clause-run : goal.finish-requires-clause-run
finish-requires-clause-run c =
    let s = c.args.script.now in
    let j : Journal = c.requires.0 in
    let all : List Actor = c.args.actors.now.items in
    let at = read_at all 0 c.index_mut-board.result.now (some_actor s j all c.requires.1.all) c.index_mut-board.ensures.value in
    let stands = c.begin_drain.ensures.stands s 0 (j.past 0) (board_one s j all c.index_mut-board.result.now c.requires.1.all at) in
    (true, (j, (c.requires.1.run, drains s j c.begin_drain.new.self stands)))

pub finish-requires-clause-rest : goal.finish-requires-clause-rest
finish-requires-clause-rest c = inr refl

pub returns : goal.returns
returns c j run =
    let s = c.args.script.now in
    let script = c.queues-queues.ensures.bounds in
    let all : List Actor = c.args.actors.now.items in
    let old : Actor = c.index_mut-board.result.now in
    let board : Actor = c.begin_drain.new.self in
    let at = read_at all 0 old (some_actor s j all run.all) c.index_mut-board.ensures.value in
    let stands = c.begin_drain.ensures.stands s 0 (j.past 0) (board_one s j all old run.all at) in
    drained_run s script j c.args.cells.now c.finish.new.cells all old board c.finish.new.actor c.take_left.result.items.items run at stands (c.begin_drain.ensures.due s 0) c.take_left.new.self
    (c.in_ok-finish.ensures.finished true j run.run (drains s j board stands)) (ap (λ (l : LeftList). l.items.items) c.take_left.ensures.left) c.take_left.ensures.performer c.take_left.ensures.trace
