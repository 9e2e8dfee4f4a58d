use Rattle.std.proofs.Common.{◌≡◌, ◌∷◌, suc, false, List, inl, refl, sym, ap, ◌∙◌, subst}
use Rattle.std.specs.List.{list_any}
use Rattle.actor_core.specs.declared.actor.Actor.{Actor}
use Rattle.actor_core.specs.declared.lists.LeftList.{LeftList}
use Rattle.thread_run.specs.Runs.{IsLegalRun}
use Rattle.thread_run.proofs.Lists.{none_at}
use Rattle.thread_run.proofs.Road.{IsOpened, IsAgain, first_ready, up_fits, up_group, up_fresh, mid_group, ready_again, end_group, end_home, legal_run}
use Rattle.thread_run.proofs.run.run_threads.Goals.{In_ok-board, After-begin_drain}
use Rattle.thread_run.proofs.run.run_threads.Goals as goal

opened : (g : _) (c : In_ok-board g) → IsOpened c.args.script.now c.in_ok-group.field-0.group c.in_ok-group.field-0.keys c.in_ok-board.board
opened g c = let o = c.in_ok-group.ensures in let a = c.in_ok-board.ensures in record {
  made = o.made;
  group = o.ring.0;
  floors = o.ring.1;
  home = o.home;
  stands = a.stands (inl refl);
  now = a.due refl;
}

again : (g : _) (c : After-begin_drain g) → IsAgain c.args.script.now c.perform_own-board.result c.begin_drain.new.self
again g c = let e = c.begin_drain.ensures in record {
  stands = λ past. e.stands c.args.script.now 0 past;
  due = e.due c.args.script.now 0;
  short = ap (λ (a : Actor). a.short) e.same;
}

pub perform_own-board-requires-clause-ready : goal.perform_own-board-requires-clause-ready
perform_own-board-requires-clause-ready g c = first_ready c.args.script.now c.in_ok-group.field-0.group c.in_ok-group.field-0.keys c.in_ok-board.board (opened g (goal.at.perform_own-board-requires-clause-ready g c).In_ok-board) c.in_ok-board.ensures.fits

pub perform_others-requires-clause-group : goal.perform_others-requires-clause-group
perform_others-requires-clause-group g c = λ κs live. up_group c.args.script.now c.in_ok-group.field-0.group c.in_ok-group.field-0.keys c.in_ok-board.board (opened g (goal.at.perform_others-requires-clause-group g c).In_ok-board) c.perform_own-board.new.ring c.perform_own-board.result c.perform_own-board.ensures

pub perform_others-requires-clause-home : goal.perform_others-requires-clause-home
perform_others-requires-clause-home g c = λ κs live. up_fresh c.args.script.now c.in_ok-group.field-0.group c.in_ok-group.field-0.keys c.in_ok-board.board (opened g (goal.at.perform_others-requires-clause-home g c).In_ok-board) c.perform_own-board.new.ring c.perform_own-board.result c.perform_own-board.ensures

pub perform_own-board-requires-2-clause-group : goal.perform_own-board-requires-2-clause-group
perform_own-board-requires-2-clause-group g c =
    mid_group c.args.script.now c.in_ok-group.field-0.group c.in_ok-group.field-0.keys c.in_ok-board.board (opened g (goal.at.perform_own-board-requires-2-clause-group g c).In_ok-board) c.perform_own-board.new.ring c.perform_own-board.result c.perform_own-board.ensures
    c.queues-queues.ensures.bounds c.perform_others.new.ring c.in_ok-actors.actors.items c.in_ok-actors.ensures

pub perform_own-board-requires-2-clause-ready : goal.perform_own-board-requires-2-clause-ready
perform_own-board-requires-2-clause-ready g c =
    let s = c.args.script.now in
    let up = c.perform_own-board in
    let e = c.begin_drain.ensures in
    let at = goal.at.perform_own-board-requires-2-clause-ready g c in
    ready_again s c.in_ok-group.field-0.group c.in_ok-group.field-0.keys c.in_ok-board.board (opened g at.In_ok-board) up.new.ring up.result up.ensures c.queues-queues.ensures.bounds c.perform_others.new.ring c.in_ok-actors.actors.items c.in_ok-actors.ensures c.begin_drain.new.self (again g at.After-begin_drain)
    (e.fits s (up_fits s c.in_ok-group.field-0.group c.in_ok-group.field-0.keys c.in_ok-board.board (opened g at.In_ok-board) up.new.ring up.result up.ensures)) (ap (λ (a : Actor). a.performer) e.same)

pub close-cells-requires-clause-group : goal.close-cells-requires-clause-group
close-cells-requires-clause-group g c =
    let s = c.args.script.now in
    let up = c.perform_own-board in
    let at = goal.at.close-cells-requires-clause-group g c in
    end_group s c.in_ok-group.field-0.group c.in_ok-group.field-0.keys c.in_ok-board.board (opened g at.In_ok-board) up.new.ring up.result up.ensures c.queues-queues.ensures.bounds c.perform_others.new.ring c.in_ok-actors.actors.items c.in_ok-actors.ensures c.begin_drain.new.self (again g at.After-begin_drain)
    c.perform_own-board-2.new.ring c.perform_own-board-2.result c.perform_own-board-2.ensures

pub close-cells-requires-clause-home : goal.close-cells-requires-clause-home
close-cells-requires-clause-home g c =
    let s = c.args.script.now in
    let up = c.perform_own-board in
    let at = goal.at.close-cells-requires-clause-home g c in
    end_home s c.in_ok-group.field-0.group c.in_ok-group.field-0.keys c.in_ok-board.board (opened g at.In_ok-board) up.new.ring up.result up.ensures c.queues-queues.ensures.bounds c.perform_others.new.ring c.in_ok-actors.actors.items c.in_ok-actors.ensures c.begin_drain.new.self (again g at.After-begin_drain)
    c.perform_own-board-2.new.ring c.perform_own-board-2.result c.perform_own-board-2.ensures

pub returns-clause-run : goal.returns-clause-run
returns-clause-run g c =
    let s = c.args.script.now in
    let up = c.perform_own-board in
    let end = c.perform_own-board-2 in
    let left = c.take_left-left.ensures in
    let board : Actor = c.take_left-left.new.self in
    let others : List Actor = c.in_ok-actors.actors.items in
    let at = goal.at.returns-clause-run g c in
    let all : c.insert.new.self.items ≡ board ∷ others = c.in_ok-insert.ensures.items in
    let none : list_any (λ actor. actor.short) (board ∷ others) ≡ false = ap (list_any (λ (actor : Actor). actor.short)) (sym (ap (λ v. v.items) c.of-actors.ensures ∙ all)) ∙ sym c.if-is_one_short.ensures in
    subst (λ (l : List Actor). IsLegalRun s c.close-cells.result l c.take_left-left.result.items.items) (sym (ap (λ v. v.items) c.of-actors.ensures ∙ all))
    (legal_run s c.in_ok-group.field-0.group c.in_ok-group.field-0.keys c.in_ok-board.board (opened g at.In_ok-board) up.new.ring up.result up.ensures c.queues-queues.ensures.bounds c.perform_others.new.ring others c.in_ok-actors.ensures c.begin_drain.new.self (again g at.After-begin_drain)
    end.new.ring end.result end.ensures c.close-cells.result c.close-cells.ensures (sym left.short ∙ none_at (λ actor. actor.short) (board ∷ others) 0 board none refl) c.gathered_is_legal.ensures c.others_are_idle.ensures
    (λ i a here. none_at (λ actor. actor.short) (board ∷ others) (suc i) a none here) c.who-who.ensures.sound board c.take_left-left.result.items.items left.performer left.trace (ap (λ (l : LeftList). l.items.items) left.left))
