use Rattle.std.proofs.Common.{sym, subst}
use Rattle.group_cells.specs.Shared.{Sites}
use Rattle.thread_run.specs.Jobs.{IsDone}
use Rattle.thread_run.proofs.Own.{ready_by, performed}
use Rattle.thread_run.proofs.run.perform_own.Goals as goal

pub perform-actor-requires : goal.perform-actor-requires
perform-actor-requires g c = ready_by c.args.script.now c.args.group.now c.args.ring.now c.args.board c.in-Some.keys c.take.new.self c.in-Some.ensures.taken c.requires.ready

pub returns : goal.returns
returns g c = λ h at.
    let s = c.args.script.now in
    let r = c.args.ring.now in
    let end = c.perform-actor.result in
    let done = subst (λ (g : Sites). IsDone s g c.args.board c.in-Some.keys end.actor end.keys) (sym c.requires.group) c.perform-actor.ensures in
    performed s r c.take.new.self c.put_back.new.self c.args.board end.actor c.in-Some.keys end.keys h c.in-Some.ensures.taken c.in-Some.ensures.group.0 done c.put_back.ensures at
