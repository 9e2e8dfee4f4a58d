use Rattle.std.proofs.Common.{sym, ap, ◌∙◌}
use Rattle.serve_machine.specs.declared.stage.Stage.TheVariants.{Popping}
use Rattle.journal.specs.Doing.{accesses}
use Rattle.actor_core.specs.Tasks.{once_in}
use Rattle.actor_core.proofs.Accessing.{access_whole, access_boards, access_fits, access_closed, access_doing, served_meanwhile}
use Rattle.actor_core.proofs.turned.turn_access.Goals as goal

pub returns-then-is_quiet-clause-whole : goal.returns-then-is_quiet-clause-whole
returns-then-is_quiet-clause-whole c =
    let once = once_in c.args.task.now in
    access_whole c.args.queue once Popping c.serve_meanwhile.new.task (c.serve_meanwhile.ensures once c.requires)

pub returns-then-is_quiet-clause-own : goal.returns-then-is_quiet-clause-own
returns-then-is_quiet-clause-own c who =
    let once = once_in c.args.task.now in
    access_boards c.args.queue once Popping who c.serve_meanwhile.new.task (c.serve_meanwhile.ensures once c.requires)

pub returns-then-is_quiet-clause-fits : goal.returns-then-is_quiet-clause-fits
returns-then-is_quiet-clause-fits c s =
    let once = once_in c.args.task.now in
    access_fits c.args.queue once Popping s c.serve_meanwhile.new.task (c.serve_meanwhile.ensures once c.requires)

pub returns-then-is_quiet-clause-closed : goal.returns-then-is_quiet-clause-closed
returns-then-is_quiet-clause-closed c access closes =
    let once = once_in c.args.task.now in
    access_closed c.args.queue once Popping access c.serve_meanwhile.new.task (c.serve_meanwhile.ensures once c.requires)

pub returns-then-is_quiet-clause-goes_on : goal.returns-then-is_quiet-clause-goes_on
returns-then-is_quiet-clause-goes_on c unanswered access =
    let once = once_in c.args.task.now in
    access_doing c.args.queue once Popping access c.serve_meanwhile.new.task (c.serve_meanwhile.ensures once c.requires)
    ∙ ap (accesses c.args.queue once access) (served_meanwhile c.args.told.now (sym c.is_quiet.ensures ∙ c.if-is_quiet.true))
