use Rattle.group_board.proofs.Running.{step_made}
use Rattle.group_board.proofs.Headlined.{read_headlined}
use Rattle.group_board.proofs.commands.step.Goals as goal

pub returns-in-Ok-clause-made : goal.returns-in-Ok-clause-made
returns-in-Ok-clause-made c = step_made c.args.text.now c.in_ok-script.script c.in-Ok.ran.cells c.in-Ok.ran.actors.items.items c.in-Ok.ran.left.items.items c.in_ok-script.ensures.bounds c.in_ok-script.ensures.value c.in-Ok.ensures.run

pub returns-in-Ok-clause-headline : goal.returns-in-Ok-clause-headline
returns-in-Ok-clause-headline c = read_headlined c.args.text.now c.in_ok-script.script c.in_ok-script.ensures.bounds c.in_ok-script.ensures.value
