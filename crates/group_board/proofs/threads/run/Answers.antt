use Rattle.group_board.proofs.Threading.{run_made}
use Rattle.group_board.proofs.threads.run.Goals as goal

pub returns-in-Ok : goal.returns-in-Ok
returns-in-Ok g c = run_made c.args.text.now c.in_ok-script.script c.in-Ok.ran c.in_ok-script.ensures.value c.in-Ok.ensures.run
