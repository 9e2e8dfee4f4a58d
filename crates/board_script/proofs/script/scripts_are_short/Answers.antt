use Rattle.board_script.proofs.Short.{scripts_are_short}
use Rattle.board_script.proofs.script.scripts_are_short.Goals as goal

pub returns : goal.returns
returns c = scripts_are_short
