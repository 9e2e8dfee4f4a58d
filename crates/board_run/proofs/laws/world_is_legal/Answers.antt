use Rattle.world_laws.proofs.Legal.{world_legal}
use Rattle.board_run.proofs.laws.world_is_legal.Goals as goal

pub returns : goal.returns
returns c = world_legal
