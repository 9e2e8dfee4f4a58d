use Rattle.group_calls.proofs.Old.{old_closed}
use Rattle.group_calls.proofs.laws.a_closed_queue_makes_old.Goals as goal

pub returns : goal.returns
returns c = λ size h s legal below. old_closed size h legal s below
