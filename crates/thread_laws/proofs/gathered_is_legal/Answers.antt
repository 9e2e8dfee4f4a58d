use Rattle.thread_laws.proofs.Legal.{gathered_legal}
use Rattle.thread_laws.proofs.gathered_is_legal.Goals as goal

pub returns : goal.returns
returns c = gathered_legal
