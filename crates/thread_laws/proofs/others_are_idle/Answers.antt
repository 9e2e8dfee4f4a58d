use Rattle.thread_laws.proofs.Idle.{others_idle}
use Rattle.thread_laws.proofs.others_are_idle.Goals as goal

pub returns : goal.returns
returns c = others_idle
