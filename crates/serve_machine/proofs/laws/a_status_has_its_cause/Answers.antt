use Rattle.serve_machine.proofs.Causes.{causes_of}
use Rattle.serve_machine.proofs.laws.a_status_has_its_cause.Goals as goal

pub returns : goal.returns
returns c = causes_of
