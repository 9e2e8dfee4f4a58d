use Rattle.serve_machine.proofs.ShortCompletions.{ends_short}
use Rattle.serve_machine.proofs.laws.completions_are_short.Goals as goal

pub returns : goal.returns
returns c = ends_short
