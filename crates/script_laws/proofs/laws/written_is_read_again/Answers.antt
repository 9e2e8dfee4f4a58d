use Rattle.script_laws.proofs.Whole.{read_again}
use Rattle.script_laws.proofs.laws.written_is_read_again.Goals as goal

pub returns : goal.returns
returns c = read_again
