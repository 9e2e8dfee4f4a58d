use Rattle.legacy_regs.proofs.ReadOnly.{keeps_read_only}
use Rattle.legacy_regs.proofs.laws.read_only_fields.Goals as goal

pub returns : goal.returns
returns c = keeps_read_only
