use Rattle.legacy_regs.proofs.Puts.{put_inside, put_apart}
use Rattle.legacy_regs.proofs.laws.partial_writes.Goals as goal

pub returns-clause-inside : goal.returns-clause-inside
returns-clause-inside c = put_inside

pub returns-clause-apart : goal.returns-clause-apart
returns-clause-apart c = put_apart
