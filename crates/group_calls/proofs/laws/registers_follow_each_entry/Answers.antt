use Rattle.group_calls.proofs.RegisterEntries.{registers_after-more}
use Rattle.group_calls.proofs.laws.registers_follow_each_entry.Goals as goal

pub returns : goal.returns
returns c = registers_after-more
