use Rattle.group_calls.proofs.Numbered.{numbered}
use Rattle.group_calls.proofs.laws.commands_are_numbered.Goals as goal

pub returns : goal.returns
returns c = numbered
