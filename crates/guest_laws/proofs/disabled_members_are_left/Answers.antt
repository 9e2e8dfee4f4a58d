use Rattle.guest_laws.proofs.Disabled.{disabled_left}
use Rattle.guest_laws.proofs.disabled_members_are_left.Goals as goal

pub returns : goal.returns
returns c = disabled_left
