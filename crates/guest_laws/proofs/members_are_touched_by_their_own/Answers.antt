use Rattle.guest_laws.proofs.Touching.{touched_by_own}
use Rattle.guest_laws.proofs.members_are_touched_by_their_own.Goals as goal

pub returns : goal.returns
returns c = touched_by_own
