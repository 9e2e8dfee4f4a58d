use Rattle.guest_laws.proofs.Attended.{attended}
use Rattle.guest_laws.proofs.notifications_are_attended.Goals as goal

pub returns : goal.returns
returns c = attended
