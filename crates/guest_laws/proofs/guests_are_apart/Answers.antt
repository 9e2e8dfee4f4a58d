use Rattle.guest_laws.proofs.Apart.{guests_apart}
use Rattle.guest_laws.proofs.guests_are_apart.Goals as goal

pub returns : goal.returns
returns c = guests_apart
