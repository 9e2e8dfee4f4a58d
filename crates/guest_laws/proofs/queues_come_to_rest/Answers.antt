use Rattle.guest_laws.proofs.Rest.{comes_to_rest}
use Rattle.guest_laws.proofs.queues_come_to_rest.Goals as goal

pub returns : goal.returns
returns c = comes_to_rest
