use Rattle.guest_laws.proofs.Ranks.{marked_own, reads_own}
use Rattle.guest_laws.proofs.Alike.{story_read}
use Rattle.guest_laws.proofs.guests_read_their_own_history.Goals as goal

pub returns-clause-reads : goal.returns-clause-reads
returns-clause-reads c = reads_own

pub returns-clause-marked : goal.returns-clause-marked
returns-clause-marked c = marked_own

pub returns-clause-same : goal.returns-clause-same
returns-clause-same c = story_read
