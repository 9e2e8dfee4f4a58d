use Rattle.group_calls.proofs.Disks.{replayed}
use Rattle.group_calls.proofs.laws.the_disk_is_replayed.Goals as goal

pub returns-clause-memory : goal.returns-clause-memory
returns-clause-memory c = λ first made h. (replayed first made h).0

pub returns-clause-disk : goal.returns-clause-disk
returns-clause-disk c = λ first made h. (replayed first made h).1
