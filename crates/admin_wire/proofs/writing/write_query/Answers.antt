use Rattle.admin_wire.proofs.ReadAgain.{query_again}
use Rattle.admin_wire.proofs.writing.write_query.Goals as goal

pub returns-clause-read_again : goal.returns-clause-read_again
returns-clause-read_again c writable = rw c.write_fixed_part.ensures.bytes (query_again writable)
