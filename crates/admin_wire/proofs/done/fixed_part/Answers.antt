use Rattle.std.proofs.Common.{rules}
use Rattle.byte_fields.specs.Places.{bytes_of}
use Rattle.admin_wire.proofs.done.fixed_part.Goals as goal

pub returns-clause-bytes : goal.returns-clause-bytes
unfolding bytes_of
returns-clause-bytes c = search rules
