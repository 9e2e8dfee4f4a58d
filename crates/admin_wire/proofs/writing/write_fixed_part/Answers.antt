use Rattle.std.proofs.Common.{rules}
use Rattle.byte_fields.specs.Places.{bytes_of}
use Rattle.admin_wire.specs.Writing.{fixed_part}
use Rattle.admin_wire.proofs.writing.write_fixed_part.Goals as goal

pub returns-clause-bytes : goal.returns-clause-bytes
unfolding fixed_part bytes_of
returns-clause-bytes c = search rules
