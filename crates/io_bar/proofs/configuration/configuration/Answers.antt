use Rattle.std.proofs.Common.{rules}
use Rattle.byte_fields.specs.Places.{bytes_of}
use Rattle.io_bar.proofs.configuration.configuration.Goals as goal

pub returns-clause-value : goal.returns-clause-value
unfolding bytes_of
returns-clause-value c = search rules
