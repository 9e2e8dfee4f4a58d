use Rattle.std.proofs.Common.{rules}
use Rattle.byte_fields.specs.Places.{bytes_of}
use Rattle.serve_machine.proofs.completion.list_bytes.Goals as goal

pub returns : goal.returns
unfolding bytes_of
returns c = search rules
