use Rattle.std.proofs.Common.{◌∙◌, lit≤}
use Rattle.byte_fields.proofs.Places.{number_read}
use Rattle.admin_wire.proofs.command.list_in.Goals as goal

pub returns : goal.returns
returns c = c.read_u64.ensures ∙ number_read 8 24 8 c.args.header.now (lit≤ tt)
