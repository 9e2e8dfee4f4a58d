use Rattle.std.proofs.Common.{◌∙◌, lit≤}
use Rattle.admin_wire.proofs.Headers.{IsHeaderOf, header_from, field_read_front}
use Rattle.admin_wire.proofs.done.read_supported.Goals as goal

pub returns : goal.returns
returns c =
    let header : IsHeaderOf c.args.payload.now c.header_of.result = header_from c.args.payload.now c.as_slice.result.now c.header_of.result c.as_slice.ensures.bytes c.header_of.ensures in
    c.read_u64.ensures ∙ field_read_front c.args.payload.now c.header_of.result 8 header (lit≤ tt)
