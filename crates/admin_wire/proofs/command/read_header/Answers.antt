use Rattle.std.proofs.Common.{◌∙◌, lit≤}
use Rattle.admin_wire.proofs.Headers.{IsHeaderOf, header_from, same_field, field_read, field_read_front}
use Rattle.admin_wire.proofs.command.read_header.Goals as goal

pub returns-clause-opcode : goal.returns-clause-opcode
returns-clause-opcode c =
    let header : IsHeaderOf c.args.bytes.now c.header_of-header.result = header_from c.args.bytes.now c.as_slice.result.now c.header_of-header.result c.as_slice.ensures.bytes c.header_of-header.ensures in
    c.read_u16.ensures ∙ field_read_front c.args.bytes.now c.header_of-header.result 2 header (lit≤ tt)

pub returns-clause-group_type : goal.returns-clause-group_type
returns-clause-group_type c =
    let header : IsHeaderOf c.args.bytes.now c.header_of-header.result = header_from c.args.bytes.now c.as_slice.result.now c.header_of-header.result c.as_slice.ensures.bytes c.header_of-header.ensures in
    c.read_u16-2.ensures ∙ field_read c.args.bytes.now c.header_of-header.result 2 30 2 header (lit≤ tt) (lit≤ tt)

pub returns-clause-member : goal.returns-clause-member
returns-clause-member c =
    let header : IsHeaderOf c.args.bytes.now c.header_of-header.result = header_from c.args.bytes.now c.as_slice.result.now c.header_of-header.result c.as_slice.ensures.bytes c.header_of-header.ensures in
    c.read_u64.ensures ∙ field_read c.args.bytes.now c.header_of-header.result 16 16 8 header (lit≤ tt) (lit≤ tt)

pub returns-clause-list : goal.returns-clause-list
returns-clause-list c =
    let header : IsHeaderOf c.args.bytes.now c.header_of-header.result = header_from c.args.bytes.now c.as_slice.result.now c.header_of-header.result c.as_slice.ensures.bytes c.header_of-header.ensures in
    c.list_in.ensures ∙ same_field 8 24 c.args.bytes.now c.header_of-header.result header (lit≤ tt)
