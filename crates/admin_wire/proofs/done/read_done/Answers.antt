use Rattle.std.proofs.Common.{◌≡◌, ◌∙◌, refl, ap, lit≤}
use Rattle.byte_fields.specs.Places.{le16}
use Rattle.admin_wire.specs.Done.{parts_of}
use Rattle.admin_wire.proofs.Headers.{IsHeaderOf, header_from, field_read, field_read_front}
use Rattle.admin_wire.proofs.ReadAgain.{done_again}
use Rattle.admin_wire.proofs.done.read_done.Goals as goal

pub returns-clause-parts : goal.returns-clause-parts
returns-clause-parts c =
    let header : IsHeaderOf c.args.bytes.now c.header_of-header.result = header_from c.args.bytes.now c.as_slice.result.now c.header_of-header.result c.as_slice.ensures.bytes c.header_of-header.ensures in
    let status : c.read_u16-status.result ≡ le16 0 c.args.bytes.now = c.read_u16-status.ensures ∙ field_read_front c.args.bytes.now c.header_of-header.result 2 header (lit≤ tt) in
    let qualifier : c.read_u16-qualifier.result ≡ le16 2 c.args.bytes.now = c.read_u16-qualifier.ensures ∙ field_read c.args.bytes.now c.header_of-header.result 2 30 2 header (lit≤ tt) (lit≤ tt) in
    rw (c.behind-payload.ensures, status, qualifier) refl

pub returns-clause-read_again : goal.returns-clause-read_again
returns-clause-read_again c status qualifier payload writable small few room is =
    returns-clause-parts c ∙ ap parts_of is ∙ done_again status qualifier payload writable small few room
