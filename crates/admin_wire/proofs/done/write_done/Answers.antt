use Rattle.std.proofs.Common.{ap, ◌++◌, ◌∙◌}
use Rattle.std.specs.Prelude.{take}
use Rattle.admin_wire.proofs.Room.{completed}
use Rattle.admin_wire.proofs.done.write_done.Goals as goal

pub returns : goal.returns
returns c =
    let front = c.fixed_part-bytes.result in
    c.truncate.ensures
    ∙ ap (take c.args.writable) (c.extend.ensures ∙ ap (λ part. front ++ part) c.result_part.ensures.part)
    ∙ completed c.args.status c.args.qualifier c.args.payload.now c.args.writable front c.fixed_part-bytes.ensures.bytes c.fixed_part-bytes.ensures.length
