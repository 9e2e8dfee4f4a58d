use Rattle.std.proofs.Common.{ap, ◌++◌, ◌∙◌}
use Rattle.std.specs.Prelude.{take}
use Rattle.admin_wire.proofs.Room.{completed}
use Rattle.admin_wire.proofs.done.write_long_done.Goals as goal

pub returns-clause-value : goal.returns-clause-value
returns-clause-value c =
    let front = c.fixed_part-fixed.result in
    let part = c.result_part-result in
    c.truncate.ensures
    ∙ ap (take c.args.writable) (c.in_ok-whole.ensures.value ∙ ap (λ xs. xs ++ part.result.now) c.as_slice.ensures.bytes ∙ ap (λ xs. front ++ xs) part.ensures.part)
    ∙ completed c.args.status c.args.qualifier c.args.payload.now c.args.writable front c.fixed_part-fixed.ensures.bytes c.fixed_part-fixed.ensures.length
