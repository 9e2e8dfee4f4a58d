use Rattle.std.proofs.Common.{sym, ap, ◌∙◌}
use Rattle.group_calls.specs.declared.member.MemberReply.TheVariants.{Data}
use Rattle.lone_device.proofs.Noting.{read_told}
use Rattle.lone_device.proofs.registers.read.Goals as goal

pub returns-clause-told : goal.returns-clause-told
returns-clause-told c = ap Data (c.in_ok-bytes.ensures.bytes ∙ c.as_slice.ensures.bytes)
    ∙ read_told c.args.regs.now c.args.space c.args.offset c.args.length c.in-Ok.bytes (sym c.in-Ok.is ∙ c.peek.ensures.answer)
