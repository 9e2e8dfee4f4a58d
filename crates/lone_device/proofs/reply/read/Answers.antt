use Rattle.std.proofs.Common.{ap, ◌∙◌}
use Rattle.legacy_regs.specs.Fields.{common_size}
use Rattle.group_calls.specs.declared.lone.LoneEvent.TheVariants.{Read}
use Rattle.group_calls.specs.Member.{member_answer}
use Rattle.group_calls.specs.Lone.{access_of, as_history, read_reply}
use Rattle.lone_device.proofs.Noting.{act_is}
use Rattle.lone_device.proofs.reply.read.Goals as goal

pub returns : goal.returns
returns c =
    let made = c.args.made.now in
    let h = as_history made c.args.past.now in
    let stands = c.in_ok-seen.ensures in
    c.read_reply.ensures ∙ ap read_reply (c.in_ok-reply.ensures.told ∙ act_is made c.in_ok-seen.seen h c.read_access-access.result stands
    ∙ ap (member_answer made h) (c.read_access-access.ensures ∙ ap (λ msix. access_of (common_size msix) (Read c.args.offset c.args.length)) stands.msix))
