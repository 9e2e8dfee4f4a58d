use Rattle.std.proofs.Common.{sym, ap, ◌∙◌}
use Rattle.group_calls.specs.declared.member.MemberCall.TheVariants.{TakeIrqs, Arrive}
use Rattle.group_calls.specs.declared.member.MemberReply.TheVariants.{Irqs}
use Rattle.group_calls.specs.Member.{arrive_answer, member_answer}
use Rattle.lone_device.proofs.Noting.{living}
use Rattle.lone_device.proofs.Storing.{waiting_is, raised_is}
use Rattle.lone_device.proofs.reply.plain_answer.Goals as goal

pub returns-in-TakeIrqs : goal.returns-in-TakeIrqs
returns-in-TakeIrqs c = λ made h stands.
    let s = c.args.seen.now in
    ap Irqs (raised_is made s h stands) ∙ sym (ap (member_answer made h) c.in-TakeIrqs.is ∙ living made s h TakeIrqs c.in_default.is stands)

pub returns-in-Arrive : goal.returns-in-Arrive
returns-in-Arrive c = λ made h stands.
    let s = c.args.seen.now in
    c.arrive_answer.ensures ∙ (λ i. arrive_answer (stands.kind i) (waiting_is made s h stands i) c.in-Arrive.frame)
    ∙ sym (ap (member_answer made h) c.in-Arrive.is ∙ living made s h (Arrive c.in-Arrive.frame) c.in_default.is stands)
