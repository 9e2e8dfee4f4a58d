use Rattle.std.proofs.Common.{◌≡◌, sym, ap, ◌∙◌, subst}
use Rattle.std.specs.Prelude.{IfOk}
use Rattle.group_calls.specs.declared.member.MemberCall.TheVariants.{Step}
use Rattle.group_calls.specs.declared.member.MemberReply.{MemberReply}
use Rattle.group_calls.specs.Steps.{outcome_reply}
use Rattle.group_calls.specs.Lone.{as_history}
use Rattle.lone_device.proofs.Noting.{living}
use Rattle.lone_device.proofs.Storing.{does_is}
use Rattle.lone_device.proofs.reply.step_answer.Goals as goal

pub returns : goal.returns
returns c =
    let made = c.args.made.now in
    let h = as_history made c.args.past.now in
    let stands = c.in_ok-whole.ensures.seen in
    let holds = c.in_ok-whole.ensures.stored in
    subst (λ (reply : MemberReply). IfOk c.step_answer.result (λ told. told ≡ reply))
    (ap outcome_reply (does_is made c.in_ok-whole.whole.stored c.in_ok-whole.whole.seen h stands holds c.args.queue) ∙ sym (living made c.in_ok-whole.whole.seen h (Step c.args.queue) c.in-None.is stands))
    c.step_answer.ensures
