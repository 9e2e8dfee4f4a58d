use Rattle.std.proofs.Common.{sym, ap, ◌∙◌}
use Rattle.group_calls.specs.declared.member.MemberCall.{MemberCall}
use Rattle.group_calls.specs.declared.member.MemberCall.TheVariants.{Step}
use Rattle.group_calls.specs.declared.member.MemberReply.{MemberReply}
use Rattle.group_calls.specs.Steps.{outcome}
use Rattle.member_core.specs.Holding.{holdings_then}
use Rattle.member_core.proofs.Holding.{left_by_step-is}
use Rattle.member_core.proofs.Results.{both-then}
use Rattle.member_core.proofs.state.State.other_answer.Goals as goal

pub returns-in-Step-clause-left : goal.returns-in-Step-clause-left
returns-in-Step-clause-left c = λ f told.
    let s = c.args.self.now in
    both-then c.step.result (c.step.ensures.told f told) (c.step.ensures.left f told) (λ answer told_is left.
    left ∙ ap (λ d. record s { device = d }) (left_by_step-is (outcome s.device.made s.device.memory s.device.disk f) c.in-Step.queue s.device
    ∙ ap (λ (reply : MemberReply). holdings_then (outcome s.device.made s.device.memory s.device.disk f) (Step c.in-Step.queue) reply s.device) (sym told_is)
    ∙ ap (λ (call : MemberCall). holdings_then (outcome s.device.made s.device.memory s.device.disk f) call answer.told s.device) (sym c.in-Step.is)))
