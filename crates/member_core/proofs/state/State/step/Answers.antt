use Rattle.std.proofs.Common.{◌≡◌, ap, ◌∙◌, subst}
use Rattle.std.specs.Prelude.{IfOk}
use Rattle.group_calls.specs.Steps.{Outcome, outcome_reply}
use Rattle.member_device.specs.Device.{left_by_step}
use Rattle.member_core.specs.Queues.{is_pending}
use Rattle.member_core.specs.declared.queues.QueueFacts.{QueueFacts}
use Rattle.member_core.proofs.Telling.{as_good}
use Rattle.member_core.proofs.Results.{OnOk-then}
use Rattle.member_core.proofs.state.State.step.Goals as goal

pub returns-clause-told : goal.returns-clause-told
returns-clause-told c = λ f told.
    let s = c.args.self.now in
    let t = as_good s.device.made s f c.args.queue c.queue-facts.result.position c.is_pending.result told (ap (λ (x : QueueFacts). x.position) c.queue-facts.ensures) (c.is_pending.ensures ∙ ap is_pending c.queue-facts.ensures) in
    subst (λ (o : Outcome). IfOk c.step.result (λ answer. answer.told ≡ outcome_reply o)) t.same (c.step.ensures.told t.others t.told)

pub returns-clause-left : goal.returns-clause-left
returns-clause-left c = λ f told.
    let s = c.args.self.now in
    let t = as_good s.device.made s f c.args.queue c.queue-facts.result.position c.is_pending.result told (ap (λ (x : QueueFacts). x.position) c.queue-facts.ensures) (c.is_pending.ensures ∙ ap is_pending c.queue-facts.ensures) in
    OnOk-then c.step.result (c.step.ensures.left t.others t.told) (λ left. ap (λ d. record s { device = d }) (left ∙ ap (λ (o : Outcome). left_by_step c.args.queue o s.device) t.same))
