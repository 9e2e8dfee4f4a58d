use Rattle.std.proofs.Common.{◌≡◌, ℕ, Bool, sym, ap, ◌∙◌}
use Rattle.group_calls.specs.Facts.{Facts}
use Rattle.group_calls.specs.Steps.{Outcome, outcome, outcome_reply}
use Rattle.member_device.specs.Device.{Holdings, AreFacts, left_by_step}
use Rattle.member_device.specs.Plan.{facts_of}
use Rattle.member_device.proofs.Alike.{outcome_alike}
use Rattle.member_device.proofs.device.Device.step.Goals as goal

as_told : (d : Holdings) (q position : ℕ) (pending : Bool) (f : Facts) → AreFacts d q position pending f → outcome d.made d.memory d.disk (facts_of d position pending) q ≡ outcome d.made d.memory d.disk f q
as_told d q position pending f are = sym (outcome_alike d.made d.memory d.disk f (facts_of d position pending) q are.registers are.waiting are.position are.pending)

pub returns-clause-told : goal.returns-clause-told
returns-clause-told c = λ f are.
    c.perform.ensures.told c.args.pending ∙ ap outcome_reply (c.in_ok-plan.ensures.plan ∙ as_told c.args.self.now c.args.queue c.args.position c.args.pending f are)

pub returns-clause-left : goal.returns-clause-left
returns-clause-left c = λ f are.
    c.perform.ensures.left c.args.pending ∙ ap (λ (o : Outcome). left_by_step c.args.queue o c.args.self.now) (c.in_ok-plan.ensures.plan ∙ as_told c.args.self.now c.args.queue c.args.position c.args.pending f are)
