use Rattle.std.proofs.Common.{List, ℕ, ap, ◌∙◌}
use Rattle.group_calls.specs.Steps.{service}
use Rattle.lone_device.proofs.Stages.{transmit_is_served}
use Rattle.lone_device.proofs.stored.Stored.transmit_step.Goals as goal

pub returns-clause-told : goal.returns-clause-told
returns-clause-told c = λ f q.
    let d = c.args.self.now in
    ap (λ (reply : List ℕ). service d.memory f q c.args.layout c.args.chain.parts reply d.disk c.in_ok-sent.sent) c.new.ensures
    ∙ transmit_is_served d.memory d.disk f q c.args.layout c.args.chain.parts c.in_ok-bytes.bytes c.in_ok-sent.sent c.in_ok-bytes.ensures.bytes c.in_ok-sent.ensures
