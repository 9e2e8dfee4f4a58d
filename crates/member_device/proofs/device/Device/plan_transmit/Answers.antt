use Rattle.member_device.proofs.Stages.{transmit_is_served}
use Rattle.member_device.proofs.device.Device.plan_transmit.Goals as goal

pub returns-clause-plan : goal.returns-clause-plan
returns-clause-plan c = rw (← c.self.view_is) (λ f q mac kind.
    let v = c.self.inside in
    transmit_is_served v.memory v.disk f q c.args.place.layout c.args.place.chain.parts c.in_ok-request.request c.in_ok-sent.sent c.in_ok-request.ensures.bytes c.in_ok-sent.ensures)
