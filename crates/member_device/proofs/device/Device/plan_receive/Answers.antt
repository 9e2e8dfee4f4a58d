use Rattle.std.proofs.Common.{◌<◌, length, sym, subst, arith}
use Rattle.member_device.specs.Device.{Holdings}
use Rattle.member_device.proofs.Stages.{receive_is_served, receive_is_dropped}
use Rattle.member_device.proofs.device.Device.plan_receive.Goals as goal

pub returns-then-writable-front_length_with_header-clause-plan : goal.returns-then-writable-front_length_with_header-clause-plan
returns-then-writable-front_length_with_header-clause-plan c =
    let some : 0 < length c.self.inside.backlog = subst (λ (d : Holdings). 0 < length d.waiting) (sym c.self.view_is) c.requires.waits in
    rw (← c.self.view_is) (λ f q mac kind.
    let v = c.self.inside in
    receive_is_dropped v.memory v.disk f q c.args.place.layout c.args.place.chain.parts v.backlog c.writable.result some c.writable.ensures.value (omega (arith, c.front_length_with_header.ensures)))

pub returns-clause-plan : goal.returns-clause-plan
returns-clause-plan c =
    let some : 0 < length c.self.inside.backlog = subst (λ (d : Holdings). 0 < length d.waiting) (sym c.self.view_is) c.requires.waits in
    rw (← c.self.view_is) (λ f q mac kind.
    let v = c.self.inside in
    receive_is_served v.memory v.disk f q c.args.place.layout c.args.place.chain.parts v.backlog c.in_ok-reply.reply c.writable.result some c.in_ok-reply.ensures c.writable.ensures.value (omega (arith, c.front_length_with_header.ensures)))
