use Rattle.std.proofs.Common.{sym, ◌∙◌}
use Rattle.member_device.proofs.Stages.{block_is_served, block_is_halted}
use Rattle.member_device.proofs.device.Device.plan_block.Goals as goal

pub returns-in-Reply-clause-plan : goal.returns-in-Reply-clause-plan
returns-in-Reply-clause-plan c = rw (← c.self.view_is) (λ f q sectors kind.
    let v = c.self.inside in
    block_is_served v.made c.args.read_only v.memory v.disk f q c.args.place.layout c.args.place.chain.parts c.in_ok-request.request c.writable-writable.result c.in_ok-request.ensures.bytes c.writable-writable.ensures.value
    c.in-Reply.reply _ (sym c.in-Reply.is ∙ c.in_ok-answer.ensures.answer) c.in_ok-answer.ensures.put)

pub returns-in-Malformed-clause-plan : goal.returns-in-Malformed-clause-plan
returns-in-Malformed-clause-plan c = rw (← c.self.view_is) (λ f q sectors kind.
    let v = c.self.inside in
    block_is_halted v.made c.args.read_only v.memory v.disk f q c.args.place.layout c.args.place.chain.parts c.in_ok-request.request c.writable-writable.result c.in_ok-request.ensures.bytes c.writable-writable.ensures.value
    (sym c.in-Malformed.is ∙ c.in_ok-answer.ensures.answer))
