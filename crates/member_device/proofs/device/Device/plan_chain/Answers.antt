use Rattle.std.proofs.Common.{◌≡◌, sym, ap, ◌∙◌, subst}
use Rattle.std.specs.Prelude.{IfOk}
use Rattle.legacy_regs.specs.declared.device.Kind.TheVariants.{Block, Net}
use Rattle.group_calls.specs.Steps.{Outcome}
use Rattle.member_device.specs.Device.{Holdings}
use Rattle.member_device.specs.Plan.{planned}
use Rattle.member_device.proofs.Stages.{chain_of_block, chain_of_receive, chain_of_transmit}
use Rattle.member_device.proofs.device.Device.plan_chain.Goals as goal

pub returns-in-Block-clause-plan : goal.returns-in-Block-clause-plan
returns-in-Block-clause-plan c = λ f frames.
    let d : Holdings = c.args.self.now in
    let kind : d.made.kind ≡ Block c.in-Block.sectors c.in-Block.read_only = ap (λ (v : Holdings). v.made.kind) (sym c.self.view_is) ∙ c.in-Block.is in
    subst (λ (o : Outcome). IfOk c.plan_block.result (λ plan. planned d f c.args.queue plan ≡ o))
    (chain_of_block d.made d.memory d.disk f c.args.queue c.args.place.layout c.args.place.chain.parts c.in-Block.sectors c.in-Block.read_only kind)
    (c.plan_block.ensures.plan f c.args.queue c.in-Block.sectors kind)

pub returns-in-Block-clause-ready : goal.returns-in-Block-clause-ready
returns-in-Block-clause-ready c = λ position place.
    let kind : c.args.self.now.made.kind ≡ Block c.in-Block.sectors c.in-Block.read_only = ap (λ (v : Holdings). v.made.kind) (sym c.self.view_is) ∙ c.in-Block.is in
    c.plan_block.ensures.ready c.args.queue position c.in-Block.sectors kind place

pub returns-in-Net-clause-plan : goal.returns-in-Net-clause-plan
returns-in-Net-clause-plan c = λ f frames.
    let d : Holdings = c.args.self.now in
    let kind : d.made.kind ≡ Net c.in-Net.mac = ap (λ (v : Holdings). v.made.kind) (sym c.self.view_is) ∙ c.in-Net.is in
    subst (λ (o : Outcome). IfOk c.plan_receive.result (λ plan. planned d f c.args.queue plan ≡ o))
    (chain_of_receive d.made d.memory d.disk f c.args.queue c.args.place.layout c.args.place.chain.parts c.in-Net.mac d.waiting kind c.if-queue-eq0.true frames)
    (c.plan_receive.ensures.plan f c.args.queue c.in-Net.mac kind)

pub returns-in-Net-clause-ready : goal.returns-in-Net-clause-ready
returns-in-Net-clause-ready c = λ position place. c.plan_receive.ensures.ready c.args.queue position c.if-queue-eq0.true place

pub returns-in-Net-2-clause-ready : goal.returns-in-Net-2-clause-ready
returns-in-Net-2-clause-ready c = λ position place. c.plan_transmit.ensures.ready c.args.queue position c.if-queue-eq0.false place

pub returns-in-Net-2-clause-plan : goal.returns-in-Net-2-clause-plan
returns-in-Net-2-clause-plan c = λ f frames.
    let d : Holdings = c.args.self.now in
    let kind : d.made.kind ≡ Net c.in-Net-2.mac = ap (λ (v : Holdings). v.made.kind) (sym c.self.view_is) ∙ c.in-Net-2.is in
    subst (λ (o : Outcome). IfOk c.plan_transmit.result (λ plan. planned d f c.args.queue plan ≡ o))
    (chain_of_transmit d.made d.memory d.disk f c.args.queue c.args.place.layout c.args.place.chain.parts c.in-Net-2.mac kind c.if-queue-eq0.false)
    (c.plan_transmit.ensures.plan f c.args.queue c.in-Net-2.mac kind)
