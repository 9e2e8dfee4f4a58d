use Rattle.std.proofs.Common.{◌≡◌, refl, subst}
use Rattle.std.specs.Prelude.{IfOk}
use Rattle.group_calls.specs.Steps.{Outcome}
use Rattle.lone_device.specs.Seen.{waiting, seen_facts}
use Rattle.lone_device.specs.Service.{as_outcome}
use Rattle.lone_device.proofs.Stages.{chain_of_block, chain_of_receive, chain_of_transmit}
use Rattle.lone_device.proofs.stored.Stored.chain_step.Goals as goal

pub returns-in-Block-clause-told : goal.returns-in-Block-clause-told
returns-in-Block-clause-told c =
    let d = c.args.self.now in
    let f = seen_facts c.args.seen.now in
    subst (λ (o : Outcome). IfOk c.block_step.result (λ outcome. as_outcome d.memory d.disk f c.args.queue outcome ≡ o))
    (chain_of_block d.made d.memory d.disk f c.args.queue c.args.layout c.args.chain.parts c.in-Block.sectors c.in-Block.read_only c.in-Block.is)
    (c.block_step.ensures.told f c.args.queue)

pub returns-in-Net-clause-told : goal.returns-in-Net-clause-told
returns-in-Net-clause-told c =
    let d = c.args.self.now in
    let f = seen_facts c.args.seen.now in
    subst (λ (o : Outcome). IfOk c.receive_step.result (λ outcome. as_outcome d.memory d.disk f c.args.queue outcome ≡ o))
    (chain_of_receive d.made d.memory d.disk f c.args.queue c.args.layout c.args.chain.parts c.in-Net.mac (waiting c.args.seen.now.frames) c.in-Net.is c.if-queue-eq0.true refl)
    (c.receive_step.ensures.told f c.args.queue)

pub returns-in-Net-2-clause-told : goal.returns-in-Net-2-clause-told
returns-in-Net-2-clause-told c =
    let d = c.args.self.now in
    let f = seen_facts c.args.seen.now in
    subst (λ (o : Outcome). IfOk c.transmit_step.result (λ outcome. as_outcome d.memory d.disk f c.args.queue outcome ≡ o))
    (chain_of_transmit d.made d.memory d.disk f c.args.queue c.args.layout c.args.chain.parts c.in-Net-2.mac c.in-Net-2.is c.if-queue-eq0.false)
    (c.transmit_step.ensures.told f c.args.queue)
