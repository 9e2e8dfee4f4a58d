use Rattle.std.proofs.Common.{◌≡◌, sym, ap, ◌∙◌, subst, Bool}
use Rattle.std.specs.Prelude.{IfOk}
use Rattle.ring_layout.specs.Chain.{found}
use Rattle.legacy_regs.specs.Registers.{uses_tables}
use Rattle.ring_device.specs.Answer.{answer}
use Rattle.ring_device.specs.declared.next.Found.TheVariants.{Chain, Empty, Bad}
use Rattle.ring_device.specs.declared.next.Bad.TheVariants.{Index, Chain as BrokenChain}
use Rattle.group_calls.specs.Steps.{Outcome}
use Rattle.member_device.specs.Device.{Holdings}
use Rattle.member_device.specs.Plan.{planned}
use Rattle.member_device.proofs.Found.{found_chain, found_nothing, found_bad_index, found_bad_chain}
use Rattle.member_device.proofs.device.Device.plan_ring.Goals as goal

pub returns-in-Chain-clause-plan : goal.returns-in-Chain-clause-plan
returns-in-Chain-clause-plan c = λ f frames.
    let d : Holdings = c.args.self.now in
    let told : Chain c.in-Chain.chain ≡ answer (uses_tables d.registers) d.memory c.args.layout c.args.position = sym c.in-Chain.is ∙ c.in_ok-chain.ensures.answer
    ∙ ap (λ (b : Bool). answer b c.self.inside.memory c.args.layout c.args.position) c.uses_tables-tables.ensures
    ∙ ap (λ (v : Holdings). answer (uses_tables v.registers) v.memory c.args.layout c.args.position) c.self.view_is in
    subst (λ (o : Outcome). IfOk c.plan_chain.result (λ plan. planned d f c.args.queue plan ≡ o))
    (found_chain d.made d.memory d.disk f c.args.queue c.args.layout c.args.position (found (uses_tables d.registers) d.memory c.args.layout c.args.position) c.in-Chain.chain told)
    (c.plan_chain.ensures.plan f frames)

pub returns-in-Empty-clause-plan : goal.returns-in-Empty-clause-plan
returns-in-Empty-clause-plan c = λ f frames.
    let d : Holdings = c.args.self.now in
    let told : Empty ≡ answer (uses_tables d.registers) d.memory c.args.layout c.args.position = sym c.in-Empty.is ∙ c.in_ok-chain.ensures.answer
    ∙ ap (λ (b : Bool). answer b c.self.inside.memory c.args.layout c.args.position) c.uses_tables-tables.ensures
    ∙ ap (λ (v : Holdings). answer (uses_tables v.registers) v.memory c.args.layout c.args.position) c.self.view_is in
    found_nothing d.made d.memory d.disk f c.args.queue c.args.layout c.args.position (found (uses_tables d.registers) d.memory c.args.layout c.args.position) told

pub returns-in-Bad-Index-clause-plan : goal.returns-in-Bad-Index-clause-plan
returns-in-Bad-Index-clause-plan c = λ f frames.
    let d : Holdings = c.args.self.now in
    let told : Bad Index ≡ answer (uses_tables d.registers) d.memory c.args.layout c.args.position = sym (c.in-Bad-Index.is ∙ ap Bad c.in-Bad-Index.field-0-is) ∙ c.in_ok-chain.ensures.answer
    ∙ ap (λ (b : Bool). answer b c.self.inside.memory c.args.layout c.args.position) c.uses_tables-tables.ensures
    ∙ ap (λ (v : Holdings). answer (uses_tables v.registers) v.memory c.args.layout c.args.position) c.self.view_is in
    found_bad_index d.made d.memory d.disk f c.args.queue c.args.layout c.args.position (found (uses_tables d.registers) d.memory c.args.layout c.args.position) told

pub returns-in-Bad-Chain-clause-plan : goal.returns-in-Bad-Chain-clause-plan
returns-in-Bad-Chain-clause-plan c = λ f frames.
    let d : Holdings = c.args.self.now in
    let told : Bad BrokenChain ≡ answer (uses_tables d.registers) d.memory c.args.layout c.args.position = sym (c.in-Bad-Chain.is ∙ ap Bad c.in-Bad-Chain.field-0-is) ∙ c.in_ok-chain.ensures.answer
    ∙ ap (λ (b : Bool). answer b c.self.inside.memory c.args.layout c.args.position) c.uses_tables-tables.ensures
    ∙ ap (λ (v : Holdings). answer (uses_tables v.registers) v.memory c.args.layout c.args.position) c.self.view_is in
    found_bad_chain d.made d.memory d.disk f c.args.queue c.args.layout c.args.position (found (uses_tables d.registers) d.memory c.args.layout c.args.position) told
