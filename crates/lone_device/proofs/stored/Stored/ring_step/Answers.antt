use Rattle.std.proofs.Common.{◌≡◌, ℕ, Bool, sym, ap, ◌∙◌, subst}
use Rattle.std.specs.Prelude.{IfOk}
use Rattle.ring_layout.specs.Chain.{found}
use Rattle.ring_device.specs.Answer.{answer}
use Rattle.ring_device.specs.declared.next.Found.TheVariants.{Chain, Empty, Bad}
use Rattle.ring_device.specs.declared.next.Bad.TheVariants.{Index, Chain as BrokenChain}
use Rattle.legacy_regs.specs.Registers.{uses_tables}
use Rattle.group_calls.specs.Steps.{Outcome}
use Rattle.lone_device.specs.Seen.{seen_facts}
use Rattle.lone_device.specs.Service.{as_outcome}
use Rattle.lone_device.proofs.Found.{found_chain, found_nothing, found_bad_index, found_bad_chain}
use Rattle.lone_device.proofs.stored.Stored.ring_step.Goals as goal

pub returns-in-Chain-clause-told : goal.returns-in-Chain-clause-told
returns-in-Chain-clause-told c =
    let d = c.args.self.now in
    let f = seen_facts c.args.seen.now in
    let p : ℕ = f.position c.args.queue in
    let tables : Bool = uses_tables f.registers in
    let told : Chain c.in-Chain.chain ≡ answer tables d.memory c.args.layout p = sym c.in-Chain.is ∙ c.in_ok-chain.ensures.answer ∙ (λ i. answer (c.uses_tables-indirect.ensures i) d.memory c.args.layout (c.queue-position.ensures i).position) in
    subst (λ (o : Outcome). IfOk c.chain_step.result (λ outcome. as_outcome d.memory d.disk f c.args.queue outcome ≡ o))
    (found_chain d.made d.memory d.disk f c.args.queue c.args.layout p (found tables d.memory c.args.layout p) c.in-Chain.chain told)
    c.chain_step.ensures.told

pub returns-in-Empty-clause-told : goal.returns-in-Empty-clause-told
returns-in-Empty-clause-told c =
    let d = c.args.self.now in
    let f = seen_facts c.args.seen.now in
    let p : ℕ = f.position c.args.queue in
    let tables : Bool = uses_tables f.registers in
    let told : Empty ≡ answer tables d.memory c.args.layout p = sym c.in-Empty.is ∙ c.in_ok-chain.ensures.answer ∙ (λ i. answer (c.uses_tables-indirect.ensures i) d.memory c.args.layout (c.queue-position.ensures i).position) in
    found_nothing d.made d.memory d.disk f c.args.queue c.args.layout p (found tables d.memory c.args.layout p) told

pub returns-in-Bad-Index-clause-told : goal.returns-in-Bad-Index-clause-told
returns-in-Bad-Index-clause-told c =
    let d = c.args.self.now in
    let f = seen_facts c.args.seen.now in
    let p : ℕ = f.position c.args.queue in
    let tables : Bool = uses_tables f.registers in
    let told : Bad Index ≡ answer tables d.memory c.args.layout p =
    sym (c.in-Bad-Index.is ∙ ap Bad c.in-Bad-Index.field-0-is) ∙ c.in_ok-chain.ensures.answer ∙ (λ i. answer (c.uses_tables-indirect.ensures i) d.memory c.args.layout (c.queue-position.ensures i).position) in
    found_bad_index d.made d.memory d.disk f c.args.queue c.args.layout p (found tables d.memory c.args.layout p) told

pub returns-in-Bad-Chain-clause-told : goal.returns-in-Bad-Chain-clause-told
returns-in-Bad-Chain-clause-told c =
    let d = c.args.self.now in
    let f = seen_facts c.args.seen.now in
    let p : ℕ = f.position c.args.queue in
    let tables : Bool = uses_tables f.registers in
    let told : Bad BrokenChain ≡ answer tables d.memory c.args.layout p =
    sym (c.in-Bad-Chain.is ∙ ap Bad c.in-Bad-Chain.field-0-is) ∙ c.in_ok-chain.ensures.answer ∙ (λ i. answer (c.uses_tables-indirect.ensures i) d.memory c.args.layout (c.queue-position.ensures i).position) in
    found_bad_chain d.made d.memory d.disk f c.args.queue c.args.layout p (found tables d.memory c.args.layout p) told
