use Rattle.std.proofs.Common.{◌≡◌, length, Some, refl, sym, ap, ◌∙◌, subst}
use Rattle.std.specs.Prelude.{IfOk}
use Rattle.ring_layout.specs.Layout.{legacy_layout}
use Rattle.legacy_regs.specs.Registers.{page_number, member_ring_size}
use Rattle.group_calls.specs.Facts.{Facts}
use Rattle.group_calls.specs.Steps.{Outcome}
use Rattle.member_device.specs.Device.{Holdings}
use Rattle.member_device.specs.Plan.{planned, facts_of}
use Rattle.member_device.proofs.Outcomes.{outcome_idle, outcome_without_frame, outcome_without_ring, outcome_with_ring}
use Rattle.member_device.proofs.device.Device.plan.Goals as goal

pub returns-then-is_idle-clause-plan : goal.returns-then-is_idle-clause-plan
returns-then-is_idle-clause-plan c =
    let d : Holdings = c.args.self.now in
    outcome_idle d.made d.memory d.disk (facts_of d c.args.position c.args.pending) c.args.queue c.if-is_idle.ensures

pub returns-then-lacks_frame-clause-plan : goal.returns-then-lacks_frame-clause-plan
returns-then-lacks_frame-clause-plan c =
    let d : Holdings = c.args.self.now in
    outcome_without_frame d.made d.memory d.disk (facts_of d c.args.position c.args.pending) c.args.queue c.if-is_idle.ensures c.if-lacks_frame.ensures

pub returns-in-Some-clause-plan : goal.returns-in-Some-clause-plan
returns-in-Some-clause-plan c =
    let d : Holdings = c.args.self.now in
    let f : Facts = facts_of d c.args.position c.args.pending in
    let page : c.address.result ≡ page_number d.registers c.args.queue = c.address.ensures ∙ ap (λ (v : Holdings). page_number v.registers c.args.queue) c.self.view_is in
    let size : c.length.result ≡ length d.memory = c.length.ensures.length ∙ ap (λ (v : Holdings). length v.memory) c.self.view_is in
    let layout : Some c.in-Some.layout ≡ legacy_layout c.address.result member_ring_size c.length.result = sym c.in-Some.is ∙ c.legacy.ensures.value in
    subst (λ (o : Outcome). IfOk c.plan_ring.result (λ plan. planned d f c.args.queue plan ≡ o))
    (outcome_with_ring d.made d.memory d.disk f c.args.queue c.if-is_idle.ensures c.if-lacks_frame.ensures c.address.result c.length.result page size c.in-Some.layout layout)
    (c.plan_ring.ensures.plan f refl)

pub returns-in-None-clause-plan : goal.returns-in-None-clause-plan
returns-in-None-clause-plan c =
    let d : Holdings = c.args.self.now in
    let page : c.address.result ≡ page_number d.registers c.args.queue = c.address.ensures ∙ ap (λ (v : Holdings). page_number v.registers c.args.queue) c.self.view_is in
    let size : c.length.result ≡ length d.memory = c.length.ensures.length ∙ ap (λ (v : Holdings). length v.memory) c.self.view_is in
    outcome_without_ring d.made d.memory d.disk (facts_of d c.args.position c.args.pending) c.args.queue c.if-is_idle.ensures c.if-lacks_frame.ensures c.address.result c.length.result page size
    (sym c.in-None.is ∙ c.legacy.ensures.value)
