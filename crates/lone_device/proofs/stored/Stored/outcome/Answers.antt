use Rattle.std.proofs.Common.{◌≡◌, Some, sym, ◌∙◌, subst}
use Rattle.std.specs.Prelude.{IfOk}
use Rattle.ring_layout.specs.Layout.{legacy_layout}
use Rattle.legacy_regs.specs.Registers.{member_ring_size}
use Rattle.group_calls.specs.Steps.{Outcome}
use Rattle.lone_device.specs.Seen.{seen_facts}
use Rattle.lone_device.specs.Service.{as_outcome}
use Rattle.lone_device.proofs.Rings.{outcome_idle, outcome_without_frame, outcome_without_ring, outcome_with_ring}
use Rattle.lone_device.proofs.stored.Stored.outcome.Goals as goal

pub returns-then-is_idle-clause-told : goal.returns-then-is_idle-clause-told
returns-then-is_idle-clause-told c =
    let d = c.args.self.now in
    outcome_idle d.made d.memory d.disk (seen_facts c.args.seen.now) c.args.queue c.if-is_idle.ensures

pub returns-then-lacks_frame-clause-told : goal.returns-then-lacks_frame-clause-told
returns-then-lacks_frame-clause-told c =
    let d = c.args.self.now in
    outcome_without_frame d.made d.memory d.disk (seen_facts c.args.seen.now) c.args.queue c.if-is_idle.ensures c.if-lacks_frame.ensures

pub returns-in-Some-clause-told : goal.returns-in-Some-clause-told
returns-in-Some-clause-told c =
    let d = c.args.self.now in
    let f = seen_facts c.args.seen.now in
    let layout : Some c.in-Some.layout ≡ legacy_layout c.address.result member_ring_size c.length.result = sym c.in-Some.is ∙ c.legacy.ensures.value in
    subst (λ (o : Outcome). IfOk c.ring_step.result (λ outcome. as_outcome d.memory d.disk f c.args.queue outcome ≡ o))
    (outcome_with_ring d.made d.memory d.disk f c.args.queue c.if-is_idle.ensures c.if-lacks_frame.ensures c.address.result c.length.result c.address.ensures c.length.ensures.length c.in-Some.layout layout)
    c.ring_step.ensures.told

pub returns-in-None-clause-told : goal.returns-in-None-clause-told
returns-in-None-clause-told c =
    let d = c.args.self.now in
    let f = seen_facts c.args.seen.now in
    outcome_without_ring d.made d.memory d.disk f c.args.queue c.if-is_idle.ensures c.if-lacks_frame.ensures c.address.result c.length.result c.address.ensures c.length.ensures.length
    (sym c.in-None.is ∙ c.legacy.ensures.value)
