use Rattle.std.proofs.Common.{◌∙◌, sym, arith}
use Rattle.ring_device.proofs.Told.{pairs_empty, pairs_index, pairs_found}
use Rattle.ring_device.proofs.pair.next_pair.Goals as goal

pub returns-then-gap-eq0-clause-answer : goal.returns-then-gap-eq0-clause-answer
returns-then-gap-eq0-clause-answer c = pairs_empty c.args.mem.now c.args.layout.now c.args.pos (sym c.gap-gap.ensures ∙ c.if-gap-eq0.true)

pub returns-then-gap-layout-clause-answer : goal.returns-then-gap-layout-clause-answer
returns-then-gap-layout-clause-answer c = pairs_index c.args.mem.now c.args.layout.now c.args.pos (λ h. c.if-gap-eq0.false (c.gap-gap.ensures ∙ h)) (omega (arith, c.gap-gap.ensures))

pub returns-clause-answer : goal.returns-clause-answer
returns-clause-answer c = pairs_found c.args.mem.now c.args.layout.now c.args.pos c.pair_at.result (λ h. c.if-gap-eq0.false (c.gap-gap.ensures ∙ h)) (omega (arith, c.gap-gap.ensures)) c.pair_at.ensures.pair
