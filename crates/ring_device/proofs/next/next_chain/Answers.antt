use Rattle.std.proofs.Common.{◌∙◌, sym, arith}
use Rattle.ring_device.proofs.Told.{answers_empty, answers_index, answers_chain, answers_broken}
use Rattle.ring_device.proofs.next.next_chain.Goals as goal

pub returns-then-gap-eq0-clause-answer : goal.returns-then-gap-eq0-clause-answer
returns-then-gap-eq0-clause-answer c = answers_empty c.args.indirect c.args.mem.now c.args.layout.now c.args.pos (sym c.gap-gap.ensures ∙ c.if-gap-eq0.true)

pub returns-then-gap-layout-clause-answer : goal.returns-then-gap-layout-clause-answer
returns-then-gap-layout-clause-answer c = answers_index c.args.indirect c.args.mem.now c.args.layout.now c.args.pos (λ h. c.if-gap-eq0.false (c.gap-gap.ensures ∙ h)) (omega (arith, c.gap-gap.ensures))

pub returns-in-Some-clause-answer : goal.returns-in-Some-clause-answer
returns-in-Some-clause-answer c =
    answers_chain c.args.indirect c.args.mem.now c.args.layout.now c.args.pos c.in-Some.chain (λ h. c.if-gap-eq0.false (c.gap-gap.ensures ∙ h)) (omega (arith, c.gap-gap.ensures)) (sym c.in-Some.is ∙ c.in_ok-chain.ensures.chain)

pub returns-in-None-clause-answer : goal.returns-in-None-clause-answer
returns-in-None-clause-answer c =
    answers_broken c.args.indirect c.args.mem.now c.args.layout.now c.args.pos (λ h. c.if-gap-eq0.false (c.gap-gap.ensures ∙ h)) (omega (arith, c.gap-gap.ensures)) (sym c.in-None.is ∙ c.in_ok-chain.ensures.chain)
