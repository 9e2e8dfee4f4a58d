use Rattle.std.proofs.Common.{◌-◌, sym, ◌∙◌}
use Rattle.ring_device.proofs.Pairs.{no_first, not_first, no_second, not_second, pair_is, two_at_least}
use Rattle.ring_device.proofs.pair.pair_at.Goals as goal

pub returns-in_default-clause-pair : goal.returns-in_default-clause-pair
returns-in_default-clause-pair c =
    no_first c.args.mem.now c.args.layout.now c.args.pos c.head_at_position-head.result (c.args.layout.now.size - 2) c.head_at_position-head.ensures (two_at_least c.args.layout.now.size c.requires.size) c.in_default.ensures

pub returns-then-not-is_first-clause-pair : goal.returns-then-not-is_first-clause-pair
returns-then-not-is_first-clause-pair c =
    not_first c.args.mem.now c.args.layout.now c.args.pos c.head_at_position-head.result (c.args.layout.now.size - 2) c.head_at_position-head.ensures (two_at_least c.args.layout.now.size c.requires.size)
    c.in-Some.first c.in-Some.ensures (sym c.is_first.ensures ∙ c.if-not-is_first.true)

pub returns-in_default-buffer_at-clause-pair : goal.returns-in_default-buffer_at-clause-pair
returns-in_default-buffer_at-clause-pair c =
    no_second c.args.mem.now c.args.layout.now c.args.pos c.head_at_position-head.result (c.args.layout.now.size - 2) c.head_at_position-head.ensures (two_at_least c.args.layout.now.size c.requires.size)
    c.in-Some.first c.in-Some.ensures (sym c.is_first.ensures ∙ c.if-not-is_first.false) c.in_default-buffer_at.ensures

pub returns-then-not-is_second-clause-pair : goal.returns-then-not-is_second-clause-pair
returns-then-not-is_second-clause-pair c =
    not_second c.args.mem.now c.args.layout.now c.args.pos c.head_at_position-head.result (c.args.layout.now.size - 2) c.head_at_position-head.ensures (two_at_least c.args.layout.now.size c.requires.size)
    c.in-Some.first c.in-Some.ensures (sym c.is_first.ensures ∙ c.if-not-is_first.false) c.in-Some-buffer_at.second c.in-Some-buffer_at.ensures (sym c.is_second.ensures ∙ c.if-not-is_second.true)

pub returns-clause-pair : goal.returns-clause-pair
returns-clause-pair c =
    pair_is c.args.mem.now c.args.layout.now c.args.pos c.head_at_position-head.result (c.args.layout.now.size - 2) c.head_at_position-head.ensures (two_at_least c.args.layout.now.size c.requires.size)
    c.in-Some.first c.in-Some.ensures (sym c.is_first.ensures ∙ c.if-not-is_first.false) c.in-Some-buffer_at.second c.in-Some-buffer_at.ensures (sym c.is_second.ensures ∙ c.if-not-is_second.false)
