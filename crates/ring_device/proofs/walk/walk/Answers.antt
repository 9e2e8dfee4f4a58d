use Rattle.std.proofs.Common.{◌≡◌, Option, sym, ap, ◌∙◌}
use Rattle.std.proofs.lemmas.Result.{IfOk-weaker}
use Rattle.ring_device.specs.Buffers.{Buffers, chain_buffers}
use Rattle.ring_device.specs.Follow.{reached, named_walked, under_head}
use Rattle.ring_device.specs.declared.walk.End.{End}
use Rattle.ring_device.specs.declared.walk.End.TheVariants.{Names}
use Rattle.ring_device.proofs.Walked.{ring_walked, chain_inside, found_inside}
use Rattle.ring_device.proofs.walk.walk.Goals as goal

pub returns-in-Last-clause-chain : goal.returns-in-Last-clause-chain
returns-in-Last-clause-chain c =
    ap (λ (e : End). under_head c.walk_table.new.chain.head (reached (named_walked c.args.indirect c.args.mem.now) e c.walk_table.new.chain.parts)) (sym c.in-Last.is)
    ∙ ring_walked c.args.indirect c.args.mem.now c.args.layout.now c.args.pos c.head_at_position-head.result c.new-chain.result c.walk_table.new.chain c.of_ring.result c.in_ok-walk_table.field-0
    c.head_at_position-head.ensures c.new-chain.ensures c.of_ring.ensures.value c.in_ok-walk_table.ensures.reached c.in_ok-walk_table.ensures.head

pub returns-in-Last-clause-inside : goal.returns-in-Last-clause-inside
returns-in-Last-clause-inside c = chain_inside c.args.indirect c.args.mem.now c.args.layout.now c.args.pos c.walk_table.new.chain (returns-in-Last-clause-chain c)

pub returns-in-Names-clause-chain : goal.returns-in-Names-clause-chain
returns-in-Names-clause-chain c =
    let here : under_head c.walk_table.new.chain.head (reached (named_walked c.args.indirect c.args.mem.now) (Names c.in-Names.part) c.walk_table.new.chain.parts) ≡ chain_buffers c.args.indirect c.args.mem.now c.args.layout.now c.args.pos
    = ap (λ (e : End). under_head c.walk_table.new.chain.head (reached (named_walked c.args.indirect c.args.mem.now) e c.walk_table.new.chain.parts)) (sym c.in-Names.is)
    ∙ ring_walked c.args.indirect c.args.mem.now c.args.layout.now c.args.pos c.head_at_position-head.result c.new-chain.result c.walk_table.new.chain c.of_ring.result c.in_ok-walk_table.field-0
    c.head_at_position-head.ensures c.new-chain.ensures c.of_ring.ensures.value c.in_ok-walk_table.ensures.reached c.in_ok-walk_table.ensures.head in
    IfOk-weaker c.walk_named.result _ _ (λ (o : Option Buffers) e. e ∙ here) c.walk_named.ensures

pub returns-in-Names-clause-inside : goal.returns-in-Names-clause-inside
returns-in-Names-clause-inside c = IfOk-weaker c.walk_named.result _ _ (λ (o : Option Buffers) e. found_inside c.args.indirect c.args.mem.now c.args.layout.now c.args.pos o e) (returns-in-Names-clause-chain c)

pub returns-in-Broken-clause-chain : goal.returns-in-Broken-clause-chain
returns-in-Broken-clause-chain c =
    ap (λ (e : End). under_head c.walk_table.new.chain.head (reached (named_walked c.args.indirect c.args.mem.now) e c.walk_table.new.chain.parts)) (sym c.in-Broken.is)
    ∙ ring_walked c.args.indirect c.args.mem.now c.args.layout.now c.args.pos c.head_at_position-head.result c.new-chain.result c.walk_table.new.chain c.of_ring.result c.in_ok-walk_table.field-0
    c.head_at_position-head.ensures c.new-chain.ensures c.of_ring.ensures.value c.in_ok-walk_table.ensures.reached c.in_ok-walk_table.ensures.head
