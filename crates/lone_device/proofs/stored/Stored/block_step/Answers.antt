use Rattle.std.proofs.Common.{List, ℕ, sym, ap, ◌∙◌}
use Rattle.blk_engine.specs.Block.{stored}
use Rattle.group_calls.specs.Steps.{service}
use Rattle.lone_device.proofs.Stages.{block_is_served, block_is_halted}
use Rattle.lone_device.proofs.stored.Stored.block_step.Goals as goal

pub returns-in-Reply-clause-told : goal.returns-in-Reply-clause-told
returns-in-Reply-clause-told c = λ f q.
    let d = c.args.self.now in
    let ds = c.args.chain.parts in
    ap (λ (sent : List ℕ). service d.memory f q c.args.layout ds c.in-Reply.reply (stored c.in_ok-answer.field-0.put_at c.in_ok-bytes.bytes d.disk) sent) c.new.ensures
    ∙ block_is_served d.made c.args.read_only d.memory d.disk f q c.args.layout ds c.in_ok-bytes.bytes c.writable-writable.result c.in_ok-bytes.ensures.bytes c.writable-writable.ensures.value
    c.in-Reply.reply _ (sym c.in-Reply.is ∙ c.in_ok-answer.ensures.answer) c.in_ok-answer.ensures.put

pub returns-in-Malformed-clause-told : goal.returns-in-Malformed-clause-told
returns-in-Malformed-clause-told c = λ f q.
    let d = c.args.self.now in
    block_is_halted d.made c.args.read_only d.memory d.disk f q c.args.layout c.args.chain.parts c.in_ok-bytes.bytes c.writable-writable.result c.in_ok-bytes.ensures.bytes c.writable-writable.ensures.value
    (sym c.in-Malformed.is ∙ c.in_ok-answer.ensures.answer)
