use Rattle.std.proofs.Common.{◌≡◌, ◌<◌, List, ℕ, length, sym, ap, ◌∙◌, arith}
use Rattle.group_calls.specs.Steps.{service}
use Rattle.lone_device.specs.Seen.{waiting}
use Rattle.lone_device.proofs.Stages.{receive_is_empty, receive_is_dropped, receive_is_served}
use Rattle.lone_device.proofs.stored.Stored.receive_step.Goals as goal

pub returns-then-count-eq0-clause-told : goal.returns-then-count-eq0-clause-told
returns-then-count-eq0-clause-told c = λ f q.
    let d = c.args.self.now in
    receive_is_empty d.memory d.disk f q c.args.layout c.args.chain.parts (waiting c.args.frames.now) (sym c.count.ensures ∙ c.if-count-eq0.true)

pub returns-then-writable-as_slice-clause-told : goal.returns-then-writable-as_slice-clause-told
returns-then-writable-as_slice-clause-told c = λ f q.
    let d = c.args.self.now in
    let counted : c.count.result ≡ length (waiting c.args.frames.now) = c.count.ensures in
    let some : 0 < length (waiting c.args.frames.now) = omega arith in
    let bytes = ap length (c.as_slice.ensures ∙ c.in_ok-reply.ensures) in
    receive_is_dropped d.memory d.disk f q c.args.layout c.args.chain.parts (waiting c.args.frames.now) c.writable.result some c.writable.ensures.value (omega arith)

pub returns-clause-told : goal.returns-clause-told
returns-clause-told c = λ f q.
    let d = c.args.self.now in
    let counted : c.count.result ≡ length (waiting c.args.frames.now) = c.count.ensures in
    let some : 0 < length (waiting c.args.frames.now) = omega arith in
    let bytes = ap length (c.as_slice.ensures ∙ c.in_ok-reply.ensures) in
    ap (λ (sent : List ℕ). service d.memory f q c.args.layout c.args.chain.parts c.in_ok-reply.reply d.disk sent) c.new.ensures
    ∙ receive_is_served d.memory d.disk f q c.args.layout c.args.chain.parts (waiting c.args.frames.now) c.in_ok-reply.reply c.writable.result some c.in_ok-reply.ensures c.writable.ensures.value (omega arith)
