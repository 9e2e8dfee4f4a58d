use Rattle.std.proofs.Common.{◌≡◌, Some, ◌∙◌, ap}
use Rattle.blk_engine.specs.Parsed.{parsed}
use Rattle.blk_engine.proofs.Serving.{answers, put_is}
use Rattle.blk_engine.proofs.service.plan.Goals as goal

pub returns-clause-answer : goal.returns-clause-answer
returns-clause-answer c =
    let is : Some c.in-Some.asked ≡ parsed c.args.request.now c.args.writable = c.in-Some.ensures ∙ ap (λ r. parsed r c.args.writable) c.as_slice.ensures in
    answers c.args.request.now c.args.writable c.in-Some.asked is c.args.read_only c.args.disk.now c.args.member c.status-status.result c.in_ok-reply.reply
    (rw c.capacity.ensures at c.status-status.ensures) c.in_ok-reply.ensures.bytes

pub returns-clause-put : goal.returns-clause-put
returns-clause-put c =
    let is : Some c.in-Some.asked ≡ parsed c.args.request.now c.args.writable = c.in-Some.ensures ∙ ap (λ r. parsed r c.args.writable) c.as_slice.ensures in
    put_is c.args.request.now c.args.writable c.in-Some.asked is c.args.read_only c.args.disk.now c.status-status.result c.put_at.result
    (rw c.capacity.ensures at c.status-status.ensures) c.put_at.ensures
