use Rattle.std.proofs.Common.{◌≡◌, false, length, List, sym, ap, arith}
use Rattle.member_core.specs.declared.queues.QueueFacts.{QueueFacts}
use Rattle.member_core.specs.Queues.{tells_queues}
use Rattle.member_core.proofs.QueueSteps.{both_untold}
use Rattle.member_core.proofs.state.State.note_queues.Goals as goal

pub returns-then-not-tells_queues : goal.returns-then-not-tells_queues
returns-then-not-tells_queues c = λ who.
    let s = c.args.self.now in
    let two : length s.queues ≡ 2 = omega arith in
    let quiet : tells_queues c.args.call.now ≡ false = sym c.if-not-tells_queues.ensures in
    ap (λ (queues : List QueueFacts). record s { queues = queues }) (both_untold s.device.made.kind c.args.selected who c.args.call.now c.args.reply.now s.queues two quiet)
