use Rattle.std.proofs.Common.{◌≡◌, sym, ap, ◌∙◌}
use Rattle.group_calls.specs.declared.member.MemberCall.{MemberCall}
use Rattle.group_calls.specs.declared.member.MemberCall.TheVariants.{Step}
use Rattle.member_core.specs.Queues.{goes_on}
use Rattle.member_core.proofs.queues.QueueFacts.continued.Goals as goal

pub returns-then-stepped-queue : goal.returns-then-stepped-queue
returns-then-stepped-queue c = λ who.
    let call : c.args.call.now ≡ Step c.args.queue = c.in-Step.is ∙ ap Step c.if-stepped-queue.true in
    c.stepped.ensures c.args.kind.now c.args.queue who
    ∙ ap (λ (x : MemberCall). goes_on c.args.kind.now c.args.queue (record { who = who; call = x; reply = c.args.reply.now }) c.args.self) (sym call)
