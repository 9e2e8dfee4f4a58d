use Rattle.std.proofs.Common.{cond, sym, ap, ◌∙◌}
use Rattle.member_core.specs.Queues.{first_facts, goes_on}
use Rattle.member_core.proofs.queues.QueueFacts.after.Goals as goal

pub returns-then-begins : goal.returns-then-begins
returns-then-begins c = λ who.
    c.new.ensures
    ∙ sym (ap (λ b. cond b first_facts (goes_on c.args.kind.now c.args.queue (record { who = who; call = c.args.call.now; reply = c.args.reply.now }) c.args.self)) (sym (c.begins.ensures who) ∙ c.if-begins.true))

pub returns-else-begins : goal.returns-else-begins
returns-else-begins c = λ who.
    c.continued.ensures who
    ∙ sym (ap (λ b. cond b first_facts (goes_on c.args.kind.now c.args.queue (record { who = who; call = c.args.call.now; reply = c.args.reply.now }) c.args.self)) (sym (c.begins.ensures who) ∙ c.if-begins.false))
