use Rattle.std.proofs.Common.{length, ap, ◌∙◌}
use Rattle.lone_device.specs.declared.queue.QueueSeen.{QueueSeen}
use Rattle.lone_device.specs.Seen.{seen_facts}
use Rattle.lone_device.proofs.Storing.{service_memory}
use Rattle.lone_device.proofs.stored.Stored.put.Goals as goal

pub returns-in-Some-clause-memory : goal.returns-in-Some-clause-memory
returns-in-Some-clause-memory c =
    let d = c.args.self.now in
    service_memory d.memory d.disk (seen_facts c.args.seen.now) c.args.queue c.args.service.now
    (ap (λ (x : QueueSeen). x.position) c.queue-position.ensures) c.uses_events.ensures (c.head-head.ensures ∙ c.requires.head) (ap length c.as_slice.ensures)
    c.scatter.ensures.written c.put_used.ensures.written c.ask_of_next.ensures.written

pub returns-in_default-clause-memory : goal.returns-in_default-clause-memory
returns-in_default-clause-memory c =
    let d = c.args.self.now in
    service_memory d.memory d.disk (seen_facts c.args.seen.now) c.args.queue c.args.service.now
    (ap (λ (x : QueueSeen). x.position) c.queue-position.ensures) c.uses_events.ensures (c.head-head.ensures ∙ c.requires.head) (ap length c.as_slice.ensures)
    c.scatter.ensures.written c.put_used.ensures.written c.ask_of_next.ensures.written
