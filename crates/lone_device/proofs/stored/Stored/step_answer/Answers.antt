use Rattle.std.proofs.Common.{◌≡◌, sym, ap, ◌∙◌}
use Rattle.group_calls.specs.Steps.{outcome_reply}
use Rattle.lone_device.specs.declared.service.Outcome.TheVariants.{Serves}
use Rattle.lone_device.specs.Seen.{seen_facts}
use Rattle.lone_device.specs.Service.{as_outcome, does}
use Rattle.lone_device.proofs.Storing.{service_reply}
use Rattle.lone_device.proofs.stored.Stored.step_answer.Goals as goal

pub returns-in-Serves : goal.returns-in-Serves
returns-in-Serves c =
    let d = c.args.self.now in
    let s = c.args.seen.now in
    let f = seen_facts s in
    let told : as_outcome d.memory d.disk f c.args.queue (Serves c.in-Serves.service) ≡ does d s c.args.queue = ap (as_outcome d.memory d.disk f c.args.queue) (sym c.in-Serves.is) ∙ c.in_ok-reply.ensures.told in
    c.served.ensures ∙ service_reply d.memory d.disk f c.args.queue c.in-Serves.service ∙ ap outcome_reply told
