use Rattle.std.proofs.Common.{◌≡◌, sym, ap, ◌∙◌}
use Rattle.group_calls.specs.Storage.{memory_left, memory_then}
use Rattle.group_calls.specs.Replay.{disk_left, disk_then}
use Rattle.lone_device.specs.declared.service.Outcome.TheVariants.{Serves}
use Rattle.lone_device.specs.Seen.{seen_facts}
use Rattle.lone_device.specs.Service.{as_outcome, does}
use Rattle.lone_device.proofs.Storing.{service_disk}
use Rattle.lone_device.proofs.stored.Stored.note_call.Goals as goal

pub returns-in-Serves-clause-memory : goal.returns-in-Serves-clause-memory
returns-in-Serves-clause-memory c = λ fits.
    let d = c.args.self.now in
    let s = c.args.seen.now in
    let f = seen_facts s in
    let step = c.in-Step-Served in
    let service = c.in-Serves.service in
    let told : as_outcome d.memory d.disk f step.queue (Serves service) ≡ does d s step.queue = ap (as_outcome d.memory d.disk f step.queue) (sym c.in-Serves.is) ∙ c.in_ok-service-in-Step-Served.ensures.told in
    c.put.ensures.memory
    ∙ ap (memory_left d.memory) told
    ∙ sym (λ i. memory_then (does d s) d.memory (step.is-0 i) (step.is-1 i))

pub returns-in-Serves-clause-disk : goal.returns-in-Serves-clause-disk
returns-in-Serves-clause-disk c =
    let d = c.args.self.now in
    let s = c.args.seen.now in
    let f = seen_facts s in
    let step = c.in-Step-Served in
    let service = c.in-Serves.service in
    let told : as_outcome d.memory d.disk f step.queue (Serves service) ≡ does d s step.queue = ap (as_outcome d.memory d.disk f step.queue) (sym c.in-Serves.is) ∙ c.in_ok-service-in-Step-Served.ensures.told in
    c.put.ensures.disk
    ∙ service_disk d.memory d.disk f step.queue service
    ∙ ap (disk_left d.disk) told
    ∙ sym (λ i. disk_then (does d s) d.disk (step.is-0 i) (step.is-1 i))
