use Rattle.std.proofs.Common.{refl, ap, subst, inr}
use Rattle.group_cells.specs.Shared.{IsKeySetOf}
use Rattle.group_cells.specs.Ring.{Ring}
use Rattle.thread_run.proofs.Starts.{new_job}
use Rattle.thread_run.proofs.starting.new_job.Goals as goal

pub returns-clause-ready : goal.returns-clause-ready
returns-clause-ready c =
    let t = c.in-Some.ensures.taken in
    let r = c.args.ring.now in
    let n = c.in_ok-actor.ensures in
    let of = subst (λ g. IsKeySetOf g c.in-Some.keys) (ap (λ (z : Ring). z.group) t.3) c.in-Some.ensures.group.1 in
    (new_job c.args.script.now r.group r.keys r.floors c.args.who c.in_ok-actor.actor c.in-Some.keys t.0 c.requires.made c.requires.home c.requires.who t.1 t.2 c.in-Some.ensures.group.0 of n.fits n.who (n.stands (inr refl))).0

pub returns-clause-new : goal.returns-clause-new
returns-clause-new c =
    let t = c.in-Some.ensures.taken in
    let r = c.args.ring.now in
    let n = c.in_ok-actor.ensures in
    let of = subst (λ g. IsKeySetOf g c.in-Some.keys) (ap (λ (z : Ring). z.group) t.3) c.in-Some.ensures.group.1 in
    (new_job c.args.script.now r.group r.keys r.floors c.args.who c.in_ok-actor.actor c.in-Some.keys t.0 c.requires.made c.requires.home c.requires.who t.1 t.2 c.in-Some.ensures.group.0 of n.fits n.who (n.stands (inr refl))).1
