use Rattle.std.proofs.Common.{◌≡◌, ◌∷◌, ◌++◌, [], List, length, map, sym, refl, ◌∙◌, ap, arith, append_assoc, length-append}
use Rattle.std.proofs.lemmas.Option.{slice_get_read}
use Rattle.actor_core.specs.declared.actor.Actor.{Actor}
use Rattle.group_cells.specs.Shared.{IsKeySetOf}
use Rattle.group_cells.specs.Ring.{Ring}
use Rattle.thread_run.specs.declared.job.Job.{Job}
use Rattle.thread_run.specs.Homes.{with_homes}
use Rattle.thread_run.proofs.Lists.{first_rest, rest_of, no_items}
use Rattle.thread_run.proofs.gathering.put_home.Goals as goal

pub loop-jobs-preserved : goal.loop-jobs-preserved
loop-jobs-preserved c =
    let l = c.loop-jobs in
    let i = l.invariant in
    let first : Job = c.remove-actor.result in
    let rest = c.remove-actor.new.self.items in
    let at = slice_get_read l.jobs.items _ 0 c.remove-actor.result refl (omega (arith, c.loop-jobs-test.true, c.len.ensures, l.jobs.ok.0)) c.remove-actor.ensures.value in
    let is : l.jobs.items ≡ first ∷ rest = first_rest l.jobs.items first at ∙ ap (λ (r : List Job). first ∷ r) (sym c.remove-actor.ensures.items) in
    let pushed = c.push_reserved.ensures.items in
    record {
      group = ap (λ (z : Ring). z.group) c.put_back.ensures ∙ i.group;
      of = rest_of (λ (job : Job). IsKeySetOf c.args.ring.now.group job.keys) l.jobs.items rest first is i.of;
      home = ap (with_homes rest) c.put_back.ensures ∙ (ap (λ (js : List Job). with_homes js l.ring) (sym is) ∙ i.home);
      room = (let n = ap length is in let m = ap length pushed in let k = length-append l.actors.items (first.actor ∷ []) in let cap = c.push_reserved.ensures.capacity in let r = i.room in omega (arith, n, m, k, cap, r));
      actors = ap (λ (xs : List Actor). xs ++ map (λ (job : Job). job.actor) rest) pushed ∙ (append_assoc l.actors.items (first.actor ∷ []) (map (λ (job : Job). job.actor) rest) ∙ (ap (λ (js : List Job). l.actors.items ++ map (λ (job : Job). job.actor) js) (sym is) ∙ i.actors));
    }

pub returns-clause-ring : goal.returns-clause-ring
returns-clause-ring c =
    let l = c.loop-jobs in
    let none : l.jobs.items ≡ [] = no_items l.jobs.items (omega (arith, c.loop-jobs-test.false, c.len.ensures, l.jobs.ok.0)) in
    ap (λ (js : List Job). with_homes js l.ring) (sym none) ∙ l.invariant.home
