use Rattle.std.proofs.Common.{◌≡◌, sym, ◌∙◌, ap, subst, arith, All, rules}
use Rattle.group_cells.specs.Shared.{Sites, IsKeySetOf}
use Rattle.group_cells.specs.Opening.{AreHome}
use Rattle.thread_run.specs.declared.job.Job.{Job}
use Rattle.thread_run.specs.Homes.{with_homes}
use Rattle.thread_run.specs.Through.{AreDone}
use Rattle.thread_run.proofs.Done.{all_done, ends_of}
use Rattle.thread_run.proofs.run.perform_others.Goals.{In_ok-ends}
use Rattle.thread_run.proofs.run.perform_others.Goals as goal

done : (g : _) (c : In_ok-ends g) → AreDone c.args.script.now c.args.group.now c.in_ok-jobs.jobs.items c.in_ok-ends.ends.items
done g c =
    let ends = c.in_ok-ends.ends in
    let jobs = c.in_ok-jobs.jobs in
    all_done _ _ c.args.script.now c.args.group.now (λ job end call. search rules) jobs.items ends.items (omega (arith, c.in_ok-ends.ensures.len, ends.ok.0, jobs.ok.0)) c.in_ok-ends.ensures.each

pub new_jobs-requires-clause-home : goal.new_jobs-requires-clause-home
new_jobs-requires-clause-home g c = subst (λ (g : Sites). AreHome g 1 c.args.ring.now.keys) (sym c.requires.group) c.requires.home

pub put_home-requires-clause-of : goal.put_home-requires-clause-of
put_home-requires-clause-of g c =
    let ends = c.in_ok-ends.ends.items in
    let of = ends_of c.args.script.now c.args.group.now c.in_ok-jobs.jobs.items ends (done g (goal.at.put_home-requires-clause-of g c).In_ok-ends) in
    subst (λ (h : Sites). All (λ (end : Job). IsKeySetOf h end.keys) ends) (sym (c.in_ok-jobs.ensures.group ∙ c.requires.group)) of

pub returns : goal.returns
returns g c =
    let s = c.args.script.now in
    let r = c.args.ring.now in
    let ends = c.in_ok-ends.ends.items in
    let jobs = c.in_ok-jobs.jobs.items in
    let new = c.in_ok-jobs.ensures in
    let ring : c.new_jobs.new.ring ≡ record { group = r.group; keys = c.new_jobs.new.ring.keys; floors = r.floors } = λ i. record { group = new.group i; keys = c.new_jobs.new.ring.keys; floors = new.floors i } in
    record {
      jobs = jobs;
      order = new.order;
      unused = new.unused;
      homes = c.new_jobs.new.ring.keys;
      taken = new.taken;
      ends = ends;
      done = subst (λ (h : Sites). AreDone s h jobs ends) (sym c.requires.group) (done g (goal.at.returns g c).In_ok-ends);
      home = c.put_home.ensures.ring ∙ ap (with_homes ends) ring;
      actors_of = c.put_home.ensures.actors;
    }
