use Rattle.std.proofs.Common.{◌≡◌, ◌+◌, ◌-◌, ◌<◌, ◌≤◌, ◌∷◌, ◌++◌, [], ℕ, List, Option, None, Some, true, false, All, map, sym, ◌∙◌, ap, subst, arith}
use Rattle.std.specs.Prelude.{slice_set, filter}
use Rattle.std.proofs.lemmas.List.{map-append}
use Rattle.std.proofs.lemmas.List.Elements.{All-push}
use Rattle.std.proofs.lemmas.Option.{slice_get_within}
use Rattle.history.specs.Limits.{actor_limit}
use Rattle.journal.specs.Lines.{numbers}
use Rattle.group_cells.specs.Shared.{Sites, KeySet}
use Rattle.group_cells.specs.Ring.{Ring, Floors}
use Rattle.group_cells.specs.Opening.{AreHome}
use Rattle.thread_run.specs.declared.job.Job.{Job}
use Rattle.thread_run.specs.Jobs.{IsReady, IsNewJob}
use Rattle.thread_run.specs.Homes.{acts}
use Rattle.thread_run.proofs.Order.{more_where, no_more_where, in_order}
use Rattle.thread_run.proofs.Leaving.{AreTakenBelow, home_on, home_left, taken_on, taken_left}
use Rattle.thread_run.proofs.starting.new_jobs.Goals.{then-acts+in_ok-job+in_ok-push, else-acts}
use Rattle.thread_run.proofs.starting.new_jobs.Goals as goal

pub new_job-requires-clause-home : goal.new_job-requires-clause-home
new_job-requires-clause-home c = subst (λ (g : Sites). AreHome g c.loop-who.who c.loop-who.ring.keys) (sym c.loop-who.invariant.group) c.loop-who.invariant.home

pub loop-who-preserved : goal.loop-who-preserved
loop-who-preserved c =
    let s = c.args.script.now in
    let g = c.args.ring.now.group in
    let f = c.args.ring.now.floors in
    let l = c.loop-who in
    let i = l.invariant in
    let r = c.if-acts.ring in
    let jobs = c.if-acts.jobs.items in
    let some : 1 ≤ l.who = omega arith in
    elim c.if-acts.branch [
      | then-acts+in_ok-job+in_ok-push w ↦
          let job : Job = w.in_ok-job.job in
          let ring : r ≡ record { group = l.ring.group; keys = slice_set l.ring.keys l.who None; floors = l.ring.floors } = w.ring-is ∙ w.in_ok-job.ensures.ring in
          let pushed : jobs ≡ l.jobs.items ++ job ∷ [] = ap (λ v. v.items) w.jobs-is ∙ w.in_ok-push.ensures.items in
          let keys : r.keys ≡ slice_set l.ring.keys l.who None = ap (λ (z : Ring). z.keys) ring in
          let number : job.keys.who ≡ l.who = w.in_ok-job.ensures.new.number in
          let ready = subst (λ (h : Sites). IsReady s h job.actor job.keys) i.group w.in_ok-job.ensures.ready in
          let new = subst (λ (p : Floors × ℕ). IsNewJob s p.0 p.1 job.actor job.keys) (λ t. (i.floors t, sym number t)) w.in_ok-job.ensures.new in
          let below : l.who < actor_limit = omega (arith, c.loop-who-test.true) in
          let acting : acts s l.who ≡ true = sym c.acts.ensures ∙ w.if-acts.true in
          let home = i.home l.who (omega arith) below in
          record {
            group = ap (λ (z : Ring). z.group) ring ∙ i.group;
            floors = ap (λ (z : Ring). z.floors) ring ∙ i.floors;
            home = subst (λ (ks : List (Option KeySet)). AreHome g (l.who + 1) ks) (sym keys) (home_left g l.who l.ring.keys i.home);
            ready = subst (All (λ (j : Job). IsReady s g j.actor j.keys)) (sym pushed) (All-push (λ (j : Job). IsReady s g j.actor j.keys) l.jobs.items job i.ready ready);
            order = ap (map (λ (j : Job). j.keys.who)) pushed ∙ (map-append (λ (j : Job). j.keys.who) l.jobs.items (job ∷ []) ∙ ((λ t. i.order t ++ number t ∷ []) ∙ sym (more_where (acts s) l.who some acting)));
            unused = subst (All (λ (j : Job). IsNewJob s f j.keys.who j.actor j.keys)) (sym pushed) (All-push (λ (j : Job). IsNewJob s f j.keys.who j.actor j.keys) l.jobs.items job i.unused new);
            taken = subst (λ (ks : List (Option KeySet)). AreTakenBelow s c.args.ring.now.keys (l.who + 1) ks) (sym keys) (taken_left s c.args.ring.now.keys l.who l.ring.keys (slice_get_within l.ring.keys l.who (Some home.0) home.1) acting i.taken);
          }
      | else-acts w ↦
          let ring : r ≡ l.ring = w.ring-is in
          let same : jobs ≡ l.jobs.items = ap (λ v. v.items) w.jobs-is in
          let keys : r.keys ≡ l.ring.keys = ap (λ (z : Ring). z.keys) ring in
          let idle : acts s l.who ≡ false = sym c.acts.ensures ∙ w.if-acts.false in
          record {
            group = ap (λ (z : Ring). z.group) ring ∙ i.group;
            floors = ap (λ (z : Ring). z.floors) ring ∙ i.floors;
            home = subst (λ (ks : List (Option KeySet)). AreHome g (l.who + 1) ks) (sym keys) (home_on g l.who l.ring.keys i.home);
            ready = subst (All (λ (j : Job). IsReady s g j.actor j.keys)) (sym same) i.ready;
            order = ap (map (λ (j : Job). j.keys.who)) same ∙ (i.order ∙ sym (no_more_where (acts s) l.who some idle));
            unused = subst (All (λ (j : Job). IsNewJob s f j.keys.who j.actor j.keys)) (sym same) i.unused;
            taken = subst (λ (ks : List (Option KeySet)). AreTakenBelow s c.args.ring.now.keys (l.who + 1) ks) (sym keys) (taken_on s c.args.ring.now.keys l.who l.ring.keys idle i.taken);
          }
    ]

pub returns-clause-order : goal.returns-clause-order
returns-clause-order c =
    let s = c.args.script.now in
    let last : c.loop-who.who - 1 ≡ actor_limit - 1 = omega arith in
    c.loop-who.invariant.order ∙ (ap (λ (n : ℕ). filter (acts s) (numbers 1 n)) last ∙ in_order s c.queues-queues.ensures.bounds)
