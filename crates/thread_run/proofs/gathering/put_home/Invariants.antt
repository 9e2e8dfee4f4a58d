use Rattle.std.proofs.Common.{◌≡◌, ◌+◌, ◌≤◌, ◌++◌, length, map, All, vec_len, vec_capacity}
use Rattle.group_cells.specs.Shared.{IsKeySetOf}
use Rattle.thread_run.specs.Homes.{with_homes}
use Rattle.thread_run.proofs.gathering.put_home.Given as goal

abbrev pub decreases-loop-jobs : goal.decreases-loop-jobs
decreases-loop-jobs l = vec_len l.jobs

abbrev pub invariant-loop-jobs : goal.invariant-loop-jobs
invariant-loop-jobs l = record {
  group : l.ring.group ≡ l.initial.ring.group;
  of : All (λ job. IsKeySetOf l.initial.ring.group job.keys) l.jobs.items;
  home : with_homes l.jobs.items l.ring ≡ with_homes l.initial.jobs.items l.initial.ring;
  room : length l.actors.items + length l.jobs.items ≤ vec_capacity l.actors;
  actors : l.actors.items ++ map (λ job. job.actor) l.jobs.items ≡ map (λ job. job.actor) l.initial.jobs.items;
}
