use Rattle.std.proofs.Common.{◌≡◌, ◌-◌, All, map}
use Rattle.std.specs.Prelude.{filter}
use Rattle.journal.specs.Lines.{numbers}
use Rattle.group_cells.specs.Opening.{AreHome}
use Rattle.thread_run.specs.Jobs.{IsReady, IsNewJob}
use Rattle.thread_run.specs.Homes.{acts}
use Rattle.thread_run.proofs.Leaving.{AreTakenBelow}
use Rattle.thread_run.proofs.starting.new_jobs.Given as goal

abbrev pub invariant-loop-who : goal.invariant-loop-who
invariant-loop-who l = record {
  group : l.ring.group ≡ l.initial.ring.group;
  floors : l.ring.floors ≡ l.initial.ring.floors;
  home : AreHome l.initial.ring.group l.who l.ring.keys;
  ready : All (λ job. IsReady l.script l.initial.ring.group job.actor job.keys) l.jobs.items;
  order : map (λ job. job.keys.who) l.jobs.items ≡ filter (acts l.script) (numbers 1 (l.who - 1));
  unused : All (λ job. IsNewJob l.script l.initial.ring.floors job.keys.who job.actor job.keys) l.jobs.items;
  taken : AreTakenBelow l.script l.initial.ring.keys l.who l.ring.keys;
}
