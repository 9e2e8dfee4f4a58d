use Rattle.std.proofs.Common.{◌≡◌, ◌≤◌, length}
use Rattle.history.specs.Places.{before}
use Rattle.group_calls.specs.Queue.{posted}
use Rattle.load_run.proofs.counts.commands_of.Given as goal

-- those of the entries before the place
abbrev pub invariant-entries : goal.invariant-entries
invariant-entries l = record {
  counted : l.posted ≡ length (posted (before l.place l.queue.history));
  few : l.posted ≤ l.place;
}
