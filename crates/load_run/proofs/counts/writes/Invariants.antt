use Rattle.std.proofs.Common.{◌≡◌, ◌+◌, ◌≤◌, drop}
use Rattle.history.specs.Look.{count}
use Rattle.load_run.specs.Load.{is_write}
use Rattle.load_run.proofs.counts.writes.Given as goal

-- those of the lines that are left complete the number
abbrev pub invariant-lines : goal.invariant-lines
invariant-lines l = record {
  counted : count is_write l.script.lines ≡ l.writes + count is_write (drop l.index l.script.lines);
  few : l.writes ≤ l.index;
}
