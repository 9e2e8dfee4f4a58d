use Rattle.std.proofs.Common.{◌≡◌, ◌+◌, ◌≤◌, drop}
use Rattle.history.specs.Look.{count}
use Rattle.load_run.specs.Load.{is_read}
use Rattle.load_run.proofs.counts.reads.Given as goal

-- those of the lines that are left complete the number
abbrev pub invariant-lines : goal.invariant-lines
invariant-lines l = record {
  counted : count is_read l.script.lines ≡ l.reads + count is_read (drop l.index l.script.lines);
  few : l.reads ≤ l.index;
}
