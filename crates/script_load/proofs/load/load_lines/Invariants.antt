use Rattle.std.proofs.Common.{◌≡◌, ◌+◌, ◌-◌, ◌++◌}
use Rattle.script_load.specs.Loaded.{loaded_lines}
use Rattle.script_load.proofs.load.load_lines.Given as goal

abbrev pub invariant-lines : goal.invariant-lines
invariant-lines l = l.lines.items ++ loaded_lines (l.count - l.index) (6 + l.index) l.state ≡ loaded_lines l.count 6 l.seed
