use Rattle.std.proofs.Common.{◌≡◌, ◌+◌, ◌-◌, ◌≤◌, [], length, drop}
use Rattle.board_text.specs.Line.{lines_of}
use Rattle.admin_script.specs.Admin.{with_admin_lines}
use Rattle.admin_script.proofs.read.read_admin.Given as goal

-- the lines that are left, after what the lines so far say, are all lines
abbrev pub invariant-lines : goal.invariant-lines
invariant-lines l = record {
  within : l.from ≤ length l.text;
  number_fits : l.number ≤ l.from + 1;
  so_far : with_admin_lines l.number l.admin (lines_of (drop l.from l.text)) ≡ with_admin_lines 1 [] (lines_of l.text);
}

abbrev pub decreases-lines : goal.decreases-lines
decreases-lines l = length l.text - l.from
