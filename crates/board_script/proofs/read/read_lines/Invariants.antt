use Rattle.std.proofs.Common.{◌≡◌, ◌+◌, ◌-◌, ◌≤◌, length, drop}
use Rattle.board_text.specs.Line.{lines_of}
use Rattle.board_script.specs.SoFar.{nothing, scheduled}
use Rattle.board_script.specs.Script.{with_lines}
use Rattle.board_script.specs.Limits.{turns_limit}
use Rattle.board_script.specs.Shapes.{AreBefore}
use Rattle.board_script.proofs.read.read_lines.Given as goal

-- the lines that are left, after what the lines so far say, are all lines
abbrev pub invariant-lines : goal.invariant-lines
invariant-lines l = record {
  within : l.from ≤ length l.text;
  number_fits : l.number ≤ l.from + 1;
  before : AreBefore l.number l.draft.lines;
  within_limit : scheduled l.draft ≤ turns_limit;
  so_far : with_lines l.used l.number l.draft (lines_of (drop l.from l.text)) ≡ with_lines l.used 1 nothing (lines_of l.text);
}

abbrev pub decreases-lines : goal.decreases-lines
decreases-lines l = length l.text - l.from
