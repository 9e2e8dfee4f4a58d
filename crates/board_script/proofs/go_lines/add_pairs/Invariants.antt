use Rattle.std.proofs.Common.{◌≡◌, length}
use Rattle.board_script.specs.Lines.{with_pairs}
use Rattle.board_script.proofs.go_lines.add_pairs.Given as goal

abbrev pub invariant-pairs : goal.invariant-pairs
invariant-pairs l = record {
  lines : l.draft.lines ≡ l.fn.draft.lines;
  said : with_pairs l.draft l.left ≡ with_pairs l.fn.draft l.fn.words;
}

abbrev pub decreases-pairs : goal.decreases-pairs
decreases-pairs l = length l.left
