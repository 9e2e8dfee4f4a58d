use Rattle.std.proofs.Common.{◌∙◌}
use Rattle.board_script.proofs.Pairs.{pairs_step}
use Rattle.board_script.proofs.go_lines.add_pairs.Goals as goal

pub pairs-preserved : goal.pairs-preserved
pairs-preserved c = record {
  lines = c.in_default-add_pair.ensures.lines ∙ c.pairs.invariant.lines;
  said = pairs_step c.pairs.draft c.add_pair.new.draft c.in-Some.actor c.in-Some-split.count c.pairs.left c.in-Some.rest c.in-Some-split.rest _ c.in-Some.ensures c.in-Some-split.ensures c.in_default-add_pair.ensures.value
      c.pairs.invariant.said;
}
