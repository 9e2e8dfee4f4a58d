use Rattle.std.proofs.Common.{◌≡◌, ◌-◌, ◌≤◌, max, length}
use Rattle.std.specs.Io.KnownBytes.{Consumes}
use Rattle.group_board.specs.Limits.{text_limit, transfer_limit}
use Rattle.group_board.proofs.reading.read_text.Given as goal

-- the text is what was taken
abbrev pub invariant-reading : goal.invariant-reading
invariant-reading g l = record {
  length_is : l.length ≡ length l.text;
  within : l.length ≤ text_limit;
  taken : Consumes (g.R.Source.left l.fn.source) (g.R.Source.left l.source) l.text;
  faults : g.R.Source.faults l.source ≡ g.R.Source.faults l.fn.source;
  widest : g.R.Source.widest l.source ≤ max (g.R.Source.widest l.fn.source) transfer_limit;
  piece : length l.piece ≡ transfer_limit;
}

abbrev pub decreases-reading : goal.decreases-reading
decreases-reading g l = text_limit - l.length
