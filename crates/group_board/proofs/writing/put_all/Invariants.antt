use Rattle.std.proofs.Common.{◌≡◌, ◌-◌, ◌≤◌, max, length, take}
use Rattle.std.specs.Io.KnownBytes.{Appends}
use Rattle.group_board.specs.Limits.{transfer_limit}
use Rattle.group_board.proofs.writing.put_all.Given as goal

-- the bytes before the place were put
abbrev pub invariant-pieces : goal.invariant-pieces
invariant-pieces g l = record {
  within : l.at ≤ length l.bytes;
  held : Appends (g.W.Sink.held l.fn.sink) (g.W.Sink.held l.sink) (take l.at l.bytes);
  faults : g.W.Sink.faults l.sink ≡ g.W.Sink.faults l.fn.sink;
  widest : g.W.Sink.widest l.sink ≤ max (g.W.Sink.widest l.fn.sink) transfer_limit;
}

abbrev pub decreases-pieces : goal.decreases-pieces
decreases-pieces g l = length l.bytes - l.at
