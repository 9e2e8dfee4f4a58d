use Rattle.std.proofs.Common.{◌≤◌, length, take}
use Rattle.std.specs.Io.KnownBytes.{Appends}
use Rattle.board_io.proofs.streams.write_on.Given as goal

-- the bytes before the place were written
abbrev pub invariant-tries : goal.invariant-tries
invariant-tries g l = record {
  within : l.at ≤ length l.bytes;
  written : Appends (g.W.Write.contents l.fn.writer) (g.W.Write.contents l.writer) (take l.at l.bytes);
}
