use Rattle.std.proofs.Common.{◌≡◌, ◌+◌, take}
use Rattle.std.specs.Prelude.{sum}
use Rattle.load_run.proofs.reads.add_bytes.Given as goal

-- the bytes before the place were added
abbrev pub invariant-bytes : goal.invariant-bytes
invariant-bytes l = l.total ≡ l.initial.total + sum (take l.byte-index l.bytes)
