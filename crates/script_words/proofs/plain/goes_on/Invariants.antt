use Rattle.std.proofs.Common.{◌≡◌, true, drop}
use Rattle.script_words.specs.Kept.{goes_on}
use Rattle.script_words.proofs.plain.goes_on.Given as goal

abbrev pub invariant-bytes : goal.invariant-bytes
invariant-bytes l = goes_on true l.before (drop l.byte-index l.bytes) ≡ goes_on true l.first l.bytes
