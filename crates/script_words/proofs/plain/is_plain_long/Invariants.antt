use Rattle.std.proofs.Common.{◌≡◌, ◌++◌, true, drop}
use Rattle.script_words.specs.Kept.{goes_on}
use Rattle.script_words.proofs.plain.is_plain_long.Given as goal

abbrev pub invariant-bytes : goal.invariant-bytes
invariant-bytes l = goes_on l.good l.before (drop l.byte-index l.front ++ l.rest) ≡ goes_on true 32 l.line
