use Rattle.std.proofs.Common.{◌≡◌, length}
use Rattle.script_words.specs.Parts.{are_pairs}
use Rattle.script_words.proofs.forms.are_pairs.Given as goal

abbrev pub invariant-pairs : goal.invariant-pairs
invariant-pairs l = are_pairs l.left ≡ are_pairs l.fn.words

abbrev pub decreases-pairs : goal.decreases-pairs
decreases-pairs l = length l.left
