use Rattle.std.proofs.Common.{◌≡◌, take}
use Rattle.std.specs.Prelude.{◌==◌}
use Rattle.std.specs.List.{list_any}
use Rattle.script_words.proofs.plain.has_space.Given as goal

abbrev pub invariant-bytes : goal.invariant-bytes
invariant-bytes l = l.found ≡ list_any (λ byte. byte == 32) (take l.byte-index l.text)
