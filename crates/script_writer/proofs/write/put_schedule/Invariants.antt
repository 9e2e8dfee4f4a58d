use Rattle.std.proofs.Common.{◌≡◌, ◌++◌, drop}
use Rattle.std.specs.Prelude.{map}
use Rattle.std.specs.List.{flat_map}
use Rattle.script_writer.specs.Written.{turns_words, line_text}
use Rattle.script_writer.proofs.write.put_schedule.Given as goal

abbrev pub invariant-turns : goal.invariant-turns
invariant-turns l = l.text ++ flat_map line_text (map turns_words (drop l.index l.script.turns)) ≡ l.fn.text ++ flat_map line_text (map turns_words l.script.turns)
