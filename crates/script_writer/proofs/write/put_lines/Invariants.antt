use Rattle.std.proofs.Common.{◌≡◌, ◌++◌, drop}
use Rattle.std.specs.Prelude.{map}
use Rattle.std.specs.List.{flat_map}
use Rattle.script_writer.specs.Written.{actor_words, line_text}
use Rattle.script_writer.proofs.write.put_lines.Given as goal

abbrev pub invariant-lines : goal.invariant-lines
invariant-lines l = l.text ++ flat_map line_text (map actor_words (drop l.index l.script.lines)) ≡ l.fn.text ++ flat_map line_text (map actor_words l.script.lines)
