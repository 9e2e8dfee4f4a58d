use Rattle.std.proofs.Common.{◌≡◌, ◌+◌, ◌++◌, drop}
use Rattle.std.specs.List.{flat_map}
use Rattle.script_writer.specs.Written.{guest_lines, line_text}
use Rattle.script_writer.proofs.write.put_guests.Given as goal

abbrev pub invariant-guests : goal.invariant-guests
invariant-guests l = l.text ++ flat_map line_text (guest_lines (l.number + 1) (drop l.number l.script.guests)) ≡ l.fn.text ++ flat_map line_text (guest_lines 1 l.script.guests)
