use Rattle.std.proofs.Common.{◌≡◌, ◌+◌, ◌-◌}
use Rattle.board_script.specs.Script.{Whole}
use Rattle.journal.specs.Lines.{numbers, members_of}
use Rattle.journal.specs.Journals.{Journal}
use Rattle.board_run.specs.Standing.{HoldsJournal}
use Rattle.load_run.specs.Load.{total_in}
use Rattle.load_run.proofs.reads.total.Given as goal

-- those of the members that are left complete the sum
abbrev pub invariant-members : goal.invariant-members
invariant-members l = (s : Whole) (j : Journal) → HoldsJournal s j l.cells → total_in j (numbers 1 (members_of s)) ≡ l.total + total_in j (numbers (l.index + 1) (members_of s - l.index))
