use Rattle.std.proofs.Common.{◌≡◌, ◌+◌, ◌-◌}
use Rattle.board_script.specs.Script.{Whole}
use Rattle.journal.specs.Lines.{numbers}
use Rattle.journal.specs.Journals.{Journal}
use Rattle.journal.specs.Texts.{commands_in}
use Rattle.board_run.specs.Standing.{HoldsJournal}
use Rattle.load_run.proofs.counts.commands.Given as goal

-- those of the queues that are left complete the number
abbrev pub invariant-queues : goal.invariant-queues
invariant-queues l = (s : Whole) (j : Journal) → HoldsJournal s j l.cells → commands_in j (numbers 0 s.board.queues) ≡ l.posted + commands_in j (numbers l.index (s.board.queues - l.index))
