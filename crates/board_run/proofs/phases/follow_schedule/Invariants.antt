use Rattle.journal.specs.Journals.{Journal}
use Rattle.journal.specs.Worlds.{run}
use Rattle.board_run.specs.Running.{AreRunning}
use Rattle.board_run.proofs.Orders.{turns_before}
use Rattle.board_run.proofs.phases.follow_schedule.Given as goal

-- behind the turns of the pairs before this one
abbrev pub invariant-pairs : goal.invariant-pairs
invariant-pairs l = (j : Journal) → AreRunning l.script j l.fn.cells l.fn.actors.items → AreRunning l.script (run l.script (turns_before l.script l.index) j) l.cells l.actors.items
