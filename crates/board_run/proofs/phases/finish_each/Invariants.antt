use Rattle.std.proofs.Common.{◌≡◌, ◌-◌, ◌≤◌, length, map}
use Rattle.journal.specs.Lines.{numbers}
use Rattle.journal.specs.Journals.{Journal}
use Rattle.journal.specs.Settling.{each_while}
use Rattle.board_run.specs.Places.{who_at}
use Rattle.board_run.specs.Running.{AreRunning}
use Rattle.board_run.specs.Finishing.{test_of}
use Rattle.board_run.proofs.phases.finish_each.Given as goal

-- behind the turns of the actors before this place
abbrev pub invariant-actors : goal.invariant-actors
invariant-actors l = record {
  low : 1 ≤ l.place;
  count : length l.actors.items ≡ length l.fn.actors.items;
  so_far : (j : Journal) → AreRunning l.script j l.fn.cells l.fn.actors.items
      → AreRunning l.script (each_while (test_of l.rest) l.script (map (who_at l.script) (numbers 1 (l.place - 1))) j) l.cells l.actors.items;
}
