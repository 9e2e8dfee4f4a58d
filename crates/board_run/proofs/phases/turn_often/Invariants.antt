use Rattle.std.proofs.Common.{◌≡◌, true}
use Rattle.journal.specs.Journals.{Journal}
use Rattle.board_run.specs.Running.{IsRunning, IsOneOf, HasTurnedOften}
use Rattle.board_run.proofs.phases.turn_often.Given as goal

-- behind so many turns
abbrev pub invariant-turns : goal.invariant-turns
invariant-turns l = record {
  number : l.actor.performer.who ≡ l.fn.actor.performer.who;
  so_far : (j : Journal) → IsRunning l.script true j l.fn.cells → IsOneOf l.script true l.fn.actor.performer.who j l.fn.actor → HasTurnedOften l.script true l.fn.actor.performer.who l.turns j l.cells l.actor;
}
