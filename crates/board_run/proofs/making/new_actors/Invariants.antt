use Rattle.std.proofs.Common.{◌≡◌, ℕ, [], Some, length}
use Rattle.std.specs.List.{slice_get}
use Rattle.journal.specs.Lines.{first_lines}
use Rattle.actor_core.specs.declared.actor.Actor.{Actor}
use Rattle.actor_core.specs.Actors.{StandsWhole}
use Rattle.board_run.specs.Places.{who_at}
use Rattle.board_run.specs.Running.{BoardPerforms}
use Rattle.board_run.proofs.making.new_actors.Given as goal

-- those before this place stand behind nothing
abbrev pub invariant-places : goal.invariant-places
invariant-places l = record {
  count : length l.actors.items ≡ l.place;
  each : (place : ℕ) (actor : Actor) → slice_get l.actors.items place ≡ Some actor → StandsWhole l.script (who_at l.script place) [] actor;
  board : BoardPerforms l.script (first_lines l.script) l.actors.items;
}
