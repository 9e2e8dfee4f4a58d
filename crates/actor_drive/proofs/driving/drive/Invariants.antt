use Rattle.std.proofs.Common.{◌≡◌, ℕ, List, false}
use Rattle.board_script.specs.Script.{Whole}
use Rattle.group_cells.specs.Cells.{IsSoundSight}
use Rattle.journal.specs.Performing.{Performed}
use Rattle.actor_core.specs.Boards.{lines_now}
use Rattle.actor_core.specs.Found.{FitsActor}
use Rattle.actor_drive.specs.Driven.{IsBeside, IsFurther, AreOnward}
use Rattle.actor_drive.proofs.driving.drive.Given as goal

abbrev pub invariant-loop : goal.invariant-loop
invariant-loop g l = record {
  can : (goal.iterator-loop g).can_next l.iterator';
  finite : (goal.iterator-loop g).is_finite l.iterator';
  fits : FitsActor l.script l.actor;
  number : l.actor.performer.who ≡ l.initial.actor.performer.who;
  due : (s : Whole) (who : ℕ) → lines_now s who l.actor.lines ≡ lines_now s who l.initial.actor.lines;
  short : l.actor.short ≡ false → l.initial.actor.short ≡ false;
  sound : IsSoundSight (g.C.Cells.sight l.cells);
  onward : AreOnward (g.C.Cells.sight l.initial.cells) (g.C.Cells.sight l.cells);
  group : g.C.Cells.group l.cells ≡ g.C.Cells.group l.initial.cells;
  beside : (past : List Performed) → IsBeside l.script past l.initial.actor (g.C.Cells.sight l.initial.cells) → l.actor.short ≡ false → (now : List Performed) × (IsBeside l.script now l.actor (g.C.Cells.sight l.cells) × IsFurther past now);
}
