use Rattle.std.proofs.Common.{◌≡◌}
use Rattle.actor_drive.specs.Shown.{shown_journal, frame_of}
use Rattle.actor_drive.specs.Told.{AreSeenOn}
use Rattle.actor_drive.proofs.driving.perform.Given as goal

abbrev pub invariant-loop : goal.invariant-loop
invariant-loop g l = record {
  can : (goal.iterator-loop g).can_next l.iterator';
  finite : (goal.iterator-loop g).is_finite l.iterator';
  frame : frame_of (g.C.Cells.sight l.cells) ≡ frame_of (g.C.Cells.sight l.initial.cells);
  seen : AreSeenOn (g.C.Cells.sight l.initial.cells).who (shown_journal (g.C.Cells.sight l.initial.cells)) (shown_journal (g.C.Cells.sight l.cells));
  group : g.C.Cells.group l.cells ≡ g.C.Cells.group l.initial.cells;
}
