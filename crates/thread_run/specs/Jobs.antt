-- An actor with its keys, before and after its lines. Of this project.
use Rattle.std.specs.Prelude.{◌≡◌, ℕ, false, List, []}
use Rattle.board_script.specs.Script.{Whole}
use Rattle.group_cells.specs.Shared.{Sites, KeySet, IsKeySetOf, sight_of}
use Rattle.group_cells.specs.Ring.{Floors, with_floors}
use Rattle.group_cells.specs.Opening.{IsFreshSet}
use Rattle.journal.specs.Performing.{Performed}
use Rattle.actor_core.specs.declared.actor.Actor.{Actor}
use Rattle.actor_core.specs.Boards.{lines_now}
use Rattle.actor_core.specs.Found.{FitsActor}
use Rattle.actor_drive.specs.Shown.{frame_of, AreCellsOf}
use Rattle.actor_drive.specs.Driven.{IsBeside, HasEnded, IsFurther, AreOnward}

-- an actor of the script that may be driven over the cells of a group by these keys
pub record IsReady (s : Whole) (g : Sites) (a : Actor) (k : KeySet) : Type 0 where
  pub fits : FitsActor s a
  pub number : a.performer.who ≡ k.who
  pub of : IsKeySetOf g k
  pub cells : AreCellsOf s (frame_of (sight_of k))
  pub beside : a.short ≡ false → (past : List Performed) × IsBeside s past a (sight_of k)

-- Its lines have ended, unless it was short of memory. The keys are the same, which have seen further
pub record IsDone (s : Whole) (g : Sites) (a : Actor) (k : KeySet) (b : Actor) (l : KeySet) : Type 0 where
  pub fits : FitsActor s b
  pub number : b.performer.who ≡ a.performer.who
  pub due : (v : Whole) (who : ℕ) → lines_now v who b.lines ≡ lines_now v who a.lines
  pub short : b.short ≡ false → a.short ≡ false
  pub of : IsKeySetOf g l
  pub onward : AreOnward (sight_of k) (sight_of l)
  pub ended : (past : List Performed) → IsBeside s past a (sight_of k) → b.short ≡ false → (now : List Performed) × (HasEnded s now b (sight_of l) × IsFurther past now)

-- nothing was asked yet, and the keys are told nothing below these places
pub record IsNewJob (s : Whole) (f : Floors) (who : ℕ) (a : Actor) (k : KeySet) : Type 0 where
  pub number : k.who ≡ who
  pub unused : KeySet
  pub fresh : IsFreshSet unused
  pub keys : k ≡ with_floors f unused
  pub beside : IsBeside s [] a (sight_of k)
