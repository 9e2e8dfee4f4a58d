-- When what is kept of a whole run is that of a journal. Of this project.
use Rattle.std.specs.Prelude.{◌≡◌, ℕ, List, length, map, Some}
use Rattle.std.specs.List.{slice_get}
use Rattle.board_script.specs.Script.{Whole}
use Rattle.journal.specs.Journals.{Journal, IsGuestOf}
use Rattle.journal.specs.Settling.{left_in}
use Rattle.journal.specs.Texts.{answer_lines}
use Rattle.group_cells.specs.Plain.{Plain}
use Rattle.actor_core.specs.declared.actor.Actor.{Actor}
use Rattle.actor_core.specs.declared.items.LeftItem.{LeftItem}
use Rattle.actor_core.specs.Kept.{trace_of, left_pair}
use Rattle.actor_core.specs.Shown.{answers_text}
use Rattle.actor_core.specs.Answered.{ended_of}
use Rattle.board_run.specs.Places.{actor_count, who_at}
use Rattle.board_run.specs.Standing.{HoldsJournal}

-- the cells' histories, each actor's trace, what each guest is shown for the lines that have ended, and the queues that the drain left
pub record IsRun (s : Whole) (j : Journal) (cells : Plain) (actors : List Actor) (left : List LeftItem) : Type 0 where
  pub cells_of : HoldsJournal s j cells
  pub count : length actors ≡ actor_count s
  pub number : (place : ℕ) (actor : Actor) → slice_get actors place ≡ Some actor → actor.performer.who ≡ who_at s place
  pub trace : (place : ℕ) (actor : Actor) → slice_get actors place ≡ Some actor → actor.kept.trace.items.items ≡ trace_of (j.past (who_at s place))
  pub answers : (g : ℕ) (actor : Actor) → IsGuestOf s g → slice_get actors g ≡ Some actor → answers_text actor.kept.answers.items.items ≡ answer_lines s g (ended_of s g (j.past g))
  pub left_of : map left_pair left ≡ left_in s j
