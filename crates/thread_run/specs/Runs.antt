-- What a run in threads gives. Of this project.
use Rattle.std.specs.Prelude.{List}
use Rattle.board_script.specs.Script.{Whole}
use Rattle.journal.specs.Journals.{Journal, IsLegalJournal}
use Rattle.journal.specs.Laws.{HasAll}
use Rattle.group_cells.specs.Plain.{Plain}
use Rattle.actor_core.specs.declared.actor.Actor.{Actor}
use Rattle.actor_core.specs.declared.items.LeftItem.{LeftItem}
use Rattle.board_run.specs.Ran.{IsRun}

-- cells, traces, answers and left queues of a legal journal, which has the headline for each guest, and what holds beside it
pub record IsLegalRun (s : Whole) (cells : Plain) (actors : List Actor) (left : List LeftItem) : Type 0 where
  pub journal : Journal
  pub legal : IsLegalJournal s journal
  pub all : HasAll s journal
  pub run : IsRun s journal cells actors left
