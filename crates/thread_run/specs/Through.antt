-- Actors that are through with their lines, and whose keys went home. Of this project.
use Rattle.std.specs.Prelude.{◌≡◌, ◌-◌, List, length, map, Option}
use Rattle.std.specs.List.{All}
use Rattle.board_script.specs.Script.{Whole}
use Rattle.group_cells.specs.Shared.{Sites, KeySet}
use Rattle.group_cells.specs.Ring.{Ring, with_floors}
use Rattle.group_cells.specs.Opening.{Each2}
use Rattle.journal.specs.Lines.{numbers}
use Rattle.actor_core.specs.declared.actor.Actor.{Actor}
use Rattle.board_run.specs.Places.{actor_count, who_at}
use Rattle.thread_run.specs.declared.job.Job.{Job}
use Rattle.thread_run.specs.Jobs.{IsDone, IsNewJob}
use Rattle.thread_run.specs.Homes.{AreTaken, with_home, with_homes}

-- an actor by its keys
pub record HasPerformed (s : Whole) (old : Ring) (h : KeySet) (a : Actor) (new : Ring) (b : Actor) : Type 0 where
  pub keys : KeySet
  pub done : IsDone s old.group a (with_floors old.floors h) b keys
  pub home : new ≡ with_home keys old

-- each of these jobs
pub record AreDone (s : Whole) (g : Sites) (jobs ends : List Job) : Type 0 where
  pub as_many : length ends ≡ length jobs
  pub each : Each2 (λ i job end. IsDone s g job.actor job.keys end.actor end.keys) jobs ends

-- all actors but the board, in their order, each by keys of its own that were never used
pub record HavePerformed (s : Whole) (old new : Ring) (actors : List Actor) : Type 0 where
  pub jobs : List Job
  pub order : map (λ job. job.keys.who) jobs ≡ map (who_at s) (numbers 1 (actor_count s - 1))
  pub unused : All (λ job. IsNewJob s old.floors job.keys.who job.actor job.keys) jobs
  pub homes : List (Option KeySet)
  pub taken : AreTaken s old.keys homes
  pub ends : List Job
  pub done : AreDone s old.group jobs ends
  pub home : new ≡ with_homes ends record { group = old.group; keys = homes; floors = old.floors }
  pub actors_of : actors ≡ map (λ job. job.actor) ends
