-- Keys that leave home with jobs, and come home again. Of this project.
use Rattle.std.specs.Prelude.{◌≡◌, ◌==◌, ℕ, ◌+◌, ◌<◌, nat_le, nat_lt, Bool, true, false, ◌&&◌, ◌||◌, List, [], ◌∷◌, length, Option, Some, None, slice_get, slice_set}
use Rattle.history.specs.Limits.{actor_limit}
use Rattle.board_script.specs.Script.{Whole}
use Rattle.board_script.specs.Limits.{first_worker, the_host}
use Rattle.group_cells.specs.Shared.{KeySet}
use Rattle.group_cells.specs.Ring.{Ring, raised_by}
use Rattle.thread_run.specs.declared.job.Job.{Job}

-- a guest, a worker or the host of the script has this number
abbrev pub acts : Whole → ℕ → Bool
acts s who = (nat_le 1 who && nat_le who (length s.guests)) || (nat_le first_worker who && nat_lt who (first_worker + s.board.workers)) || (who == the_host)

-- the keys of those that act are away, and all others stayed
pub record AreTaken (s : Whole) (old new : List (Option KeySet)) : Type 0 where
  pub places : length new ≡ length old
  pub away : (k : ℕ) → k < actor_limit → acts s k ≡ true → slice_get new k ≡ Some None
  pub stay : (k : ℕ) → acts s k ≡ false → slice_get new k ≡ slice_get old k

-- keys came home, and the floors are at least what they had seen
abbrev pub with_home : KeySet → Ring → Ring
with_home k r = record { group = r.group; keys = slice_set r.keys k.who (Some k); floors = raised_by k r.floors }

-- those of all jobs, one after another
abbrev pub with_homes : List Job → Ring → Ring
with_homes [] r = r
with_homes (job ∷ jobs) r = with_homes jobs (with_home job.keys r)
