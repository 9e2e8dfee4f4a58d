-- Jobs that many threads did.
use Rattle.std.proofs.Common.{◌≡◌, ℕ, List, length, Some, slice_get, sym, ◌∙◌, subst, arith, All, slice_index_or}
use denote.Param.Members.{Shared}
use Rattle.std.specs.Fn.{FnReturns}
use Rattle.std.specs.Fork.{GivesJobs}
use Rattle.std.proofs.lemmas.Option.{slice_get_within, get_or_from_slice_get}
use Rattle.board_script.specs.Script.{Whole}
use Rattle.group_cells.specs.Shared.{Sites, IsKeySetOf}
use Rattle.thread_run.specs.declared.job.Job.{Job}
use Rattle.thread_run.specs.Jobs.{IsDone}
use Rattle.thread_run.specs.Through.{AreDone}
use Rattle.thread_run.proofs.Lists.{there, all_from}

module _ {F : Type 0} (fn : Shared F (Job × Unit {0}) Job) (f : F) (s : Whole) (g : Sites) (calls : (job end : Job) → FnReturns fn f (job, tt) end → IsDone s g job.actor job.keys end.actor end.keys) where
  pub all_done : (jobs ends : List Job) → length ends ≡ length jobs → GivesJobs fn f jobs ends → AreDone s g jobs ends
  all_done jobs ends many gives = record {
    as_many = many;
    each = λ i job end at there.
        let x = (gives i end (slice_get_within jobs i job at)).1 in
        let here : slice_index_or ends i end ≡ end = get_or_from_slice_get ends i end end there in
        let same : x.job ≡ job = sym (x.job_is job) ∙ get_or_from_slice_get jobs i job job at in
        subst (λ (p : Job × Job). IsDone s g p.0.actor p.0.keys p.1.actor p.1.keys) (λ t. (same t, here t)) (calls x.job (slice_index_or ends i end) x.call);
  }

-- their keys are of the group
pub ends_of : (s : Whole) (g : Sites) (jobs ends : List Job) → AreDone s g jobs ends → All (λ (end : Job). IsKeySetOf g end.keys) ends
ends_of s g jobs ends done = all_from (λ (end : Job). IsKeySetOf g end.keys) ends each
  where
    each : (i : ℕ) (end : Job) → slice_get ends i ≡ Some end → IsKeySetOf g end.keys
    each i end at =
        let low = slice_get_within ends i end at in
        let many = done.as_many in
        let job = there jobs i (omega (arith, low, many)) in
        (done.each i job.0 end job.1 at).of
