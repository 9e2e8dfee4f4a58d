-- Keys that come home, one set after another.
use Rattle.std.proofs.Common.{◌≡◌, ◌≢◌, ℕ, zero, suc, ◌<◌, List, [], ◌∷◌, length, Some, slice_get, sym, refl, ap, ◌∙◌, subst, arith, length-set, All}
use Rattle.std.specs.Prelude.{slice_set}
use Rattle.std.proofs.lemmas.List.Elements.{All-head, All-tail}
use Rattle.group_cells.specs.Shared.{Sites, IsKeySetOf}
use Rattle.group_cells.specs.Ring.{Ring}
use Rattle.journal.specs.Journals.{Journal}
use Rattle.thread_run.specs.declared.job.Job.{Job}
use Rattle.thread_run.specs.Homes.{with_home, with_homes}
use Rattle.thread_run.proofs.Lists.{set_here, set_else}
use Rattle.thread_run.proofs.Views.{AreFloorsOf, IsBelow, view_by, floors_raised, below_raised, below_still}

-- no two of the jobs have one number
abbrev pub AreApart : List Job → Type 0
AreApart jobs = (i j : ℕ) (a b : Job) → slice_get jobs i ≡ Some a → slice_get jobs j ≡ Some b → a.keys.who ≡ b.keys.who → i ≡ j

-- none of them has this number
abbrev pub IsNone : List Job → ℕ → Type 0
IsNone jobs k = (i : ℕ) (a : Job) → slice_get jobs i ≡ Some a → a.keys.who ≢ k

abbrev AllOf : Sites → List Job → Type 0
AllOf g jobs = All (λ (job : Job). IsKeySetOf g job.keys) jobs

pub group_still : (jobs : List Job) (r : Ring) → (with_homes jobs r).group ≡ r.group
group_still [] r = refl
group_still (job ∷ jobs) r = group_still jobs (with_home job.keys r)

pub places_still : (jobs : List Job) (r : Ring) → length (with_homes jobs r).keys ≡ length r.keys
places_still [] r = refl
places_still (job ∷ jobs) r = places_still jobs (with_home job.keys r) ∙ length-set r.keys job.keys.who (Some job.keys)

pub home_still : (jobs : List Job) (r : Ring) (k : ℕ) → IsNone jobs k → slice_get (with_homes jobs r).keys k ≡ slice_get r.keys k
home_still [] r k none = refl
home_still (job ∷ jobs) r k none = home_still jobs (with_home job.keys r) k (λ i a at. none (suc i) a at) ∙ set_else r.keys job.keys.who k (Some job.keys) (λ same. none 0 job refl (sym same))

-- each is home at its number
pub home_again : (jobs : List Job) (r : Ring) (i : ℕ) (job : Job) → AreApart jobs → slice_get jobs i ≡ Some job → job.keys.who < length r.keys → slice_get (with_homes jobs r).keys job.keys.who ≡ Some (Some job.keys)
home_again [] r i job apart at low = absurd (cc)
home_again (x ∷ jobs) r zero job apart at low =
    let same : x ≡ job = cc in
    let none : IsNone jobs job.keys.who = λ j a there is. let e : suc j ≡ 0 = apart (suc j) 0 a x there refl (is ∙ ap (λ (z : Job). z.keys.who) (sym same)) in absurd (omega (arith, e)) in
    home_still jobs (with_home x.keys r) job.keys.who none ∙ (ap (λ (z : Job). slice_get (slice_set r.keys z.keys.who (Some z.keys)) job.keys.who) same ∙ set_here r.keys job.keys.who (Some job.keys) low)
home_again (x ∷ jobs) r (suc i) job apart at low =
    let len = length-set r.keys x.keys.who (Some x.keys) in
    home_again jobs (with_home x.keys r) i job (λ i j a b here there same. let e : suc i ≡ suc j = apart (suc i) (suc j) a b here there same in omega (arith, e)) at (omega (arith, len, low))

module _ (g : Sites) where
  pub floors_still : (jobs : List Job) (r : Ring) → AreFloorsOf g r.floors → AreFloorsOf g (with_homes jobs r).floors
  floors_still [] r x = x
  floors_still (job ∷ jobs) r x = floors_still jobs (with_home job.keys r) (floors_raised g r.floors job.keys x)

  pub stay_below : (view : Journal) (jobs : List Job) (r : Ring) → IsBelow view r.floors → IsBelow view (with_homes jobs r).floors
  stay_below view [] r x = x
  stay_below view (job ∷ jobs) r x = stay_below view jobs (with_home job.keys r) (below_still view r.floors job.keys x)

  -- the floors are at least what each had seen
  pub all_below : (jobs : List Job) (r : Ring) (i : ℕ) (job : Job) → AllOf g jobs → AreFloorsOf g r.floors → slice_get jobs i ≡ Some job → IsBelow (view_by job.keys) (with_homes jobs r).floors
  all_below [] r i job of x at = absurd (cc)
  all_below (y ∷ jobs) r zero job of x at =
      let same : y ≡ job = cc in
      subst (λ (z : Job). IsBelow (view_by z.keys) (with_homes (y ∷ jobs) r).floors) same (stay_below (view_by y.keys) jobs (with_home y.keys r) (below_raised g r.floors y.keys (All-head (λ (z : Job). IsKeySetOf g z.keys) y jobs of) x))
  all_below (y ∷ jobs) r (suc i) job of x at = all_below jobs (with_home y.keys r) i job (All-tail (λ (z : Job). IsKeySetOf g z.keys) y jobs of) (floors_raised g r.floors y.keys x) at
