-- Keys that leave home.
use Rattle.std.proofs.Common.{◌≡◌, inl, inr, ℕ, ◌+◌, ◌<◌, List, length, Option, None, Some, slice_get, sym, refl, ap, ◌∙◌, arith, length-set, false, true, true≢false}
use Rattle.std.specs.Prelude.{slice_set}
use Rattle.std.proofs.lemmas.Bool.{cases_eq}
use Rattle.history.specs.Limits.{actor_limit}
use Rattle.board_script.specs.Script.{Whole}
use Rattle.group_cells.specs.Shared.{Sites, KeySet}
use Rattle.group_cells.specs.Opening.{AreHome}
use Rattle.thread_run.specs.Homes.{acts, AreTaken}
use Rattle.thread_run.proofs.Lists.{set_here, set_else}

pub home_on : (g : Sites) (n : ℕ) (homes : List (Option KeySet)) → AreHome g n homes → AreHome g (n + 1) homes
home_on g n homes home k low below = home k (omega (arith, low)) below

pub home_left : (g : Sites) (n : ℕ) (homes : List (Option KeySet)) → AreHome g n homes → AreHome g (n + 1) (slice_set homes n None)
home_left g n homes home k low below = let x = home k (omega (arith, low)) below in (x.0, set_else homes n k None (λ e. absurd (omega (arith, e, low))) ∙ x.1, x.2, x.3, x.4)

module _ (s : Whole) (old : List (Option KeySet)) where
  -- of those with a number below this one the keys are away
  pub record AreTakenBelow (n : ℕ) (new : List (Option KeySet)) : Type 0 where
    pub places : length new ≡ length old
    pub away : (k : ℕ) → k < n → acts s k ≡ true → slice_get new k ≡ Some None
    pub stay : (k : ℕ) → acts s k ≡ false → slice_get new k ≡ slice_get old k

  pub none_taken : AreTakenBelow 1 old
  none_taken = record {
    places = refl;
    away = λ k below acting. let board : k ≡ 0 = omega (arith, below) in absurd (true≢false (sym acting ∙ ap (acts s) board));
    stay = λ k idle. refl;
  }

  pub taken_on : (n : ℕ) (new : List (Option KeySet)) → acts s n ≡ false → AreTakenBelow n new → AreTakenBelow (n + 1) new
  taken_on n new idle x = record {
    places = x.places;
    away = λ k below acting. elim (cases_eq k n) [
      | inl same ↦ absurd (true≢false (sym acting ∙ (ap (acts s) same ∙ idle)))
      | inr other ↦ x.away k (omega (arith, below, other)) acting
    ];
    stay = x.stay;
  }

  pub taken_left : (n : ℕ) (new : List (Option KeySet)) → n < length new → acts s n ≡ true → AreTakenBelow n new → AreTakenBelow (n + 1) (slice_set new n None)
  taken_left n new there acting x = record {
    places = length-set new n None ∙ x.places;
    away = λ k below yes. elim (cases_eq k n) [
      | inl same ↦ ap (slice_get (slice_set new n None)) same ∙ set_here new n None there
      | inr other ↦ set_else new n k None other ∙ x.away k (omega (arith, below, other)) yes
    ];
    stay = λ k idle. set_else new n k None (λ same. true≢false (sym acting ∙ (ap (acts s) (sym same) ∙ idle))) ∙ x.stay k idle;
  }

  pub all_taken : (new : List (Option KeySet)) → AreTakenBelow actor_limit new → AreTaken s old new
  all_taken new x = record { places = x.places; away = x.away; stay = x.stay }
