-- The board's keys, which leave home and come home again.
use Rattle.std.proofs.Common.{◌≡◌, ◌≢◌, ℕ, length, Option, None, Some, slice_get, sym, ap, ◌∙◌, subst, arith, List}
use Rattle.std.specs.Prelude.{slice_set}
use Rattle.std.proofs.lemmas.Option.{slice_get_within}
use Rattle.board_script.specs.Script.{Whole}
use Rattle.group_cells.specs.Cells.{Sight}
use Rattle.group_cells.specs.Shared.{Sites, KeySet}
use Rattle.group_cells.specs.Ring.{Ring, Floors, TakesKeys, with_floors}
use Rattle.group_cells.specs.Opening.{AreHome, IsMadeBy, no_floors}
use Rattle.group_cells.proofs.Fresh.{copies}
use Rattle.actor_core.specs.declared.actor.Actor.{Actor}
use Rattle.thread_run.specs.Jobs.{IsReady, IsDone}
use Rattle.thread_run.specs.Homes.{with_home}
use Rattle.thread_run.specs.Through.{HasPerformed}
use Rattle.thread_run.proofs.Lists.{set_here, set_else, set_twice}
use Rattle.thread_run.proofs.Starts.{same_home}
use Rattle.thread_run.proofs.Made.{as_many_queues, as_many_members}
use Rattle.thread_run.proofs.Views.{AreFloorsOf, IsBelow, view_by, floors_raised, below_raised, same_who}

-- ---- they leave

-- the keys that were taken are ready where those at home are
pub ready_by : (s : Whole) (g : Sites) (r : Ring) (a : Actor) (k : KeySet) (now : Ring) → TakesKeys r 0 (Some k) now → (h : KeySet) × (slice_get r.keys 0 ≡ Some (Some h)) × IsReady s g a (with_floors r.floors h) → IsReady s g a k
ready_by s g r a k now taken ready =
    let same : ready.0 ≡ taken.0 = same_home ready.0 taken.0 (sym ready.1 ∙ taken.1) in
    subst (IsReady s g a) (ap (with_floors r.floors) same ∙ sym taken.2) ready.2

-- ---- they come home

module _ (s : Whole) (r mid now : Ring) (a b : Actor) (k l h : KeySet) (taken : TakesKeys r 0 (Some k) mid) (number : k.who ≡ 0) (done : IsDone s r.group a k b l) (put : now ≡ with_home l mid) (at : slice_get r.keys 0 ≡ Some (Some h)) where
  same : taken.0 ≡ h
  same = same_home taken.0 h (sym taken.1 ∙ at)

  board : l.who ≡ 0
  board = ap (λ (c : Sight). c.who) done.onward.frame ∙ number

  home_twice : with_home l mid ≡ with_home l r
  home_twice = ap (with_home l) taken.3 ∙ (λ i. record { group = r.group; keys = keys i; floors = (with_home l r).floors })
    where
      keys : slice_set (slice_set r.keys 0 None) l.who (Some l) ≡ slice_set r.keys l.who (Some l)
      keys = ap (λ (n : ℕ). slice_set (slice_set r.keys 0 None) n (Some l)) board ∙ (set_twice r.keys 0 None (Some l) ∙ ap (λ (n : ℕ). slice_set r.keys n (Some l)) (sym board))

  pub performed : HasPerformed s r h a now b
  performed = record {
    keys = l;
    done = subst (λ (z : KeySet). IsDone s r.group a z b l) (taken.2 ∙ ap (with_floors r.floors) same) done;
    home = put ∙ home_twice;
  }

module _ (s : Whole) (r now : Ring) (h : KeySet) (a b : Actor) (number : h.who ≡ 0) (at : slice_get r.keys 0 ≡ Some (Some h)) (x : HasPerformed s r h a now b) where
  pub own_who : x.keys.who ≡ 0
  own_who = same_who r.floors h x.keys x.done.onward ∙ number

  pub own_group : now.group ≡ r.group
  own_group = ap (λ (z : Ring). z.group) x.home

  own_keys : now.keys ≡ slice_set r.keys 0 (Some x.keys)
  own_keys = ap (λ (z : Ring). z.keys) x.home ∙ ap (λ (n : ℕ). slice_set r.keys n (Some x.keys)) own_who

  pub own_home : slice_get now.keys 0 ≡ Some (Some x.keys)
  own_home = ap (λ (ks : List (Option KeySet)). slice_get ks 0) own_keys ∙ set_here r.keys 0 (Some x.keys) (slice_get_within r.keys 0 (Some h) at)

  pub own_else : (k : ℕ) → k ≢ 0 → slice_get now.keys k ≡ slice_get r.keys k
  own_else k other = ap (λ (ks : List (Option KeySet)). slice_get ks k) own_keys ∙ set_else r.keys 0 k (Some x.keys) other

  pub own_floors : (g : Sites) → AreFloorsOf g r.floors → AreFloorsOf g now.floors
  own_floors g floors = subst (AreFloorsOf g) (sym (ap (λ (z : Ring). z.floors) x.home)) (floors_raised g r.floors x.keys floors)

  pub own_below : AreFloorsOf r.group r.floors → IsBelow (view_by x.keys) now.floors
  own_below floors = subst (IsBelow (view_by x.keys)) (sym (ap (λ (z : Ring). z.floors) x.home)) (below_raised r.group r.floors x.keys x.done.of floors)

  -- those of all others are still there
  pub still_fresh : AreHome r.group 0 r.keys → AreHome r.group 1 now.keys
  still_fresh home k low below = let y = home k (omega (arith, low)) below in (y.0, own_else k (λ e. absurd (omega (arith, e, low))) ∙ y.1, y.2, y.3, y.4)

pub first_floors : (s : Whole) (g : Sites) (f : Floors) → IsMadeBy s g → f ≡ no_floors s → AreFloorsOf g f
first_floors s g f made none = subst (AreFloorsOf g) (sym none) (record {
  queues = copies s.board.queues 0 ∙ sym (as_many_queues s g made);
  members = copies (length s.guests) 0 ∙ sym (as_many_members s g made);
})
