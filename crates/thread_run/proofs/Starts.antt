-- An actor that has performed nothing, with keys that were never used.
use Rattle.std.proofs.Common.{◌≡◌, ℕ, ◌<◌, List, [], ◌∷◌, ◌++◌, Option, Some, slice_get, sym, refl, ap, ◌∙◌, subst, arith}
use Rattle.history.specs.Limits.{actor_limit}
use Rattle.group_calls.specs.declared.ask.Ask.TheVariants.{Queue}
use Rattle.group_calls.specs.declared.ask.Told.TheVariants.{Queue as FromQueue}
use Rattle.group_calls.specs.Asks.{Exchange}
use Rattle.board_script.specs.Script.{Whole}
use Rattle.group_cells.specs.Shared.{Sites, KeySet, IsKeySetOf, sight_of}
use Rattle.group_cells.specs.Ring.{Floors, with_floors}
use Rattle.group_cells.specs.Opening.{AreHome, IsMadeBy, IsFreshSet}
use Rattle.journal.specs.Lines.{lines_of}
use Rattle.actor_core.specs.declared.actor.Actor.{Actor}
use Rattle.actor_core.specs.Found.{FitsActor}
use Rattle.actor_core.specs.Actors.{StandsWhole}
use Rattle.actor_drive.specs.Driven.{IsBeside, AreLeft}
use Rattle.thread_run.specs.Jobs.{IsReady, IsNewJob}
use Rattle.thread_run.proofs.Made.{cells_of}
use Rattle.thread_run.proofs.Views.{view_with, view_fresh}

pub nothing_asked : (later earlier : List Exchange) (x : Exchange) → [] ≡ later ++ x ∷ earlier → ⊥
nothing_asked [] earlier x e = absurd (cc)
nothing_asked (y ∷ later) earlier x e = absurd (cc)

pub starts : (s : Whole) (a : Actor) (h : KeySet) (f : Floors) → IsFreshSet h → StandsWhole s h.who [] a → IsBeside s [] a (sight_of (with_floors f h))
starts s a h f fresh stands = record {
  stands = stands;
  begun = tt;
  lines = (lines_of s h.who, refl);
  within = omega arith;
  near = tt;
  left = subst (AreLeft h.who []) (sym (view_with f h ∙ view_fresh h fresh)) (record { owner = refl; queue = λ k. refl; member = λ m. refl });
  heard = λ k call placed later earlier is. absurd (nothing_asked later earlier (Queue k call, FromQueue placed) is);
}

pub same_home : (a b : KeySet) → Some (Some a) ≡ Some (Some b) → a ≡ b
same_home a b e = cc

pub new_job : (s : Whole) (g : Sites) (homes : List (Option KeySet)) (f : Floors) (who : ℕ) (a : Actor) (k h : KeySet) → IsMadeBy s g → AreHome g who homes → who < actor_limit → slice_get homes who ≡ Some (Some h) → k ≡ with_floors f h → k.who ≡ who → IsKeySetOf g k
    → FitsActor s a → a.performer.who ≡ who → StandsWhole s who [] a → IsReady s g a k × IsNewJob s f who a k
new_job s g homes f who a k h made home low at is number of fits acts stands =
    let x = home who (omega arith) low in
    let same : x.0 ≡ h = same_home x.0 h (sym x.1 ∙ at) in
    let fresh : IsFreshSet h = subst IsFreshSet same x.4 in
    let h_who : h.who ≡ who = ap (λ (z : KeySet). z.who) (sym is) ∙ number in
    let beside : IsBeside s [] a (sight_of k) = subst (λ (z : KeySet). IsBeside s [] a (sight_of z)) (sym is) (starts s a h f fresh (subst (λ n. StandsWhole s n [] a) (sym h_who) stands)) in (
      record { fits = fits; number = acts ∙ sym number; of = of; cells = cells_of s g made k of; beside = λ short. ([], beside) },
      record { number = number; unused = h; fresh = fresh; keys = is; beside = beside },
    )
