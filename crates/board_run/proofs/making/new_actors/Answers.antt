use Rattle.std.proofs.Common.{◌≡◌, inr, ℕ, ◌+◌, List, [], ◌∷◌, length, Some, refl, sym, ap, ◌∙◌, subst, arith, length-append}
use Rattle.std.specs.List.{slice_get}
use Rattle.journal.specs.Lines.{first_lines}
use Rattle.actor_core.specs.declared.actor.Actor.{Actor}
use Rattle.actor_core.specs.Boards.{lines_now}
use Rattle.actor_core.specs.Actors.{StandsWhole}
use Rattle.board_run.specs.Places.{who_at}
use Rattle.board_run.proofs.Pushed.{push_each}
use Rattle.board_run.proofs.Ends.{board_at}
use Rattle.board_run.proofs.making.new_actors.Goals as goal

pub places-preserved : goal.places-preserved
places-preserved c =
    let s = c.args.script.now in
    let actors : List Actor = c.places.actors.items in
    let new : Actor = c.in_ok-actor.actor in
    let place = c.places.place in
    let who = c.who_at.ensures in
    let count = c.places.invariant.count in
    let grown = c.in_ok-push.ensures.items in
    let stands : StandsWhole s (who_at s (length actors)) [] new =
    subst (λ (n : ℕ). StandsWhole s (who_at s n) [] new) (sym count) (subst (λ (n : ℕ). StandsWhole s n [] new) who (c.in_ok-actor.ensures.stands (inr refl))) in
    let performs : length actors ≡ 0 → lines_now s 0 new.lines ≡ first_lines s =
    λ none. let first : who_at s place ≡ 0 = ap (who_at s) (sym count ∙ none) ∙ board_at s in
    subst (λ (n : ℕ). lines_now s n new.lines ≡ first_lines s) (who ∙ first) (c.in_ok-actor.ensures.due (who ∙ first)) in
    record {
      count = ap length grown ∙ (length-append actors (new ∷ []) ∙ (let e : length actors + 1 ≡ place + 1 = omega (arith, count) in e));
      each = λ i a at. push_each (λ n x. StandsWhole s (who_at s n) [] x) actors new c.places.invariant.each stands i a (subst (λ (l : List Actor). slice_get l i ≡ Some a) grown at);
      board = λ a at. push_each (λ n x. n ≡ 0 → lines_now s 0 x.lines ≡ first_lines s) actors new
          (λ i x there none. c.places.invariant.board x (subst (λ (n : ℕ). slice_get actors n ≡ Some x) none there)) performs 0 a (subst (λ (l : List Actor). slice_get l 0 ≡ Some a) grown at) refl;
    }
