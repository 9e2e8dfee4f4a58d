-- What an actor saw of a history, which goes on behind it.
use Rattle.std.proofs.Common.{◌≡◌, ℕ, ◌<◌, ◌≤◌, inl, inr, List, [], ◌∷◌, ◌++◌, length, refl, sym, ap, ◌∙◌, arith, subst, length-append}
use Rattle.std.specs.List.{All}
use Rattle.std.proofs.lemmas.Bool.{cases_eq}
use Rattle.std.proofs.lemmas.List.Elements.{All-tail}
use Rattle.history.specs.declared.entry.Entry.{Entry}
use Rattle.history.specs.Places.{before, calls_of, IsEarlier}
use Rattle.history.proofs.LegalLemmas.{before-skip}
use Rattle.world_laws.proofs.Left.{mine, not_mine, places_below}
use Rattle.thread_laws.specs.Gathered.{IsSeen}

-- ---- a history that grew

before_on : {E : Type 0} (more old : List E) (p : ℕ) → p ≤ length old → before p (more ++ old) ≡ before p old
before_on [] old p le = refl
before_on (e ∷ more) old p le = before-skip e (more ++ old) p (let a = length-append more old in omega (arith, a, le)) ∙ before_on more old p le

-- what stands before a place stays
pub before_still : {E : Type 0} (old new : List E) (p : ℕ) → IsEarlier old new → p ≤ length old → before p new ≡ before p old
before_still old new p x le = ap (before p) x.1 ∙ before_on x.0 old p le

pub no_shorter : {E : Type 0} (old new : List E) → IsEarlier old new → length old ≤ length new
no_shorter old new x = let a = length-append x.0 old in let b = ap length x.1 in omega (arith, a, b)

pub all_rest : {X : Type 0} (P : X → Type 0) (xs ys : List X) → All P (xs ++ ys) → All P ys
all_rest P [] ys a = a
all_rest P (x ∷ xs) ys a = all_rest P xs ys (All-tail P x (xs ++ ys) a)

module _ {C R : Type 0} where
  more_calls : (who : ℕ) (more old : List (Entry C R)) → (news : List (ℕ × Entry C R)) × (calls_of who (more ++ old) ≡ news ++ calls_of who old)
  more_calls who [] old = ([], refl)
  more_calls who (e ∷ more) old =
      let rest = more_calls who more old in
      elim (cases_eq e.who who) [
        | inl is ↦ ((length (more ++ old), e) ∷ rest.0, mine who e (more ++ old) is ∙ ap (λ l. (length (more ++ old), e) ∷ l) rest.1)
        | inr other ↦ (rest.0, not_mine who e (more ++ old) other ∙ rest.1)
      ]

  -- what holds of an actor's entries holds of those that stood earlier
  pub calls_still : (P : ℕ × Entry C R → Type 0) (who : ℕ) (old new : List (Entry C R)) → IsEarlier old new → All P (calls_of who new) → All P (calls_of who old)
  calls_still P who old new x all =
      let news = more_calls who x.0 old in
      all_rest P news.0 (calls_of who old) (subst (All P) (ap (calls_of who) x.1 ∙ news.1) all)

  -- ---- an actor's view

  -- its entries stand within what it saw
  pub within : (who : ℕ) (seen history : List (Entry C R)) → IsSeen who seen history → All (λ e. e.0 < length seen) (calls_of who history)
  within who seen history x = subst (All (λ (e : ℕ × Entry C R). e.0 < length seen)) (sym x.own) (places_below who seen (length seen) (omega arith))
