-- Lists, the latest item first, whose earlier items tell which comes next.
use Rattle.std.proofs.Common.{◌≡◌, List, [], ◌∷◌, ◌++◌, Option, Some, None, refl, sym, ap, ◌∙◌, subst}

module _ {X : Type 0} (next : List X → Option X) where
  -- each item was the next one
  abbrev pub IsChain : List X → Type 0
  IsChain [] = Unit {0}
  IsChain (x ∷ xs) = (next xs ≡ Some x) × IsChain xs

  -- these items, the earliest first, in front of a list
  onto : List X → List X → List X
  onto [] base = base
  onto (x ∷ xs) base = onto xs (x ∷ base)

  turned : List X → List X
  turned [] = []
  turned (x ∷ xs) = turned xs ++ x ∷ []

  onto_append : (xs ys base : List X) → onto (xs ++ ys) base ≡ onto ys (onto xs base)
  unfolding onto
  onto_append [] ys base = refl
  onto_append (x ∷ xs) ys base = onto_append xs ys (x ∷ base)

  onto_turned : (xs : List X) → onto (turned xs) [] ≡ xs
  unfolding onto turned
  onto_turned [] = refl
  onto_turned (x ∷ xs) = onto_append (turned xs) (x ∷ []) [] ∙ ap (λ l. x ∷ l) (onto_turned xs)

  base_chain : (xs base : List X) → IsChain (onto xs base) → IsChain base
  unfolding onto
  base_chain [] base c = c
  base_chain (x ∷ xs) base c = (base_chain xs (x ∷ base) c).1

  same_next : (base : List X) (x y : X) → next base ≡ Some x → next base ≡ Some y → x ≡ y
  same_next base x y a b = cc

  goes_on : (base : List X) (x : X) → next base ≡ Some x → next base ≡ None → ⊥
  goes_on base x a b = cc

  same_onto : (xs ys base : List X) → IsChain (onto xs base) → IsChain (onto ys base) → next (onto xs base) ≡ None → next (onto ys base) ≡ None → onto xs base ≡ onto ys base
  unfolding onto
  same_onto [] [] base c d e f = refl
  same_onto [] (y ∷ ys) base c d e f = absurd (goes_on base y (base_chain ys (y ∷ base) d).0 e)
  same_onto (x ∷ xs) [] base c d e f = absurd (goes_on base x (base_chain xs (x ∷ base) c).0 f)
  same_onto (x ∷ xs) (y ∷ ys) base c d e f =
      let same : x ≡ y = same_next base x y (base_chain xs (x ∷ base) c).0 (base_chain ys (y ∷ base) d).0 in
      same_onto xs ys (x ∷ base) c (subst (λ (z : X). IsChain (onto ys (z ∷ base))) (sym same) d) e (subst (λ (z : X). next (onto ys (z ∷ base)) ≡ None) (sym same) f)
      ∙ ap (λ (z : X). onto ys (z ∷ base)) same

  -- chains that nothing follows are the same
  pub same_chains : (xs ys : List X) → IsChain xs → IsChain ys → next xs ≡ None → next ys ≡ None → xs ≡ ys
  same_chains xs ys c d e f =
      let a = onto_turned xs in
      let b = onto_turned ys in
      sym a ∙ (same_onto (turned xs) (turned ys) [] (subst IsChain (sym a) c) (subst IsChain (sym b) d) (ap next a ∙ e) (ap next b ∙ f) ∙ b)
