-- Elements at the places of lists.
use Rattle.std.proofs.Common.{◌≡◌, ◌≢◌, ℕ, zero, suc, ◌<◌, List, [], ◌∷◌, length, map, Some, slice_get, sym, refl, ap, ◌∙◌, subst, arith, All, Bool, false, get_or}
use Rattle.std.specs.Prelude.{slice_set, remove}
use Rattle.std.specs.List.{list_any}
use Rattle.std.proofs.lemmas.Bool.{or_parts}
use Rattle.std.proofs.lemmas.Option.{slice_get_within, get_or_from_slice_get, slice_get-get_or}
use Rattle.std.proofs.lemmas.List.Elements.{All-head, All-tail}

module _ {A : Type 0} where
  pub set_here : (xs : List A) (k : ℕ) (y : A) → k < length xs → slice_get (slice_set xs k y) k ≡ Some y
  set_here [] k y low = absurd (omega (arith, low))
  set_here (x ∷ xs) zero y low = refl
  set_here (x ∷ xs) (suc k) y low = set_here xs k y (omega (arith, low))

  pub set_else : (xs : List A) (k i : ℕ) (y : A) → i ≢ k → slice_get (slice_set xs k y) i ≡ slice_get xs i
  set_else [] k i y other = refl
  set_else (x ∷ xs) zero zero y other = absurd (other refl)
  set_else (x ∷ xs) zero (suc i) y other = refl
  set_else (x ∷ xs) (suc k) zero y other = refl
  set_else (x ∷ xs) (suc k) (suc i) y other = set_else xs k i y (λ same. other (ap suc same))

  pub set_twice : (xs : List A) (k : ℕ) (y z : A) → slice_set (slice_set xs k y) k z ≡ slice_set xs k z
  set_twice [] k y z = refl
  set_twice (x ∷ xs) zero y z = refl
  set_twice (x ∷ xs) (suc k) y z = ap (λ rest. x ∷ rest) (set_twice xs k y z)

  pub there : (xs : List A) (k : ℕ) → k < length xs → (x : A) × (slice_get xs k ≡ Some x)
  there [] k low = absurd (omega (arith, low))
  there (x ∷ xs) zero low = (x, refl)
  there (x ∷ xs) (suc k) low = there xs k (omega (arith, low))

  -- the first of a list, and the rest
  pub first_rest : (xs : List A) (x : A) → slice_get xs 0 ≡ Some x → xs ≡ x ∷ remove xs 0
  first_rest [] x e = absurd (cc)
  first_rest (y ∷ ys) x e = let same : y ≡ x = cc in ap (λ z. z ∷ ys) same

  pub no_items : (xs : List A) → length xs ≡ 0 → xs ≡ []
  no_items [] none = refl
  no_items (x ∷ xs) none = absurd (omega (arith, none))

  -- what no element passes
  pub none_at : (test : A → Bool) (xs : List A) (k : ℕ) (x : A) → list_any test xs ≡ false → slice_get xs k ≡ Some x → test x ≡ false
  none_at test [] k x none at = absurd (cc)
  none_at test (y ∷ ys) zero x none at = let same : y ≡ x = cc in ap test (sym same) ∙ (or_parts (test y) (list_any test ys) none).0
  none_at test (y ∷ ys) (suc k) x none at = none_at test ys k x (or_parts (test y) (list_any test ys) none).1 at

module _ {A : Type 0} (P : A → Type 0) where
  pub first_of : (xs rest : List A) (x : A) → xs ≡ x ∷ rest → All P xs → P x
  first_of xs rest x is all = All-head P x rest (subst (All P) is all)

  pub rest_of : (xs rest : List A) (x : A) → xs ≡ x ∷ rest → All P xs → All P rest
  rest_of xs rest x is all = All-tail P x rest (subst (All P) is all)

  pub all_at : (xs : List A) (k : ℕ) (x : A) → All P xs → slice_get xs k ≡ Some x → P x
  all_at xs k x all at = subst P (get_or_from_slice_get xs k x x at) (all k x (slice_get_within xs k x at))

  pub all_from : (xs : List A) → ((k : ℕ) (x : A) → slice_get xs k ≡ Some x → P x) → All P xs
  all_from xs each k d low = each k (get_or xs k d) (slice_get-get_or xs k d low)

module _ {A B : Type 0} (f : A → B) where
  pub map_down : (xs : List A) (k : ℕ) (y : B) → slice_get (map f xs) k ≡ Some y → (x : A) × (slice_get xs k ≡ Some x) × (f x ≡ y)
  map_down [] k y at = absurd (cc)
  map_down (x ∷ xs) zero y at = (x, refl, (let e : f x ≡ y = cc in e))
  map_down (x ∷ xs) (suc k) y at = map_down xs k y at

  pub map_up : (xs : List A) (k : ℕ) (x : A) → slice_get xs k ≡ Some x → slice_get (map f xs) k ≡ Some (f x)
  map_up [] k x at = absurd (cc)
  map_up (y ∷ ys) zero x at = let same : y ≡ x = cc in ap (λ z. Some (f z)) same
  map_up (y ∷ ys) (suc k) x at = map_up ys k x at
