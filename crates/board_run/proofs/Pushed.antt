-- What is so of each of a list, and of one more.
use Rattle.std.proofs.Common.{◌≡◌, ℕ, zero, suc, List, [], ◌∷◌, ◌++◌, length, Some, subst}
use Rattle.std.specs.List.{slice_get}

pub push_each : {A : Type 0} (Q : ℕ → A → Type 0) (xs : List A) (x : A) → ((i : ℕ) (a : A) → slice_get xs i ≡ Some a → Q i a) → Q (length xs) x → (i : ℕ) (a : A) → slice_get (xs ++ x ∷ []) i ≡ Some a → Q i a
push_each Q [] x all new zero a at = let same : x ≡ a = cc in subst (Q zero) same new
push_each Q [] x all new (suc i) a at = absurd (cc)
push_each Q (y ∷ ys) x all new zero a at = all zero a at
push_each Q (y ∷ ys) x all new (suc i) a at = push_each (λ n. Q (suc n)) ys x (λ n b there. all (suc n) b there) new i a at
