-- Commands that are numbered by how many were posted before them.
use Rattle.std.proofs.Common.{◌≡◌, ℕ, ◌+◌, ◌<◌, ◌≤◌, inl, inr, Bool, true, false, List, [], ◌∷◌, length, Some, None, Option, arith, refl, sym, ap, ◌∙◌}
use Rattle.std.specs.Prelude.{◌==◌, nat_le, not, filter, is_some}
use Rattle.std.proofs.lemmas.Bool.Decides.{nat_tests}
use Rattle.std.proofs.lemmas.Bool.{cases_lt, cases_eq}
use Rattle.group_calls.specs.Queue.{Posted, earliest, IsNumbered}

passes_step : (passes : Posted → Bool) (q : Posted) (rest : List Posted) (p : Posted) → (earliest passes rest ≡ Some p → passes p ≡ true) → (o : Option Posted) → earliest passes rest ≡ o → (b : Bool) → passes q ≡ b
    → earliest passes (q ∷ rest) ≡ Some p → passes p ≡ true
passes_step passes q rest p deep (Some r) there b here found = deep (there ∙ simp there at found)
passes_step passes q rest p deep None there true here found = let e : Some q ≡ Some p = simp (there, here) at found in let same : q ≡ p = cc in ap passes (sym same) ∙ here
passes_step passes q rest p deep None there false here found = let e : None ≡ Some p = simp (there, here) at found in cc

-- what is found passes
pub earliest_passes : (passes : Posted → Bool) (ps : List Posted) (p : Posted) → earliest passes ps ≡ Some p → passes p ≡ true
earliest_passes passes [] p found = cc
earliest_passes passes (q ∷ rest) p found = passes_step passes q rest p (earliest_passes passes rest p) (earliest passes rest) refl (passes q) refl found

-- two tests that agree find the same
pub earliest_alike : (a b : Posted → Bool) (ps : List Posted) → ((p : Posted) → a p ≡ b p) → earliest a ps ≡ earliest b ps
earliest_alike a b [] alike = refl
earliest_alike a b (q ∷ rest) alike = rw (earliest_alike a b rest alike, alike q) refl

pub earliest_none : (a : Posted → Bool) (ps : List Posted) → ((p : Posted) → a p ≡ false) → earliest a ps ≡ None
earliest_none a [] never = refl
earliest_none a (q ∷ rest) never = rw (earliest_none a rest never, never q) refl

-- a number that isn't reached has no command
pub earliest_past : (ps : List Posted) (s : ℕ) → IsNumbered ps → length ps ≤ s → earliest (λ p. p.seq == s) ps ≡ None
earliest_past [] s n far = refl
earliest_past (q ∷ rest) s n far =
    let r = earliest_past rest s n.1 (omega arith) in
    let e : (q.seq == s) ≡ false = let d = n.0 in grind (arith, nat_tests, d) in
    rw (r, e) refl

there_step : (a : Posted → Bool) (q : Posted) (rest : List Posted) → (o : Option Posted) → earliest a rest ≡ o → is_some (earliest a rest) ≡ true → is_some (earliest a (q ∷ rest)) ≡ true
there_step a q rest (Some r) there h = rw there refl
there_step a q rest None there h = let k : false ≡ true = simp there at h in cc

-- a number that is reached has one
pub earliest_there : (ps : List Posted) (s : ℕ) → IsNumbered ps → s < length ps → is_some (earliest (λ p. p.seq == s) ps) ≡ true
earliest_there [] s n near = absurd (omega arith)
earliest_there (q ∷ rest) s n near = elim (cases_lt s (length rest)) [
  | inl f ↦ there_step (λ p. p.seq == s) q rest (earliest (λ p. p.seq == s) rest) refl (earliest_there rest s n.1 f)
  | inr f ↦
      let r = earliest_past rest s n.1 f in
      let here : (q.seq == s) ≡ true = let d = n.0 in grind (arith, nat_tests, d) in
      rw (r, here) refl
]

from_step : (a b : Posted → Bool) (q : Posted) (rest : List Posted) → (o : Option Posted) → earliest b rest ≡ o → is_some (earliest b rest) ≡ true → earliest a rest ≡ earliest b rest → earliest a (q ∷ rest) ≡ earliest b (q ∷ rest)
from_step a b q rest (Some r) there h same = rw (same, there) refl
from_step a b q rest None there h same = let k : false ≡ true = simp there at h in cc

-- the earliest from a number on is the command of that number
pub earliest_from : (ps : List Posted) (f : ℕ) → IsNumbered ps → earliest (λ p. nat_le f p.seq) ps ≡ earliest (λ p. p.seq == f) ps
earliest_from [] f n = refl
earliest_from (q ∷ rest) f n = elim (cases_lt f (length rest)) [
  | inl e ↦ from_step (λ p. nat_le f p.seq) (λ p. p.seq == f) q rest (earliest (λ p. p.seq == f) rest) refl (earliest_there rest f n.1 e) (earliest_from rest f n.1)
  | inr e ↦
      let k = earliest_from rest f n.1 in
      let same : nat_le f q.seq ≡ (q.seq == f) = let d = n.0 in grind (arith, nat_tests, d) in
      rw (k, same) refl
]

untouched_step : (q : Posted) (rest : List Posted) (keep : Posted → Bool) (s : ℕ) → (s == q.seq) ≡ false → filter (λ p. not (s == p.seq)) (filter keep rest) ≡ filter keep rest → (b : Bool) → keep q ≡ b
    → filter (λ p. not (s == p.seq)) (filter keep (q ∷ rest)) ≡ filter keep (q ∷ rest)
untouched_step q rest keep s other r true e = simp (e, other, r) refl
untouched_step q rest keep s other r false e = simp e r

-- nothing of a number that isn't reached
pub untouched : (ps : List Posted) (keep : Posted → Bool) (s : ℕ) → IsNumbered ps → length ps ≤ s → filter (λ p. not (s == p.seq)) (filter keep ps) ≡ filter keep ps
untouched [] keep s n far = refl
untouched (q ∷ rest) keep s n far =
    let other : (s == q.seq) ≡ false = let d = n.0 in grind (arith, nat_tests, d) in
    untouched_step q rest keep s other (untouched rest keep s n.1 (omega arith)) (keep q) refl

less_here : (q : Posted) (rest : List Posted) (keep : Posted → Bool) (s : ℕ) → keep q ≡ true → (s == q.seq) ≡ true → filter (λ p. not (s == p.seq)) (filter keep rest) ≡ filter keep rest
    → length (filter (λ p. not (s == p.seq)) (filter keep (q ∷ rest))) + 1 ≡ length (filter keep (q ∷ rest))
less_here q rest keep s e same r = simp (e, same, r) (omega arith)

less_there : (q : Posted) (rest : List Posted) (keep : Posted → Bool) (s : ℕ) → (s == q.seq) ≡ false → length (filter (λ p. not (s == p.seq)) (filter keep rest)) + 1 ≡ length (filter keep rest) → (b : Bool) → keep q ≡ b
    → length (filter (λ p. not (s == p.seq)) (filter keep (q ∷ rest))) + 1 ≡ length (filter keep (q ∷ rest))
less_there q rest keep s other r true e = simp (e, other) (omega (arith, r))
less_there q rest keep s other r false e = simp e r

down_step : (a : Posted → Bool) (q : Posted) (rest : List Posted) (p : Posted) → a q ≡ false → earliest a (q ∷ rest) ≡ Some p → (o : Option Posted) → earliest a rest ≡ o → earliest a rest ≡ Some p
down_step a q rest p other found (Some r) there = there ∙ simp (there, other) at found
down_step a q rest p other found None there = let e : None ≡ Some p = simp (there, other) at found in cc

here_step : (a : Posted → Bool) (q : Posted) (rest : List Posted) (p : Posted) → earliest a rest ≡ None → a q ≡ true → earliest a (q ∷ rest) ≡ Some p → q ≡ p
here_step a q rest p none here found = let e : Some q ≡ Some p = simp (none, here) at found in cc

-- of a number that is kept there is just one
pub one_less : (ps : List Posted) (keep : Posted → Bool) (s : ℕ) (p : Posted) → IsNumbered ps → earliest (λ p. p.seq == s) ps ≡ Some p → keep p ≡ true
    → length (filter (λ p. not (s == p.seq)) (filter keep ps)) + 1 ≡ length (filter keep ps)
one_less [] keep s p n found kept = cc
one_less (q ∷ rest) keep s p n found kept = elim (cases_eq s (length rest)) [
  | inl same ↦
      let none = earliest_past rest s n.1 (omega arith) in
      let here : (q.seq == s) ≡ true = let d = n.0 in grind (arith, nat_tests, d) in
      let here_too : (s == q.seq) ≡ true = let d = n.0 in grind (arith, nat_tests, d) in
      let is_p = here_step (λ p. p.seq == s) q rest p none here found in
      less_here q rest keep s (ap keep is_p ∙ kept) here_too (untouched rest keep s n.1 (omega arith))
  | inr other ↦
      let off : (q.seq == s) ≡ false = let d = n.0 in grind (arith, nat_tests, d) in
      let off_too : (s == q.seq) ≡ false = let d = n.0 in grind (arith, nat_tests, d) in
      let deeper = down_step (λ p. p.seq == s) q rest p off found (earliest (λ p. p.seq == s) rest) refl in
      less_there q rest keep s off_too (one_less rest keep s p n.1 deeper kept) (keep q) refl
]
