-- Each actor of a script stands at one place, in the order of the definition.
use Rattle.std.proofs.Common.{◌≡◌, ℕ, zero, suc, ◌+◌, ◌-◌, ◌<◌, ◌≤◌, inl, inr, List, [], ◌∷◌, ◌++◌, length, map, refl, sym, ap, ◌∙◌, arith, append_assoc}
use Rattle.std.proofs.lemmas.Bool.{cases_lt}
use Rattle.std.proofs.lemmas.Bool.Decides.{nat_tests}
use Rattle.std.proofs.lemmas.List.{map-append}
use Rattle.board_script.specs.Limits.{first_worker, the_host}
use Rattle.board_script.specs.Script.{Whole}
use Rattle.board_script.specs.Bounds.{IsScript, IsWorker, IsActor}
use Rattle.journal.specs.Lines.{numbers}
use Rattle.journal.specs.Settling.{guests, actors}
use Rattle.board_run.specs.Places.{actor_count, who_at, IsPlaceOf}

-- ---- where an actor stands

module _ (s : Whole) where
  pub at_guest : (place : ℕ) → place ≤ length s.guests → who_at s place ≡ place
  at_guest place low = grind (arith, nat_tests, low)

  pub at_worker : (place : ℕ) → length s.guests < place → place ≤ length s.guests + s.board.workers → who_at s place ≡ 17 + (place - length s.guests - 1)
  at_worker place low high = grind (arith, nat_tests, low, high)

  pub at_host : (place : ℕ) → length s.guests + s.board.workers < place → who_at s place ≡ 25
  at_host place low = grind (arith, nat_tests, low)

-- what stands at a place: the board or a guest, a worker, or the host
pub data Stood (s : Whole) (place : ℕ) : Type 0 where
  is_guest : place ≤ length s.guests → who_at s place ≡ place → Stood s place
  is_worker : length s.guests < place → place ≤ length s.guests + s.board.workers → who_at s place ≡ 17 + (place - length s.guests - 1) → Stood s place
  is_host : length s.guests + s.board.workers < place → who_at s place ≡ 25 → Stood s place

module _ (s : Whole) where
  pub stood : (place : ℕ) → Stood s place
  stood place = elim (cases_lt (length s.guests) place) [
    | inr low ↦ is_guest low (at_guest s place low)
    | inl above ↦ elim (cases_lt (length s.guests + s.board.workers) place) [
      | inr low ↦ is_worker above low (at_worker s place above low)
      | inl beyond ↦ is_host beyond (at_host s place beyond)
    ]
  ]

module _ (s : Whole) (script : IsScript s) where
  few : (length s.guests ≤ 16) × (s.board.workers ≤ 8)
  few = (script.few_guests, script.board.few_workers)

  apart : (p q : ℕ) → length s.guests ≤ 16 → s.board.workers ≤ 8 → Stood s p → Stood s q → p < actor_count s → q < actor_count s → who_at s p ≡ who_at s q → p ≡ q
  apart p q g w (is_guest a x) (is_guest b y) hp hq same = omega (arith, x, y, same)
  apart p q g w (is_guest a x) (is_worker b c y) hp hq same = absurd (omega (arith, a, x, y, same, g))
  apart p q g w (is_guest a x) (is_host b y) hp hq same = absurd (omega (arith, a, x, y, same, g))
  apart p q g w (is_worker a c x) (is_guest b y) hp hq same = absurd (omega (arith, b, x, y, same, g))
  apart p q g w (is_worker a c x) (is_worker b d y) hp hq same = omega (arith, a, c, x, b, d, y, same)
  apart p q g w (is_worker a c x) (is_host b y) hp hq same = absurd (omega (arith, a, c, x, y, same, w))
  apart p q g w (is_host a x) (is_guest b y) hp hq same = absurd (omega (arith, b, x, y, same, g))
  apart p q g w (is_host a x) (is_worker b d y) hp hq same = absurd (omega (arith, b, d, x, y, same, w))
  apart p q g w (is_host a x) (is_host b y) hp hq same = omega (arith, a, b, hp, hq)

  -- no two of them have one number
  pub apart_at : (p q : ℕ) → p < actor_count s → q < actor_count s → who_at s p ≡ who_at s q → p ≡ q
  apart_at p q hp hq same = apart p q few.0 few.1 (stood s p) (stood s q) hp hq same

  -- the board alone has number 0
  pub some_at : (place : ℕ) → 1 ≤ place → 1 ≤ who_at s place
  some_at place low = go (stood s place)
    where
      go : Stood s place → 1 ≤ who_at s place
      go (is_guest a x) = omega (arith, low, x)
      go (is_worker a c x) = omega (arith, x)
      go (is_host a x) = omega (arith, x)

  pub number_at : (place : ℕ) → place < actor_count s → who_at s place < 26
  number_at place within = go (stood s place) few.0 few.1
    where
      go : Stood s place → length s.guests ≤ 16 → s.board.workers ≤ 8 → who_at s place < 26
      go (is_guest a x) g w = omega (arith, a, x, g)
      go (is_worker a c x) g w = omega (arith, a, c, x, w)
      go (is_host a x) g w = omega (arith, x)

-- ---- all of them in order

numbers_split : (from a b : ℕ) → numbers from (a + b) ≡ numbers from a ++ numbers (from + a) b
numbers_split from zero b = let e : 0 + b ≡ b = omega arith in let f : from + 0 ≡ from = omega arith in ap (numbers from) e ∙ ap (λ (n : ℕ). numbers n b) (sym f)
numbers_split from (suc a) b =
    let e : suc a + b ≡ suc (a + b) = omega arith in
    let f : from + 1 + a ≡ from + suc a = omega arith in
    ap (numbers from) e ∙ ap (λ (rest : List ℕ). from ∷ rest) (numbers_split (from + 1) a b ∙ ap (λ (n : ℕ). numbers (from + 1) a ++ numbers n b) f)

shifted : (f : ℕ → ℕ) (from to count : ℕ) → ((i : ℕ) → i < count → f (from + i) ≡ to + i) → map f (numbers from count) ≡ numbers to count
shifted f from to zero same = refl
shifted f from to (suc count) same =
    let here : f from ≡ to = let a : from + 0 ≡ from = omega arith in let b : to + 0 ≡ to = omega arith in ap f (sym a) ∙ (same 0 (omega arith) ∙ b) in
    let rest = shifted f (from + 1) (to + 1) count
    (λ i less. let a : from + 1 + i ≡ from + (i + 1) = omega arith in let b : to + (i + 1) ≡ to + 1 + i = omega arith in ap f a ∙ (same (i + 1) (omega (arith, less)) ∙ b)) in
    ap (λ (n : ℕ). n ∷ map f (numbers (from + 1) count)) here ∙ ap (λ (l : List ℕ). to ∷ l) rest

module _ (s : Whole) where
  pub guests_in_order : map (who_at s) (numbers 1 (length s.guests)) ≡ guests s
  guests_in_order = shifted (who_at s) 1 1 (length s.guests) (λ i less. at_guest s (1 + i) (omega (arith, less)))

  workers_in_order : map (who_at s) (numbers (1 + length s.guests) s.board.workers) ≡ numbers first_worker s.board.workers
  workers_in_order = shifted (who_at s) (1 + length s.guests) first_worker s.board.workers
      (λ i less. let is = at_worker s (1 + length s.guests + i) (omega arith) (omega (arith, less)) in omega (arith, is))

  pub actors_in_order : map (who_at s) (numbers 1 (actor_count s - 1)) ≡ actors s
  actors_in_order =
      let g : ℕ = length s.guests in
      let w : ℕ = s.board.workers in
      let all : actor_count s - 1 ≡ g + (w + 1) = omega arith in
      let host : map (who_at s) (numbers (1 + g + w) 1) ≡ the_host ∷ [] = ap (λ (n : ℕ). n ∷ []) (at_host s (1 + g + w) (omega arith)) in
      let last = map-append (who_at s) (numbers (1 + g) w) (numbers (1 + g + w) 1) ∙ (λ i. workers_in_order i ++ host i) in
      ap (λ (n : ℕ). map (who_at s) (numbers 1 n)) all
      ∙ (ap (map (who_at s)) (numbers_split 1 g (w + 1) ∙ ap (λ (l : List ℕ). numbers 1 g ++ l) (numbers_split (1 + g) w 1))
      ∙ (map-append (who_at s) (numbers 1 g) (numbers (1 + g) w ++ numbers (1 + g + w) 1)
      ∙ ((λ i. guests_in_order i ++ last i) ∙ sym (append_assoc (guests s) (numbers first_worker w) (the_host ∷ [])))))

-- one number more
numbers_suc : (from count : ℕ) → numbers from (suc count) ≡ numbers from count ++ (from + count) ∷ []
numbers_suc from count = let e : suc count ≡ count + 1 = omega arith in ap (numbers from) e ∙ numbers_split from count 1

pub placed_more : (f : ℕ → ℕ) (place : ℕ) → 1 ≤ place → map f (numbers 1 (place + 1 - 1)) ≡ map f (numbers 1 (place - 1)) ++ f place ∷ []
placed_more f place low =
    let e : place + 1 - 1 ≡ suc (place - 1) = omega (arith, low) in
    let n : 1 + (place - 1) ≡ place = omega (arith, low) in
    ap (λ (k : ℕ). map f (numbers 1 k)) e ∙ (ap (map f) (numbers_suc 1 (place - 1)) ∙ (map-append f (numbers 1 (place - 1)) ((1 + (place - 1)) ∷ []) ∙ ap (λ (k : ℕ). map f (numbers 1 (place - 1)) ++ f k ∷ []) n))

-- ---- the place of an actor

module _ (s : Whole) (script : IsScript s) (who : ℕ) where
  pub guest_place : IsActor s.board.workers s.guests who → who ≤ length s.guests → IsPlaceOf s who who
  guest_place (inl g) high = let low = g.low in record { low = low; within = omega (arith, high); is = at_guest s who high }
  guest_place (inr (inl w)) high = let low = w.low in let most : length s.guests ≤ 16 = script.few_guests in absurd (omega (arith, low, high, most))
  guest_place (inr (inr h)) high = let most : length s.guests ≤ 16 = script.few_guests in absurd (omega (arith, h, high, most))

  pub a_worker : IsActor s.board.workers s.guests who → length s.guests < who → who < 25 → IsWorker s.board.workers who
  a_worker (inl g) above below = let exists = g.exists in absurd (omega (arith, exists, above))
  a_worker (inr (inl w)) above below = w
  a_worker (inr (inr h)) above below = absurd (omega (arith, h, below))

  pub worker_place : IsWorker s.board.workers who → IsPlaceOf s who (length s.guests + 1 + (who - 17))
  worker_place w =
      let low = w.low in
      let high = w.exists in
      let place : ℕ = length s.guests + 1 + (who - 17) in
      let at = at_worker s place (omega arith) (omega (arith, low, high)) in
      record { low = omega arith; within = omega (arith, low, high); is = omega (arith, at, low) }

  pub host_place : IsActor s.board.workers s.guests who → length s.guests < who → 25 ≤ who → IsPlaceOf s who (length s.guests + 1 + s.board.workers)
  host_place (inl g) above far = let exists = g.exists in absurd (omega (arith, exists, above))
  host_place (inr (inl w)) above far = let high = w.exists in let few : s.board.workers ≤ 8 = script.board.few_workers in absurd (omega (arith, high, far, few))
  host_place (inr (inr h)) above far = record { low = omega arith; within = omega arith; is = at_host s (length s.guests + 1 + s.board.workers) (omega arith) ∙ sym h }
