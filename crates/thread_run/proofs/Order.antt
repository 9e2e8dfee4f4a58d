-- Which numbers act, in their order.
use Rattle.std.proofs.Common.{◌≡◌, inl, inr, ◌⊎◌, ℕ, zero, suc, ◌+◌, ◌-◌, ◌<◌, ◌≤◌, Bool, true, false, List, [], ◌∷◌, ◌++◌, length, map, Some, slice_get, sym, refl, ap, ◌∙◌, arith, append_assoc}
use Rattle.std.specs.Prelude.{filter, nat_le, nat_lt, ◌==◌, ◌&&◌, ◌||◌}
use Rattle.std.proofs.lemmas.Bool.{or_cases, and_parts, and_from, or_left, or_right, leb-true, ltb-true, eqb-true, le-leb, lt-ltb, eq-eqb, false_from_ne_true, cases_lt}
use Rattle.std.proofs.lemmas.List.{append-nil, length-map}
use Rattle.std.proofs.lemmas.List.Elements.{filter-append}
use Rattle.std.proofs.lemmas.Option.{slice_get_within, same_Some}
use Rattle.history.specs.Limits.{actor_limit}
use Rattle.board_script.specs.Limits.{first_worker, the_host}
use Rattle.board_script.specs.Script.{Whole}
use Rattle.board_script.specs.Bounds.{IsScript, IsActor}
use Rattle.journal.specs.Lines.{numbers}
use Rattle.journal.specs.Settling.{actors}
use Rattle.board_run.specs.Places.{actor_count, who_at, IsPlaceOf}
use Rattle.board_run.proofs.Places.{Stood, is_guest, is_worker, is_host, stood, actors_in_order, guest_place, worker_place, host_place, a_worker}
use Rattle.thread_run.specs.declared.job.Job.{Job}
use Rattle.thread_run.specs.Homes.{acts}
use Rattle.thread_run.proofs.Lists.{map_up}

-- ---- numbers

numbers_split : (from a b : ℕ) → numbers from (a + b) ≡ numbers from a ++ numbers (from + a) b
numbers_split from zero b = let e : 0 + b ≡ b = omega arith in let f : from + 0 ≡ from = omega arith in ap (numbers from) e ∙ ap (λ (n : ℕ). numbers n b) (sym f)
numbers_split from (suc a) b =
    let e : suc a + b ≡ suc (a + b) = omega arith in
    let f : from + 1 + a ≡ from + suc a = omega arith in
    ap (numbers from) e ∙ ap (λ (rest : List ℕ). from ∷ rest) (numbers_split (from + 1) a b ∙ ap (λ (n : ℕ). numbers (from + 1) a ++ numbers n b) f)

number_here : (from count i : ℕ) → i < count → slice_get (numbers from count) i ≡ Some (from + i)
number_here from zero i low = absurd (omega (arith, low))
number_here from (suc count) zero low = let e : from ≡ from + 0 = omega arith in ap Some e
number_here from (suc count) (suc i) low = let e : from + 1 + i ≡ from + suc i = omega arith in number_here (from + 1) count i (omega (arith, low)) ∙ ap Some e

how_many : (from count : ℕ) → length (numbers from count) ≡ count
how_many from zero = refl
how_many from (suc count) = ap suc (how_many (from + 1) count)

module _ (test : ℕ → Bool) where
  all_pass : (from count : ℕ) → ((i : ℕ) → i < count → test (from + i) ≡ true) → filter test (numbers from count) ≡ numbers from count
  all_pass from zero pass = refl
  all_pass from (suc count) pass =
      let here : test from ≡ true = let e : from ≡ from + 0 = omega arith in ap test e ∙ pass 0 (omega arith) in
      let rest = all_pass (from + 1) count (λ i low. let e : from + 1 + i ≡ from + suc i = omega arith in ap test e ∙ pass (suc i) (omega (arith, low))) in
      rw here (ap (λ (l : List ℕ). from ∷ l) rest)

  none_pass : (from count : ℕ) → ((i : ℕ) → i < count → test (from + i) ≡ false) → filter test (numbers from count) ≡ []
  none_pass from zero pass = refl
  none_pass from (suc count) pass =
      let here : test from ≡ false = let e : from ≡ from + 0 = omega arith in ap test e ∙ pass 0 (omega arith) in
      let rest = none_pass (from + 1) count (λ i low. let e : from + 1 + i ≡ from + suc i = omega arith in ap test e ∙ pass (suc i) (omega (arith, low))) in
      rw here rest

  -- with one number more
  one_more : (n : ℕ) → 1 ≤ n → filter test (numbers 1 (n + 1 - 1)) ≡ filter test (numbers 1 (n - 1)) ++ filter test (n ∷ [])
  one_more n low =
      let e : n + 1 - 1 ≡ n - 1 + 1 = omega (arith, low) in
      let m : 1 + (n - 1) ≡ n = omega (arith, low) in
      ap (λ (k : ℕ). filter test (numbers 1 k)) e ∙ (ap (filter test) (numbers_split 1 (n - 1) 1) ∙ (filter-append test (numbers 1 (n - 1)) (numbers (1 + (n - 1)) 1) ∙ ap (λ (k : ℕ). filter test (numbers 1 (n - 1)) ++ filter test (k ∷ [])) m))

  pub more_where : (n : ℕ) → 1 ≤ n → test n ≡ true → filter test (numbers 1 (n + 1 - 1)) ≡ filter test (numbers 1 (n - 1)) ++ n ∷ []
  more_where n low passes = one_more n low ∙ rw passes refl

  pub no_more_where : (n : ℕ) → 1 ≤ n → test n ≡ false → filter test (numbers 1 (n + 1 - 1)) ≡ filter test (numbers 1 (n - 1))
  no_more_where n low fails = one_more n low ∙ rw fails (append-nil (filter test (numbers 1 (n - 1))))

-- ---- who acts

module _ (s : Whole) where
  abbrev of_guests : ℕ → Bool
  of_guests k = nat_le 1 k && nat_le k (length s.guests)

  abbrev of_workers : ℕ → Bool
  of_workers k = nat_le first_worker k && nat_lt k (first_worker + s.board.workers)

  pub acting : (k : ℕ) → acts s k ≡ true → IsActor s.board.workers s.guests k
  acting k is = go (or_cases (of_guests k || of_workers k) (k == the_host) is)
    where
      others : (of_guests k ≡ true) ⊎ (of_workers k ≡ true) → IsActor s.board.workers s.guests k
      others (inl guest) = let b = and_parts (nat_le 1 k) (nat_le k (length s.guests)) guest in inl (record { low = leb-true 1 k b.0; exists = leb-true k (length s.guests) b.1 })
      others (inr worker) = let b = and_parts (nat_le first_worker k) (nat_lt k (first_worker + s.board.workers)) worker in inr (inl (record { low = leb-true first_worker k b.0; exists = ltb-true k (first_worker + s.board.workers) b.1 }))

      go : ((of_guests k || of_workers k) ≡ true) ⊎ ((k == the_host) ≡ true) → IsActor s.board.workers s.guests k
      go (inl other) = others (or_cases (of_guests k) (of_workers k) other)
      go (inr host) = inr (inr (eqb-true k the_host host))

  pub acts_where : (k : ℕ) → IsActor s.board.workers s.guests k → acts s k ≡ true
  acts_where k (inl guest) = or_left (of_guests k || of_workers k) (k == the_host) (or_left (of_guests k) (of_workers k) (and_from (nat_le 1 k) (nat_le k (length s.guests)) (le-leb 1 k guest.low) (le-leb k (length s.guests) guest.exists)))
  acts_where k (inr (inl worker)) = or_left (of_guests k || of_workers k) (k == the_host) (or_right (of_guests k) (of_workers k) (and_from (nat_le first_worker k) (nat_lt k (first_worker + s.board.workers)) (le-leb first_worker k worker.low) (lt-ltb k (first_worker + s.board.workers) worker.exists)))
  acts_where k (inr (inr host)) = or_right (of_guests k || of_workers k) (k == the_host) (eq-eqb k the_host host)

  pub acts_at : (place : ℕ) → 1 ≤ place → acts s (who_at s place) ≡ true
  acts_at place low = go (stood s place)
    where
      go : Stood s place → acts s (who_at s place) ≡ true
      go (is_guest high is) = acts_where (who_at s place) (inl (record { low = omega (arith, is, low); exists = omega (arith, is, high) }))
      go (is_worker above high is) = acts_where (who_at s place) (inr (inl (record { low = omega (arith, is); exists = omega (arith, is, above, high) })))
      go (is_host above is) = acts_where (who_at s place) (inr (inr is))

module _ (s : Whole) (script : IsScript s) where
  none_act : (k : ℕ) → (IsActor s.board.workers s.guests k → ⊥) → acts s k ≡ false
  none_act k none = false_from_ne_true (acts s k) (λ is. none (acting s k is))

  -- those who act are the actors of the script
  all_acting : filter (acts s) (numbers 1 25) ≡ actors s
  all_acting =
      let g : ℕ = length s.guests in
      let w : ℕ = s.board.workers in
      let few : g ≤ 16 = script.few_guests in
      let fewer : w ≤ 8 = script.board.few_workers in
      let all : 25 ≡ g + (16 - g + (w + (8 - w + 1))) = omega (arith, few, fewer) in
      let b : 1 + g + (16 - g) ≡ 17 = omega (arith, few) in
      let d : 17 + w + (8 - w) ≡ 25 = omega (arith, fewer) in
      let test = acts s in
      let first : filter test (numbers 1 g) ≡ numbers 1 g = all_pass test 1 g (λ i low. acts_where s (1 + i) (inl (record { low = omega arith; exists = omega (arith, low) }))) in
      let second : filter test (numbers (1 + g) (16 - g)) ≡ [] = none_pass test (1 + g) (16 - g) (λ i low. none_act (1 + g + i) (λ a. no_actor few fewer (1 + g + i) (omega arith) (omega (arith, low)) a)) in
      let third : filter test (numbers 17 w) ≡ numbers 17 w = all_pass test 17 w (λ i low. acts_where s (17 + i) (inr (inl (record { low = omega arith; exists = omega (arith, low) })))) in
      let fourth : filter test (numbers (17 + w) (8 - w)) ≡ [] = none_pass test (17 + w) (8 - w) (λ i low. none_act (17 + w + i) (λ a. no_worker few (17 + w + i) (omega arith) (omega (arith, low)) a)) in
      let last : filter test (numbers 25 1) ≡ the_host ∷ [] = all_pass test 25 1 (λ i low. acts_where s (25 + i) (inr (inr (omega (arith, low))))) in
      ap (λ (n : ℕ). filter test (numbers 1 n)) all
      ∙ (parts 1 g (16 - g + (w + (8 - w + 1)))
      ∙ ((λ i. first i ++ (parts (1 + g) (16 - g) (w + (8 - w + 1))
      ∙ ((λ j. second j ++ filter test (numbers (b j) (w + (8 - w + 1))))
      ∙ (parts 17 w (8 - w + 1)
      ∙ (λ j. third j ++ (parts (17 + w) (8 - w) 1 ∙ (λ k. fourth k ++ (ap (λ (n : ℕ). filter test (numbers n 1)) d ∙ last) k)) j)))) i)
      ∙ sym (append_assoc (numbers 1 g) (numbers 17 w) (the_host ∷ []))))
    where
      parts : (from a b : ℕ) → filter (acts s) (numbers from (a + b)) ≡ filter (acts s) (numbers from a) ++ filter (acts s) (numbers (from + a) b)
      parts from a b = ap (filter (acts s)) (numbers_split from a b) ∙ filter-append (acts s) (numbers from a) (numbers (from + a) b)

      no_actor : length s.guests ≤ 16 → s.board.workers ≤ 8 → (k : ℕ) → length s.guests < k → k < 17 → IsActor s.board.workers s.guests k → ⊥
      no_actor few fewer k low high (inl guest) = let e = guest.exists in absurd (omega (arith, low, e))
      no_actor few fewer k low high (inr (inl worker)) = let e = worker.low in absurd (omega (arith, high, e))
      no_actor few fewer k low high (inr (inr host)) = absurd (omega (arith, high, host))

      no_worker : length s.guests ≤ 16 → (k : ℕ) → 17 + s.board.workers ≤ k → k < 25 → IsActor s.board.workers s.guests k → ⊥
      no_worker few k low high (inl guest) = let e = guest.exists in absurd (omega (arith, low, few, e))
      no_worker few k low high (inr (inl worker)) = let e = worker.exists in absurd (omega (arith, low, e))
      no_worker few k low high (inr (inr host)) = absurd (omega (arith, high, host))

  pub in_order : filter (acts s) (numbers 1 (actor_limit - 1)) ≡ map (who_at s) (numbers 1 (actor_count s - 1))
  in_order = all_acting ∙ sym (actors_in_order s)

  -- where it stands among them
  pub place_found : (k : ℕ) → acts s k ≡ true → (place : ℕ) × IsPlaceOf s k place
  place_found k is = go (acting s k is) (cases_lt (length s.guests) k) (cases_lt k 25)
    where
      go : IsActor s.board.workers s.guests k → (length s.guests < k) ⊎ (k ≤ length s.guests) → (k < 25) ⊎ (25 ≤ k) → (place : ℕ) × IsPlaceOf s k place
      go a (inr low) far = (k, guest_place s script k a low)
      go a (inl above) (inl near) = (length s.guests + 1 + (k - 17), worker_place s script k (a_worker s script k a above near))
      go a (inl above) (inr far) = (length s.guests + 1 + s.board.workers, host_place s script k a above far)

  pub acts_low : (k : ℕ) → acts s k ≡ true → k < actor_limit
  acts_low k is = go (acting s k is)
    where
      go : IsActor s.board.workers s.guests k → k < actor_limit
      go (inl guest) = let e = guest.exists in let few : length s.guests ≤ 16 = script.few_guests in omega (arith, e, few)
      go (inr (inl worker)) = let e = worker.exists in let few : s.board.workers ≤ 8 = script.board.few_workers in omega (arith, e, few)
      go (inr (inr host)) = omega (arith, host)

-- ---- their jobs

module _ (s : Whole) (jobs : List Job) (order : map (λ job. job.keys.who) jobs ≡ map (who_at s) (numbers 1 (actor_count s - 1))) where
  pub all_jobs : length jobs ≡ actor_count s - 1
  all_jobs = sym (length-map jobs (λ (job : Job). job.keys.who)) ∙ (ap length order ∙ (length-map (numbers 1 (actor_count s - 1)) (who_at s) ∙ how_many 1 (actor_count s - 1)))

  pub job_number : (i : ℕ) (job : Job) → slice_get jobs i ≡ Some job → job.keys.who ≡ who_at s (i + 1)
  job_number i job at =
      let low : i < actor_count s - 1 = let within = slice_get_within jobs i job at in let all = all_jobs in omega (arith, within, all) in
      let number : 1 + i ≡ i + 1 = omega arith in
      same_Some job.keys.who (who_at s (i + 1)) (sym (map_up (λ (j : Job). j.keys.who) jobs i job at) ∙ (ap (λ (l : List ℕ). slice_get l i) order ∙ (map_up (who_at s) (numbers 1 (actor_count s - 1)) i (1 + i) (number_here 1 (actor_count s - 1) i low) ∙ ap (λ (n : ℕ). Some (who_at s n)) number)))

  pub job_acts : (i : ℕ) (job : Job) → slice_get jobs i ≡ Some job → acts s job.keys.who ≡ true
  job_acts i job at = ap (acts s) (job_number i job at) ∙ acts_at s (i + 1) (omega arith)
