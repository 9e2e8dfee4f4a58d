-- Turns of one actor after another, and of the schedule, one more at a time.
use Rattle.std.proofs.Common.{◌≡◌, ◌≢◌, ◌==◌, ℕ, zero, suc, ◌+◌, ◌≤◌, List, [], ◌∷◌, ◌++◌, length, Some, refl, sym, ap, ◌∙◌, subst, arith, take, ne_eqb}
use Rattle.std.specs.Prelude.{flat_map, replicate}
use Rattle.std.specs.List.{slice_get}
use Rattle.std.proofs.lemmas.List.{append-nil}
use Rattle.std.proofs.lemmas.Grind.{flat_map-append}
use Rattle.board_script.specs.declared.script.Turns.{Turns}
use Rattle.board_script.specs.Script.{Whole}
use Rattle.journal.specs.Journals.{Journal}
use Rattle.journal.specs.Worlds.{turn, scheduled_turn, run, schedule}
use Rattle.journal.specs.Settling.{Test, while_it, enough, each_while}
use Rattle.world_laws.proofs.Pasts.{IsTurned, turned_same, turned_more, turn_turned}

module _ (s : Whole) where
  -- one actor more
  pub each_more : (test : Test) (xs : List ℕ) (who : ℕ) (j : Journal) → each_while test s (xs ++ who ∷ []) j ≡ while_it test s who (enough s who) (each_while test s xs j)
  each_more test [] who j = refl
  each_more test (x ∷ xs) who j = each_more test xs who (while_it test s x (enough s x) j)

  pub run_joined : (xs ys : List ℕ) (j : Journal) → run s (xs ++ ys) j ≡ run s ys (run s xs j)
  run_joined [] ys j = refl
  run_joined (x ∷ xs) ys j = run_joined xs ys (scheduled_turn s j x (x == 0))

  -- one turn more, which isn't the board's
  pub run_once : (who : ℕ) (j : Journal) → 1 ≤ who → run s (who ∷ []) j ≡ turn s j who
  run_once who j some = let other : who ≢ 0 = λ e. absurd (omega (arith, e, some)) in ap (scheduled_turn s j who) (ne_eqb who 0 other)

replicate_suc : (n who : ℕ) → replicate (suc n) who ≡ replicate n who ++ who ∷ []
replicate_suc zero who = refl
replicate_suc (suc n) who = ap (λ (l : List ℕ). who ∷ l) (replicate_suc n who)

pub often_more : (s : Whole) (who n : ℕ) (j : Journal) → 1 ≤ who → run s (replicate (n + 1) who) j ≡ turn s (run s (replicate n who) j) who
often_more s who n j some =
    let e : n + 1 ≡ suc n = omega arith in
    ap (λ (m : ℕ). run s (replicate m who) j) e ∙ (ap (λ (l : List ℕ). run s l j) (replicate_suc n who) ∙ (run_joined s (replicate n who) (who ∷ []) j ∙ run_once s who (run s (replicate n who) j) some))

-- ---- the schedule

-- its first pairs
abbrev pub turns_before : Whole → ℕ → List ℕ
turns_before s index = flat_map (λ t. replicate t.count t.who) (take index s.turns)

take_suc : {X : Type 0} (xs : List X) (i : ℕ) (x : X) → slice_get xs i ≡ Some x → take (suc i) xs ≡ take i xs ++ x ∷ []
take_suc [] i x at = absurd (cc)
take_suc (y ∷ ys) zero x at = let same : y ≡ x = cc in ap (λ z. z ∷ []) same
take_suc (y ∷ ys) (suc i) x at = ap (λ l. y ∷ l) (take_suc ys i x at)

take_all : {X : Type 0} (xs : List X) (n : ℕ) → length xs ≤ n → take n xs ≡ xs
take_all [] zero le = refl
take_all [] (suc n) le = refl
take_all (x ∷ xs) zero le = absurd (omega arith)
take_all (x ∷ xs) (suc n) le = ap (λ l. x ∷ l) (take_all xs n (omega (arith, le)))

-- one pair more
pub pair_more : (s : Whole) (index : ℕ) (t : Turns) (j : Journal) → slice_get s.turns index ≡ Some t → run s (turns_before s (index + 1)) j ≡ run s (replicate t.count t.who) (run s (turns_before s index) j)
pair_more s index t j at =
    let e : index + 1 ≡ suc index = omega arith in
    let each : Turns → List ℕ = λ t. replicate t.count t.who in
    let split : turns_before s (index + 1) ≡ turns_before s index ++ replicate t.count t.who =
    ap (λ (n : ℕ). flat_map each (take n s.turns)) e ∙ (ap (flat_map each) (take_suc s.turns index t at) ∙ (flat_map-append each (take index s.turns) (t ∷ []) ∙ ap (λ (l : List ℕ). turns_before s index ++ l) (append-nil (replicate t.count t.who)))) in
    ap (λ (l : List ℕ). run s l j) split ∙ run_joined s (turns_before s index) (replicate t.count t.who) j

pub pairs_all : (s : Whole) (index : ℕ) (j : Journal) → length s.turns ≤ index → run s (turns_before s index) j ≡ run s (schedule s) j
pairs_all s index j all = ap (λ (l : List Turns). run s (flat_map (λ t. replicate t.count t.who) l) j) (take_all s.turns index all)

-- turns of one actor leave the others
pub often_turned : (s : Whole) (who n : ℕ) (j : Journal) → 1 ≤ who → IsTurned who j (run s (replicate n who) j)
often_turned s who zero j some = turned_same who j
often_turned s who (suc n) j some = subst (λ (k : Journal). IsTurned who j (run s (replicate n who) k)) (sym (run_once s who j some)) (turned_more who j (turn s j who) (run s (replicate n who) (turn s j who)) (turn_turned s who j) (often_turned s who n (turn s j who) some))
