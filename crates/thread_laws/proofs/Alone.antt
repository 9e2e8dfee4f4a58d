-- A cell in which the board alone has entries.
use Rattle.std.proofs.Common.{◌≡◌, ℕ, ◌<◌, ◌≤◌, Bool, List, [], ◌∷◌, ◌++◌, length, map, refl, sym, ap, ◌∙◌, arith, subst}
use Rattle.std.specs.List.{All}
use Rattle.std.proofs.lemmas.List.Elements.{All-head, All-tail}
use Rattle.history.specs.declared.entry.Entry.{Entry}
use Rattle.history.specs.declared.entry.Placed.{Placed}
use Rattle.history.specs.Places.{before, calls_of}
use Rattle.history.specs.Legal.{IsLegal}
use Rattle.history.proofs.LegalLemmas.{before-skip}
use Rattle.history.proofs.PlaceLemmas.{before-all}
use Rattle.journal.specs.Cells.{entry_left}
use Rattle.journal.specs.Journals.{AreBoards}
use Rattle.world_laws.proofs.Left.{mine}

module _ {C R : Type 0} where
  abbrev pub entries : List (ℕ × Entry C R) → List (Entry C R)
  entries placed = map (λ (e : ℕ × Entry C R). e.1) placed

  first_board : (e : Entry C R) (h : List (Entry C R)) → AreBoards (e ∷ h) → e.who ≡ 0
  first_board e h boards = All-head (λ (e : Entry C R). e.who ≡ 0) e h boards

  rest_boards : (e : Entry C R) (h : List (Entry C R)) → AreBoards (e ∷ h) → AreBoards h
  rest_boards e h boards = All-tail (λ (e : Entry C R). e.who ≡ 0) e h boards

  -- the board's entries are all
  entries_of : (h : List (Entry C R)) → AreBoards h → entries (calls_of 0 h) ≡ h
  entries_of [] boards = refl
  entries_of (e ∷ h) boards = ap entries (mine 0 e h (first_board e h boards)) ∙ ap (λ (l : List (Entry C R)). e ∷ l) (entries_of h (rest_boards e h boards))

  same_head : (x y : ℕ × Entry C R) (xs ys : List (ℕ × Entry C R)) → x ∷ xs ≡ y ∷ ys → (x ≡ y) × (xs ≡ ys)
  same_head x y xs ys e = (cc, cc)

  -- the board's latest entry is the latest of all
  latest_is : (e : Entry C R) (h : List (Entry C R)) (x : ℕ × Entry C R) (xs : List (ℕ × Entry C R)) → AreBoards (e ∷ h) → calls_of 0 (e ∷ h) ≡ x ∷ xs → ((length h, e) ≡ x) × (calls_of 0 h ≡ xs)
  latest_is e h x xs boards is = same_head (length h, e) x (calls_of 0 h) xs (sym (mine 0 e h (first_board e h boards)) ∙ is)

  -- an answer that left an entry
  module _ (answer : List (Entry C R) → C → R) (quiet : R → Bool) (may : ℕ → C → Type 0) (call : C) (placed : Placed R) (rest : List (ℕ × Entry C R)) where
    pub answer_left : (later : List (ℕ × Entry C R)) (h : List (Entry C R)) → AreBoards h → IsLegal answer quiet may h → calls_of 0 h ≡ later ++ entry_left 0 call placed ∷ rest → placed ≡ record { at = length (entries rest); reply = answer (entries rest) call }
    answer_left [] [] boards legal is = absurd (cc)
    answer_left (x ∷ later) [] boards legal is = absurd (cc)
    answer_left [] (e ∷ h) boards legal is =
        let both = latest_is e h (entry_left 0 call placed) rest boards is in
        let past : h ≡ entries rest = sym (entries_of h (rest_boards e h boards)) ∙ ap entries both.1 in
        let at : placed.at ≡ length (entries rest) = ap (λ (x : ℕ × Entry C R). x.0) (sym both.0) ∙ ap length past in
        let reply : placed.reply ≡ answer (entries rest) call = ap (λ (x : ℕ × Entry C R). x.1.reply) (sym both.0) ∙ (legal.0 ∙ (λ i. answer (past i) (both.0 i).1.call)) in
        λ i. record { at = at i; reply = reply i }
    answer_left (x ∷ later) (e ∷ h) boards legal is = answer_left later h (rest_boards e h boards) legal.3 (latest_is e h x (later ++ entry_left 0 call placed ∷ rest) boards is).1

  -- where all stands below a place, the history ends there
  ends_below : (at : ℕ) (h : List (Entry C R)) → AreBoards h → All (λ e. e.0 < at) (calls_of 0 h) → length h ≤ at
  ends_below at [] boards below = omega arith
  ends_below at (e ∷ h) boards below =
      All-head (λ (x : ℕ × Entry C R). x.0 < at) (length h, e) (calls_of 0 h) (subst (All (λ (x : ℕ × Entry C R). x.0 < at)) (mine 0 e h (first_board e h boards)) below)

  -- an answer that left none: behind the earlier entries, and not behind the later ones
  pub answer_between : (rest : List (ℕ × Entry C R)) (at : ℕ) (later : List (ℕ × Entry C R)) (h : List (Entry C R)) → AreBoards h → calls_of 0 h ≡ later ++ rest → at ≤ length h → All (λ e. e.0 < at) rest → All (λ e. at ≤ e.0) later
      → (at ≡ length (entries rest)) × (before at h ≡ entries rest)
  answer_between rest at [] h boards is exists behind ahead =
      let past : h ≡ entries rest = sym (entries_of h boards) ∙ ap entries is in
      let high : length h ≤ at = ends_below at h boards (subst (All (λ (e : ℕ × Entry C R). e.0 < at)) (sym is) behind) in
      let size : length h ≡ length (entries rest) = ap length past in
      (omega (arith, exists, high, size), before-all h at high ∙ past)
  answer_between rest at (x ∷ later) [] boards is exists behind ahead = absurd (cc)
  answer_between rest at (x ∷ later) (e ∷ h) boards is exists behind ahead =
      let both = latest_is e h x (later ++ rest) boards is in
      let first : at ≤ x.0 = All-head (λ (e : ℕ × Entry C R). at ≤ e.0) x later ahead in
      let place : length h ≡ x.0 = ap (λ (y : ℕ × Entry C R). y.0) both.0 in
      let low : at ≤ length h = omega (arith, first, place) in
      let below = answer_between rest at later h (rest_boards e h boards) both.1 low behind (All-tail (λ (e : ℕ × Entry C R). at ≤ e.0) x later ahead) in
      (below.0, before-skip e h at low ∙ below.1)
