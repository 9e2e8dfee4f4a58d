-- A cell of which the board saw the beginning alone, and to which it came last.
use Rattle.std.proofs.Common.{◌≡◌, ◌≢◌, ℕ, ◌+◌, ◌<◌, ◌≤◌, inl, inr, List, [], ◌∷◌, ◌++◌, length, take, refl, sym, ap, ◌∙◌, arith, subst, length-append}
use Rattle.std.specs.List.{All}
use Rattle.std.proofs.lemmas.Bool.{cases_eq}
use Rattle.std.proofs.lemmas.List.{append-nil}
use Rattle.std.proofs.lemmas.List.Elements.{All-nil, All-cons, All-head, All-tail}
use Rattle.history.specs.declared.entry.Entry.{Entry}
use Rattle.history.specs.Places.{before, calls_of}
use Rattle.history.proofs.PlaceLemmas.{before-all}
use Rattle.journal.specs.Journals.{AreBoards, IsFramed}
use Rattle.world_laws.proofs.Left.{mine, not_mine, places_below}
use Rattle.world_laws.proofs.Frames.{boards_added, boards_part}
use Rattle.thread_laws.specs.Gathered.{IsOrdered}
use Rattle.thread_laws.proofs.Seen.{before_still, calls_still}

neither : {X : Type 0} (n : ℕ) (xs : List (ℕ × X)) → All (λ x. x.0 < n) xs → All (λ x. n ≤ x.0) xs → xs ≡ []
neither n [] low high = refl
neither {X = X} n (x ∷ xs) low high =
    let a : x.0 < n = All-head (λ (x : ℕ × X). x.0 < n) x xs low in
    let b : n ≤ x.0 = All-head (λ (x : ℕ × X). n ≤ x.0) x xs high in
    absurd (omega (arith, a, b))

module _ {C R : Type 0} (up : List (Entry C R)) (seen : ℕ → List (Entry C R)) where
  -- the last entries are the board's, since no other actor has one at the place of the board's last ones
  last_are : (news rest : List (ℕ × Entry C R)) (h : List (Entry C R)) → calls_of 0 h ≡ news ++ rest → ((who : ℕ) → who ≢ 0 → All (λ e. e.0 < length (seen who)) (calls_of who h)) → ((who : ℕ) → who ≢ 0 → All (λ e. length (seen who) ≤ e.0) news)
      → AreBoards (take (length news) h)
  last_are [] rest h is low high = All-nil (λ (e : Entry C R). e.who ≡ 0)
  last_are (n ∷ news) rest [] is low high = All-nil (λ (e : Entry C R). e.who ≡ 0)
  last_are (n ∷ news) rest (e ∷ h) is low high = elim (cases_eq e.who 0) [
    | inl board ↦
        let now : (length h, e) ∷ calls_of 0 h ≡ n ∷ (news ++ rest) = sym (mine 0 e h board) ∙ is in
        let further : calls_of 0 h ≡ news ++ rest = cc in
        All-cons (λ (e : Entry C R). e.who ≡ 0) e (take (length news) h) board (last_are news rest h further
        (λ who other. subst (All (λ (x : ℕ × Entry C R). x.0 < length (seen who))) (not_mine who e h (λ same. other (sym same ∙ board))) (low who other))
        (λ who other. All-tail (λ (x : ℕ × Entry C R). length (seen who) ≤ x.0) n news (high who other)))
    | inr other ↦
        let here : length h < length (seen e.who) = All-head (λ (x : ℕ × Entry C R). x.0 < length (seen e.who)) (length h, e) (calls_of e.who h) (subst (All (λ (x : ℕ × Entry C R). x.0 < length (seen e.who))) (mine e.who e h refl) (low e.who other)) in
        let boards_is : calls_of 0 h ≡ n ∷ (news ++ rest) = sym (not_mine 0 e h other) ∙ is in
        let below : n.0 < length h = All-head (λ (x : ℕ × Entry C R). x.0 < length h) n (news ++ rest) (subst (All (λ (x : ℕ × Entry C R). x.0 < length h)) boards_is (places_below 0 h (length h) (omega arith))) in
        let above : length (seen e.who) ≤ n.0 = All-head (λ (x : ℕ × Entry C R). length (seen e.who) ≤ x.0) n news (high e.who other) in
        absurd (omega (arith, here, below, above))
  ]

  module _ (history : List (Entry C R)) (x : IsOrdered up seen history) where
    -- no other actor has an entry in what the board saw
    none_other : (who : ℕ) → who ≢ 0 → calls_of who up ≡ []
    none_other who other = neither (length up) (calls_of who up) (places_below who up (length up) (omega arith)) (calls_still (λ (e : ℕ × Entry C R). length up ≤ e.0) who up history x.begins (x.behind who other))

    pub board_alone : AreBoards up
    board_alone = boards_added up [] (λ who other. ap (calls_of who) (append-nil up) ∙ none_other who other)

    up_length : length (calls_of 0 up) ≡ length up
    up_length = let a = boards_part up [] board_alone in let b : length (calls_of 0 (up ++ [])) ≡ length (calls_of 0 up) = ap (λ l. length (calls_of 0 l)) (append-nil up) in omega (arith, a, b)

    -- so many entries of the board's are the first, and so many the last
    pub cell_framed : (first last : ℕ) → first ≡ length (calls_of 0 up) → last + length (calls_of 0 up) ≡ length (calls_of 0 history) → ((who : ℕ) → who ≢ 0 → All (λ e. e.0 < length (seen who)) (calls_of who history)) → IsFramed first last history
    cell_framed first last first_is last_is low =
        let first_all : first ≡ length up = first_is ∙ up_length in
        let news_is : length (calls_of 0 history) ≡ length x.news + length (calls_of 0 up) = ap length x.own ∙ length-append x.news (calls_of 0 up) in
        let last_all : last ≡ length x.news = omega (arith, last_is, news_is) in
        record {
          begins = subst AreBoards (sym (ap (λ n. before n history) first_all ∙ (before_still up history (length up) x.begins (omega arith) ∙ before-all up (length up) (omega arith)))) board_alone;
          ends = subst (λ (n : ℕ). AreBoards (take n history)) (sym last_all) (last_are x.news (calls_of 0 up) history x.own low x.last);
        }
