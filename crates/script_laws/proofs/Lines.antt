-- A text that is written has the written lines, and a line the written words.
use Rattle.std.proofs.Common.{◌≡◌, ℕ, Bool, true, false, cond, List, [], ◌∷◌, ◌++◌, get_or, refl, ap, ◌∙◌, arith, append_assoc}
use Rattle.std.specs.Prelude.{◌==◌, not, map}
use Rattle.std.specs.List.{flat_map, list_all, onto_first, All}
use Rattle.std.proofs.lemmas.Bool.{and_parts, and_from}
use Rattle.std.proofs.lemmas.Bool.Decides.{nat_tests}
use Rattle.std.proofs.lemmas.List.{append-nil}
use Rattle.std.proofs.lemmas.List.Folds.{list_all-append}
use Rattle.std.proofs.lemmas.List.Splits.{slice_split_at, slice_split_none}
use Rattle.std.proofs.lemmas.List.Sums.{AllPass-from_list_all}
use Rattle.board_text.specs.Line.{lines_of}
use Rattle.script_words.specs.Words.{words_of, is_word, is_printable, are_words}
use Rattle.script_writer.specs.Written.{spaced, line_text}

-- ---- the words of a line

not_space : (b : ℕ) → is_printable b ≡ true → (b == 32) ≡ false
not_space b p = grind (arith, nat_tests)

no_space_in : (bytes : List ℕ) → is_word bytes ≡ true → All (λ b. (b == 32) ≡ false) bytes
no_space_in [] p = absurd cc
no_space_in (b ∷ bytes) p = λ k d lt. not_space (get_or (b ∷ bytes) k d) (AllPass-from_list_all is_printable (b ∷ bytes) p k d lt)

pub words_again : (first : List ℕ) (others : List (List ℕ)) → are_words (first ∷ others) ≡ true → words_of (first ++ spaced others) ≡ first ∷ others
words_again first [] p = ap words_of (append-nil first) ∙ slice_split_none (λ b. b == 32) first (no_space_in first (and_parts (is_word first) true p).0)
words_again first (next ∷ others) p =
    let q = and_parts (is_word first) (are_words (next ∷ others)) p in
    slice_split_at (λ b. b == 32) first 32 (next ++ spaced others) (no_space_in first q.0) refl ∙ ap (λ (w : List (List ℕ)). first ∷ w) (words_again next others q.1)

-- ---- the lines of a text

abbrev pub line_of : List (List ℕ) → List ℕ
line_of [] = []
line_of (first ∷ others) = first ++ spaced others

-- one word or more
abbrev pub is_line : List (List ℕ) → Bool
is_line [] = false
is_line (first ∷ others) = are_words (first ∷ others)

abbrev is_inner : ℕ → Bool
is_inner byte = not (byte == 10)

not_end : (b : ℕ) → is_printable b ≡ true → (b == 10) ≡ false
not_end b p = grind (arith, nat_tests)

inner_byte : (b : ℕ) → is_printable b ≡ true → is_inner b ≡ true
inner_byte b p = ap not (not_end b p)

inner_bytes : (bytes : List ℕ) → list_all is_printable bytes ≡ true → list_all is_inner bytes ≡ true
inner_bytes [] p = refl
inner_bytes (b ∷ bytes) p = let q = and_parts (is_printable b) (list_all is_printable bytes) p in and_from _ _ (inner_byte b q.0) (inner_bytes bytes q.1)

inner_word : (word : List ℕ) → is_word word ≡ true → list_all is_inner word ≡ true
inner_word [] p = refl
inner_word (b ∷ bytes) p = inner_bytes (b ∷ bytes) p

inner_others : (words : List (List ℕ)) → are_words words ≡ true → list_all is_inner (spaced words) ≡ true
inner_others [] p = refl
inner_others (word ∷ words) p =
    let q = and_parts (is_word word) (are_words words) p in
    list_all-append is_inner word (spaced words) ∙ and_from _ _ (inner_word word q.0) (inner_others words q.1)

is_false : (t : Bool) → not t ≡ true → t ≡ false
is_false true e = absurd cc
is_false false e = refl

front_line : (front rest : List ℕ) → list_all is_inner front ≡ true → lines_of (front ++ 10 ∷ rest) ≡ front ∷ lines_of rest
front_line [] rest p = refl
front_line (b ∷ front) rest p =
    let q = and_parts (is_inner b) (list_all is_inner front) p in
    ap (λ (t : Bool). cond t ([] ∷ lines_of (front ++ 10 ∷ rest)) (onto_first b (lines_of (front ++ 10 ∷ rest)))) (is_false (b == 10) q.0) ∙ ap (onto_first b) (front_line front rest q.1)

pub lines_again : (lines : List (List (List ℕ))) → list_all is_line lines ≡ true → lines_of (flat_map line_text lines) ≡ map line_of lines
lines_again [] p = refl
lines_again ([] ∷ lines) p = absurd cc
lines_again ((first ∷ others) ∷ lines) p =
    let q = and_parts (are_words (first ∷ others)) (list_all is_line lines) p in
    let w = and_parts (is_word first) (are_words others) q.0 in
    let inner : list_all is_inner (first ++ spaced others) ≡ true = list_all-append is_inner first (spaced others) ∙ and_from _ _ (inner_word first w.0) (inner_others others w.1) in
    ap lines_of (append_assoc (first ++ spaced others) (10 ∷ []) (flat_map line_text lines))
    ∙ front_line (first ++ spaced others) (flat_map line_text lines) inner ∙ ap (λ (l : List (List ℕ)). (first ++ spaced others) ∷ l) (lines_again lines q.1)
