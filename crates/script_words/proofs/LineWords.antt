-- Words of a line, taken off one after another.
use Rattle.std.proofs.Common.{◌≡◌, ℕ, ◌+◌, ◌≤◌, Bool, true, false, cond, List, [], ◌∷◌, length, take, drop, Some, None, refl, sym, ap, ◌∙◌, arith}
use Rattle.std.proofs.lemmas.Bool.Decides.{nat_tests}
use Rattle.std.specs.Prelude.{◌==◌, ◌||◌, position, count_by}
use Rattle.std.specs.List.{position_or_len, list_any, onto_first}
use Rattle.std.proofs.lemmas.Bool.{ltb-true, ltb-false}
use Rattle.std.proofs.lemmas.List.Sums.{fails_before_first}
use Rattle.std.proofs.lemmas.List.Splits.{slice_split_first, slice_split_none, length-slice_split}
use Rattle.script_words.specs.Words.{words_of, one_of}

abbrev is_space : ℕ → Bool
is_space byte = byte == 32

found : (b : Bool) (n m : ℕ) → Some m ≡ cond b (Some n) None → (b ≡ true) × (n ≡ m)
found true n m e = (refl, cc)
found false n m e = absurd cc

missing : (b : Bool) (n : ℕ) → None ≡ cond b (Some n) None → b ≡ false
missing true n e = absurd cc
missing false n e = refl

pub words_of-first : (text : List ℕ) (place : ℕ) → Some place ≡ position is_space text → words_of text ≡ take place text ∷ words_of (drop (place + 1) text)
words_of-first text place e =
    let f = found _ (position_or_len is_space text) place e in
    rw (← f.1) (slice_split_first is_space text 0 (ltb-true _ _ f.0))

pub words_of-last : (text : List ℕ) → None ≡ position is_space text → words_of text ≡ text ∷ []
words_of-last text e =
    let all : length text ≤ position_or_len is_space text = ltb-false _ _ (missing _ (position_or_len is_space text) e) in
    slice_split_none is_space text (λ k d lt. fails_before_first is_space text k d (omega arith))

above_zero : (n : ℕ) → false ≡ (n + 1 == 0)
above_zero n = grind (arith, nat_tests)

-- what a reader of words shows, by whether it has ended
pub left_first : (now : List (List ℕ)) (ended : Bool) (text : List ℕ) (place : ℕ) → now ≡ cond ended [] (words_of text) → ended ≡ false → Some place ≡ position is_space text
    → now ≡ take place text ∷ words_of (drop (place + 1) text)
left_first now true text place e f p = absurd cc
left_first now false text place e f p = e ∙ words_of-first text place p

pub left_last : (now : List (List ℕ)) (ended : Bool) (text : List ℕ) → now ≡ cond ended [] (words_of text) → ended ≡ false → None ≡ position is_space text → now ≡ text ∷ []
left_last now true text e f p = absurd cc
left_last now false text e f p = e ∙ words_of-last text p

pub left_none : (now : List (List ℕ)) (ended : Bool) (text : List ℕ) → now ≡ cond ended [] (words_of text) → ended ≡ (length now == 0)
left_none now true text e = rw e refl
left_none now false text e = rw (e, length-slice_split) (above_zero (count_by is_space text))

-- ---- the last words, by the spaces between them

or_none : (a b : Bool) → (a || b) ≡ false → (a ≡ false) × (b ≡ false)
or_none false b h = (refl, h)
or_none true b h = absurd cc

-- no space: one word
pub words_of-one : (text : List ℕ) → list_any is_space text ≡ false → words_of text ≡ text ∷ []
words_of-one [] h = refl
words_of-one (byte ∷ rest) h =
    let parts = or_none (byte == 32) (list_any is_space rest) h in
    rw (parts.0, words_of-one rest parts.1) refl

onto_first-many : (byte : ℕ) (words : List (List ℕ)) → 2 ≤ length words → 2 ≤ length (onto_first byte words)
onto_first-many byte [] h = absurd (omega arith)
onto_first-many byte (word ∷ words) h = h

many_on : (space : Bool) (byte : ℕ) (rest : List ℕ) → (space || list_any is_space rest) ≡ true → (list_any is_space rest ≡ true → 2 ≤ length (words_of rest)) → 2 ≤ length (cond space ([] ∷ words_of rest) (onto_first byte (words_of rest)))
many_on true byte rest h later = omega (arith, length-slice_split is_space rest)
many_on false byte rest h later = onto_first-many byte (words_of rest) (later h)

many : (text : List ℕ) → list_any is_space text ≡ true → 2 ≤ length (words_of text)
many [] h = absurd cc
many (byte ∷ rest) h = many_on (byte == 32) byte rest h (many rest)

one_of-many : (words : List (List ℕ)) → 2 ≤ length words → one_of words ≡ None
one_of-many [] h = refl
one_of-many (a ∷ []) h = absurd (omega arith)
one_of-many (a ∷ b ∷ more) h = refl

-- a space: more than one
words_of-many : (text : List ℕ) → list_any is_space text ≡ true → one_of (words_of text) ≡ None
words_of-many text h = one_of-many (words_of text) (many text h)

pub one_many : (now : List (List ℕ)) (ended : Bool) (text : List ℕ) → now ≡ cond ended [] (words_of text) → ended ≡ false → list_any is_space text ≡ true → None ≡ one_of now
one_many now true text e f h = absurd cc
one_many now false text e f h = sym (ap one_of e ∙ words_of-many text h)

pub one_left : (now : List (List ℕ)) (ended : Bool) (text : List ℕ) → now ≡ cond ended [] (words_of text) → ended ≡ false → list_any is_space text ≡ false → Some text ≡ one_of now
one_left now true text e f h = absurd cc
one_left now false text e f h = sym (ap one_of (e ∙ words_of-one text h))
