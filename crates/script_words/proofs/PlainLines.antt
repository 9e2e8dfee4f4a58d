-- The words of a line by its bytes alone.
use Rattle.std.proofs.Common.{◌≡◌, ℕ, ◌+◌, ◌<◌, ◌≤◌, Bool, true, false, not, cond, List, [], ◌∷◌, ◌++◌, length, get_or, drop, refl, ◌∙◌, arith, inl, inr}
use Rattle.std.specs.Prelude.{◌==◌, ◌&&◌, ◌||◌, nat_le}
use Rattle.std.specs.List.{list_all, onto_first}
use Rattle.std.proofs.lemmas.Bool.{cases_lt, eqb-true, eqb-false, ne_eqb, le-leb, lt-leb}
use Rattle.std.proofs.lemmas.List.{drop_more, drop_all}
use Rattle.script_words.specs.Words.{words_of, are_words, is_printable}
use Rattle.script_words.specs.Kept.{may_follow, goes_on}

-- the rest of a word that has begun, and the words after it
abbrev rest_are_words : List (List ℕ) → Bool
rest_are_words [] = true
rest_are_words (word ∷ words) = list_all is_printable word && are_words words

abbrev in_line : ℕ → Bool
in_line byte = nat_le 32 byte && nat_le byte 126

space_in_line : (byte : ℕ) → byte ≡ 32 → in_line byte ≡ true
space_in_line byte e = rw e refl

other_in_line : (byte : ℕ) → (byte == 32) ≡ false → in_line byte ≡ is_printable byte
other_in_line byte e =
    elim (cases_lt 32 byte) [
      | inl above ↦ rw (le-leb 32 byte (omega arith), le-leb 33 byte (omega arith)) refl
      | inr below ↦
          let under : byte < 32 = elim (cases_lt byte 32) [ inl lt ↦ lt | inr le ↦ absurd (eqb-false byte 32 e (omega arith)) ] in
          rw (lt-leb 32 byte under, lt-leb 33 byte (omega arith)) refl
    ]

regroup : (a b c : Bool) → ((a && b) && c) ≡ (a && (b && c))
regroup false b c = refl
regroup true b c = refl

without_true : (a : Bool) → ((a && true) && true) ≡ (a && true)
without_true false = refl
without_true true = refl

onto_first-rest : (byte : ℕ) (words : List (List ℕ)) → rest_are_words (onto_first byte words) ≡ (is_printable byte && rest_are_words words)
onto_first-rest byte [] = without_true (is_printable byte)
onto_first-rest byte (word ∷ words) = regroup (is_printable byte) (list_all is_printable word) (are_words words)

onto_first-words : (byte : ℕ) (words : List (List ℕ)) → are_words (onto_first byte words) ≡ (is_printable byte && rest_are_words words)
onto_first-words byte [] = without_true (is_printable byte)
onto_first-words byte (word ∷ words) = regroup (is_printable byte) (list_all is_printable word) (are_words words)

-- a space
at_space : (good behind words : Bool) (rest : Bool) → ((good && (true && (not behind || false))) && words) ≡ (good && cond behind (false && words) (true && words))
at_space false behind words rest = refl
at_space true true words rest = refl
at_space true false words rest = refl

-- another byte
at_other : (good behind printable words : Bool) → ((good && (printable && (not behind || true))) && words) ≡ (good && (printable && words))
at_other false behind printable words = refl
at_other true behind false words = refl
at_other true true true words = refl
at_other true false true words = refl

same_either : {A : Type 0} (behind : Bool) (x y z : A) → x ≡ z → y ≡ z → cond behind x y ≡ z
same_either true x y z p q = p
same_either false x y z p q = q

abbrev said : Bool → List ℕ → Bool
said behind text = cond behind (are_words (words_of text)) (rest_are_words (words_of text))

step : (good : Bool) (before byte : ℕ) (behind space : Bool) (rest : List ℕ) → (before == 32) ≡ behind → (byte == 32) ≡ space → ((g : Bool) → goes_on g byte rest ≡ (g && said space rest))
    → goes_on good before (byte ∷ rest) ≡ (good && said behind (byte ∷ rest))
step good before byte behind true rest e f h =
    h (good && may_follow before byte) ∙ rw (e, f, space_in_line byte (eqb-true byte 32 f)) (at_space good behind (are_words (words_of rest)) true)
step good before byte behind false rest e f h =
    let all : cond behind (are_words (onto_first byte (words_of rest))) (rest_are_words (onto_first byte (words_of rest))) ≡ (is_printable byte && rest_are_words (words_of rest)) =
    same_either behind _ _ _ (onto_first-words byte (words_of rest)) (onto_first-rest byte (words_of rest)) in
    h (good && may_follow before byte) ∙ rw (e, f, other_in_line byte f, all) (at_other good behind (is_printable byte) (rest_are_words (words_of rest)))

at_end : (good behind : Bool) → (good && not behind) ≡ (good && cond behind false true)
at_end good true = refl
at_end good false = refl

goes_on-said : (good : Bool) (before : ℕ) (behind : Bool) (text : List ℕ) → (before == 32) ≡ behind → goes_on good before text ≡ (good && said behind text)
goes_on-said good before behind [] e = rw e (at_end good behind)
goes_on-said good before behind (byte ∷ rest) e = step good before byte behind (byte == 32) rest e refl (λ g. goes_on-said g byte (byte == 32) rest refl)

pub goes_on-words : (text : List ℕ) → goes_on true 32 text ≡ are_words (words_of text)
goes_on-words text = goes_on-said true 32 true text refl

-- ---- one byte on

pub goes_on-more : (text : List ℕ) (place : ℕ) (good : Bool) (before : ℕ) → place < length text
    → goes_on good before (drop place text) ≡ goes_on (good && may_follow before (get_or text place 0)) (get_or text place 0) (drop (place + 1) text)
goes_on-more text place good before lt = rw (drop_more text place 0 lt) refl

pub goes_on-none : (before : ℕ) (text : List ℕ) → goes_on false before text ≡ false
goes_on-none before [] = refl
goes_on-none before (byte ∷ rest) = goes_on-none byte rest

pub goes_on-stops : (text : List ℕ) (place before : ℕ) → place < length text → may_follow before (get_or text place 0) ≡ false → goes_on true before (drop place text) ≡ false
goes_on-stops text place before lt h = goes_on-more text place true before lt ∙ rw h (goes_on-none (get_or text place 0) (drop (place + 1) text))

pub two_spaces : (before byte : ℕ) → before ≡ 32 → byte ≡ 32 → may_follow before byte ≡ false
two_spaces before byte e f = rw (e, f) refl

pub unprintable : (before byte : ℕ) → (byte ≡ 32 → ⊥) → is_printable byte ≡ false → may_follow before byte ≡ false
unprintable before byte other fails = rw (other_in_line byte (ne_eqb byte 32 other), fails) refl

pub goes_on-ended : (text : List ℕ) (place : ℕ) (good : Bool) (before : ℕ) → length text ≤ place → goes_on good before (drop place text) ≡ (good && not (before == 32))
goes_on-ended text place good before le = rw (drop_all place text le) refl

-- ---- in front of a rest

pub goes_on-front : (front rest : List ℕ) (place : ℕ) (good : Bool) (before : ℕ) → place < length front
    → goes_on good before (drop place front ++ rest) ≡ goes_on (good && may_follow before (get_or front place 0)) (get_or front place 0) (drop (place + 1) front ++ rest)
goes_on-front front rest place good before lt = rw (drop_more front place 0 lt) refl

pub goes_on-rest : (front rest : List ℕ) (place : ℕ) (good : Bool) (before : ℕ) → length front ≤ place → goes_on good before (drop place front ++ rest) ≡ goes_on good before rest
goes_on-rest front rest place good before le = rw (drop_all place front le) refl
