-- A number that is written is a word of digits, and reads as itself.
use Rattle.std.proofs.Common.{◌≡◌, ℕ, ◌+◌, ◌%◌, ◌^◌, ◌<◌, ◌≤◌, Bool, true, false, cond, nat_lt, List, [], ◌∷◌, length, get_or, Some, None, refl, ap, ◌∙◌, arith, ◌⊎◌, inl, inr}
use Rattle.std.specs.Prelude.{◌==◌, not}
use Rattle.std.specs.List.{list_all}
use Rattle.std.specs.Char.{is_ascii_digit}
use Rattle.std.specs.Fmt.{decimal}
use Rattle.std.specs.Str.Parse.{digits_value}
use Rattle.std.proofs.lemmas.Fmt.{decimal_is_IsNumeral, decimal_nonempty, first_decimal, decimal_by_steps, decimal_digit}
use Rattle.std.proofs.lemmas.Bool.Decides.{nat_tests}
use Rattle.std.proofs.lemmas.Bool.{and_parts, and_from, and_left, and_right, cases_lt}
use Rattle.std.proofs.lemmas.List.Folds.{list_all-append}
use Rattle.board_text.specs.Number.{number_of, is_number, has_extra_zero}
use Rattle.script_words.specs.Words.{is_word, is_printable, are_digits}

digit_test : (c : ℕ) → 48 ≤ c → c ≤ 57 → is_ascii_digit c ≡ true
digit_test c low high = grind (arith, nat_tests)

digits_all : (n : ℕ) → n < 2 ^ 64 → list_all is_ascii_digit (decimal n) ≡ true
digits_all n lt =
    decimal_by_steps (λ n ds. list_all is_ascii_digit ds ≡ true) (λ m h. and_from _ _ (digit_test (48 + m) (omega arith) (omega arith)) refl)
    (λ m ds h p. list_all-append is_ascii_digit ds ((48 + m % 10) ∷ []) ∙ and_from _ _ p (and_from _ _ (digit_test (48 + m % 10) (omega arith) (omega arith)) refl)) n lt

not_above : (n : ℕ) → n ≤ 1 → nat_lt 1 n ≡ false
not_above n le = grind (arith, nat_tests)

not_zero : (c : ℕ) → 48 < c → (c == 48) ≡ false
not_zero c lt = grind (arith, nat_tests)

no_extra_zero : (text : List ℕ) → (length text ≡ 1) ⊎ (48 < get_or text 0 0) → has_extra_zero text ≡ false
no_extra_zero text (inl one) = and_left _ _ (not_above (length text) (omega arith))
no_extra_zero text (inr more) = and_right _ _ (not_zero (get_or text 0 0) more)

above : (a b : ℕ) → a < b → nat_lt a b ≡ true
above a b lt = grind (arith, nat_tests)

small : (n : ℕ) (text : List ℕ) → n < 2 ^ 64 → list_all is_ascii_digit text ≡ true → digits_value 10 text ≡ n → 0 < length text → has_extra_zero text ≡ false → number_of text ≡ Some n
small n text lt digits value some zero =
    let below : digits_value 10 text < 2 ^ 64 = omega (arith, value, lt) in
    let e : is_number text ≡ true = and_from _ _ (and_from _ _ (above 0 (length text) some) (ap not zero)) (and_from _ _ digits (above (digits_value 10 text) (2 ^ 64) below)) in
    ap (λ (b : Bool). cond b (Some (digits_value 10 text)) None) e ∙ ap (λ (v : ℕ). Some v) value

short_or_plain : (n : ℕ) → n < 2 ^ 64 → (length (decimal n) ≡ 1) ⊎ (48 < get_or (decimal n) 0 0)
short_or_plain n lt =
    elim (cases_lt n 10) [
      | inl few ↦ inl (ap length (decimal_digit n few))
      | inr many ↦ inr (first_decimal n (omega arith) lt)
    ]

pub number_again : (n : ℕ) → n < 2 ^ 64 → number_of (decimal n) ≡ Some n
number_again n lt = small n (decimal n) lt (digits_all n lt) (decimal_is_IsNumeral n lt).1 (decimal_nonempty n lt) (no_extra_zero (decimal n) (short_or_plain n lt))

plain_digit : (c : ℕ) → is_ascii_digit c ≡ true → is_printable c ≡ true
plain_digit c p = grind (arith, nat_tests)

plain_digits : (ds : List ℕ) → list_all is_ascii_digit ds ≡ true → list_all is_printable ds ≡ true
plain_digits [] p = refl
plain_digits (d ∷ ds) p = let q = and_parts (is_ascii_digit d) (list_all is_ascii_digit ds) p in and_from _ _ (plain_digit d q.0) (plain_digits ds q.1)

-- the digits behind a letter
pub plain_number : (n : ℕ) → n < 2 ^ 64 → list_all is_printable (decimal n) ≡ true
plain_number n lt = plain_digits (decimal n) (digits_all n lt)

word_of_digits : (ds : List ℕ) → 0 < length ds → list_all is_ascii_digit ds ≡ true → (is_word ds ≡ true) × (are_digits ds ≡ true)
word_of_digits [] lt p = absurd (omega arith)
word_of_digits (d ∷ ds) lt p = (plain_digits (d ∷ ds) p, p)

word_and_digits : (n : ℕ) → n < 2 ^ 64 → (is_word (decimal n) ≡ true) × (are_digits (decimal n) ≡ true)
word_and_digits n lt = word_of_digits (decimal n) (decimal_nonempty n lt) (digits_all n lt)

pub number_word : (n : ℕ) → n < 2 ^ 64 → is_word (decimal n) ≡ true
number_word n lt = (word_and_digits n lt).0

pub number_digits : (n : ℕ) → n < 2 ^ 64 → are_digits (decimal n) ≡ true
number_digits n lt = (word_and_digits n lt).1
