-- The hex of a list in parts.
use Rattle.std.proofs.Common.{◌≡◌, ℕ, ◌+◌, List, [], ◌∷◌, ◌++◌, length, ◌≤◌, refl, sym, ap, ◌∙◌, append_assoc, arith}
use Rattle.std.specs.Prelude.{take, drop, ◌/◌, ◌%◌, slice_index}
use Rattle.std.proofs.lemmas.List.{take-append-drop, take-append-le, length-append, drop-drop, drop_all, append-nil}
use Rattle.hex.specs.Hex.{lower_digits, encode_with, encode_lower}

pub encode_append : (t xs ys : List ℕ) → encode_with t (xs ++ ys) ≡ encode_with t xs ++ encode_with t ys
unfolding encode_with
encode_append t [] ys = refl
encode_append t (x ∷ xs) ys = ap (λ (rest : List ℕ). slice_index t (x / 16) ∷ slice_index t (x % 16) ∷ rest) (encode_append t xs ys)

pub hex_append : (xs ys : List ℕ) → encode_lower (xs ++ ys) ≡ encode_lower xs ++ encode_lower ys
hex_append xs ys = encode_append lower_digits xs ys

pub hex_parts : (bytes : List ℕ) (from count : ℕ) → encode_lower (take count (drop from bytes)) ++ encode_lower (drop (from + count) bytes) ≡ encode_lower (drop from bytes)
hex_parts bytes from count =
    ap (λ (rest : List ℕ). encode_lower (take count (drop from bytes)) ++ encode_lower rest) (sym (drop-drop count from bytes))
    ∙ sym (encode_append _ (take count (drop from bytes)) (drop count (drop from bytes)))
    ∙ ap encode_lower (take-append-drop count (drop from bytes))

-- one part on
pub part_on : (output grown start bytes : List ℕ) (from count : ℕ) → grown ≡ output ++ encode_lower (take count (drop from bytes)) → output ++ encode_lower (drop from bytes) ≡ start ++ encode_lower bytes
    → grown ++ encode_lower (drop (from + count) bytes) ≡ start ++ encode_lower bytes
part_on output grown start bytes from count is so_far =
    ap (λ (g : List ℕ). g ++ encode_lower (drop (from + count) bytes)) is
    ∙ append_assoc output (encode_lower (take count (drop from bytes))) (encode_lower (drop (from + count) bytes))
    ∙ ap (λ (rest : List ℕ). output ++ rest) (hex_parts bytes from count) ∙ so_far

pub all_parts : (output start bytes : List ℕ) (from : ℕ) → length bytes ≤ from → output ++ encode_lower (drop from bytes) ≡ start ++ encode_lower bytes → output ≡ start ++ encode_lower bytes
unfolding encode_with
all_parts output start bytes from past so_far = sym (append-nil output) ∙ ap (λ (rest : List ℕ). output ++ encode_lower rest) (sym (drop_all from bytes past)) ∙ so_far

-- what was there before is there, with more behind it
pub kept_on : (output grown start more : List ℕ) (before : ℕ) → grown ≡ output ++ more → before ≤ length output → take before output ≡ start → (before ≤ length grown) × (take before grown ≡ start)
kept_on output grown start more before is within kept =
    (omega (arith, ap length is, length-append output more), ap (take before) is ∙ take-append-le before output more within ∙ kept)
