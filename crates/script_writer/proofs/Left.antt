-- What is written and what is left to write are all that is to be written.
use Rattle.std.proofs.Common.{◌≡◌, ℕ, zero, suc, ◌+◌, ◌/◌, ◌%◌, ◌<◌, ◌≤◌, List, [], ◌∷◌, ◌++◌, length, drop, slice_index, Some, sym, ap, ◌∙◌, append_assoc, arith}
use Rattle.std.specs.Prelude.{map}
use Rattle.std.specs.List.{flat_map, slice_get}
use Rattle.std.proofs.lemmas.List.{append-nil, drop_all}
use Rattle.hex.specs.Hex.{encode_lower, encode_with, lower_digits}
use Rattle.hex.proofs.Pairs.{encode_with-drop}
use Rattle.board_script.specs.declared.script.Setup.{Setup}
use Rattle.script_writer.specs.Written.{guest_words, guest_lines, line_text}

pub digits_left : (all text bytes : List ℕ) (i high low : ℕ) → i < length bytes → high ≡ slice_index lower_digits (slice_index bytes i / 16) → low ≡ slice_index lower_digits (slice_index bytes i % 16)
    → text ++ encode_lower (drop i bytes) ≡ all → ((text ++ high ∷ []) ++ low ∷ []) ++ encode_lower (drop (i + 1) bytes) ≡ all
digits_left all text bytes i high low lt h l left = rw (append_assoc, append_assoc, h, l) (rw (encode_with-drop lower_digits bytes i lt) at left)

pub no_digits_left : (all text bytes : List ℕ) (i : ℕ) → length bytes ≤ i → text ++ encode_lower (drop i bytes) ≡ all → text ≡ all
unfolding encode_with
no_digits_left all text bytes i le left = let none : drop i bytes ≡ [] = drop_all i bytes le in sym (append-nil text) ∙ ap (λ (r : List ℕ). text ++ encode_lower r) (sym none) ∙ left

after_place : {A : Type 0} (xs : List A) (i : ℕ) (x : A) → slice_get xs i ≡ Some x → drop i xs ≡ x ∷ drop (suc i) xs
after_place [] i x e = absurd cc
after_place (first ∷ xs) zero x e = ap (λ y. y ∷ xs) cc
after_place (first ∷ xs) (suc i) x e = after_place xs i x e

pub after_item : {A : Type 0} (xs : List A) (i : ℕ) (x : A) → slice_get xs i ≡ Some x → drop i xs ≡ x ∷ drop (i + 1) xs
after_item xs i x e = let next : suc i ≡ i + 1 = omega arith in after_place xs i x e ∙ ap (λ (n : ℕ). x ∷ drop n xs) next

pub lines_left : {A : Type 0} (words : A → List (List ℕ)) (all text : List ℕ) (xs : List A) (i : ℕ) (x : A) → slice_get xs i ≡ Some x
    → text ++ flat_map line_text (map words (drop i xs)) ≡ all → (text ++ line_text (words x)) ++ flat_map line_text (map words (drop (i + 1) xs)) ≡ all
lines_left words all text xs i x is left =
    append_assoc text (line_text (words x)) (flat_map line_text (map words (drop (i + 1) xs))) ∙ ap (λ (r : List _). text ++ flat_map line_text (map words r)) (sym (after_item xs i x is)) ∙ left

pub guests_left : (all text : List ℕ) (setups : List Setup) (i : ℕ) (setup : Setup) → slice_get setups i ≡ Some setup
    → text ++ flat_map line_text (guest_lines (i + 1) (drop i setups)) ≡ all → (text ++ line_text (guest_words (i + 1) setup)) ++ flat_map line_text (guest_lines (i + 1 + 1) (drop (i + 1) setups)) ≡ all
guests_left all text setups i setup is left =
    append_assoc text (line_text (guest_words (i + 1) setup)) (flat_map line_text (guest_lines (i + 1 + 1) (drop (i + 1) setups)))
    ∙ ap (λ (r : List Setup). text ++ flat_map line_text (guest_lines (i + 1) r)) (sym (after_item setups i setup is)) ∙ left
