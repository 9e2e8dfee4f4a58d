-- Bytes that are written in hex are a word, and read as themselves.
use Rattle.std.proofs.Common.{◌≡◌, ℕ, ◌<◌, Bool, true, false, cond, List, [], ◌∷◌, length, get_or, Some, None, ap, ◌∙◌, arith}
use Rattle.std.specs.Prelude.{◌==◌}
use Rattle.std.specs.List.{list_all}
use Rattle.std.specs.Result.{result_ok}
use Rattle.std.proofs.lemmas.Bool.Decides.{nat_tests}
use Rattle.std.proofs.lemmas.List.Sums.{list_all-from_AllPass}
use Rattle.hex.specs.Hex.{IsBytes, decode_of, encode_lower, is_hex_digit, lower_digits}
use Rattle.hex.proofs.HexLemmas.{decode_of-encode_lower, decode_of-ok, length-encode_with}
use Rattle.board_text.specs.Hex.{hex_bytes}
use Rattle.script_words.specs.Words.{is_word, is_printable}

plain_hex : (c : ℕ) → is_hex_digit c ≡ true → is_printable c ≡ true
plain_hex c p = grind (arith, nat_tests)

plain_text : (bytes : List ℕ) → IsBytes bytes → list_all is_printable (encode_lower bytes) ≡ true
plain_text bytes each =
    let digits = (decode_of-ok (encode_lower bytes) bytes (decode_of-encode_lower bytes each)).1 in
    list_all-from_AllPass is_printable (encode_lower bytes) (λ k d lt. plain_hex (get_or (encode_lower bytes) k d) (digits k d lt))

word_from : (word : List ℕ) → 0 < length word → list_all is_printable word ≡ true → is_word word ≡ true
word_from [] some p = absurd (omega arith)
word_from (byte ∷ bytes) some p = p

has_digits : (bytes : List ℕ) → 0 < length bytes → 0 < length (encode_lower bytes)
has_digits bytes some = omega (arith, length-encode_with lower_digits bytes)

pub hex_word : (bytes : List ℕ) → IsBytes bytes → 0 < length bytes → is_word (encode_lower bytes) ≡ true
hex_word bytes each some = word_from (encode_lower bytes) (has_digits bytes some) (plain_text bytes each)

not_empty : (n : ℕ) → 0 < n → (n == 0) ≡ false
not_empty n some = grind (arith, nat_tests)

pub hex_again : (bytes : List ℕ) → IsBytes bytes → 0 < length bytes → hex_bytes (encode_lower bytes) ≡ Some bytes
hex_again bytes each some =
    ap (λ (empty : Bool). cond empty None (result_ok (decode_of (encode_lower bytes)))) (not_empty (length (encode_lower bytes)) (has_digits bytes some))
    ∙ ap result_ok (decode_of-encode_lower bytes each)
