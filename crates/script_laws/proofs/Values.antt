-- What a word stands for is what was written.
use Rattle.std.proofs.Common.{◌≡◌, ℕ, ◌^◌, ◌<◌, ◌≤◌, Bool, true, cond, nat_lt, nat_le, List, length, Result, Ok, Err, ap, ◌∙◌, arith}
use Rattle.std.specs.Prelude.{◌&&◌}
use Rattle.std.specs.Fmt.{decimal}
use Rattle.std.proofs.lemmas.Bool.{and_from}
use Rattle.std.proofs.lemmas.Bool.Decides.{nat_tests}
use Rattle.hex.specs.Hex.{IsBytes, encode_lower}
use Rattle.board_text.specs.Number.{number_of}
use Rattle.board_text.specs.Hex.{hex_bytes}
use Rattle.byte_fields.specs.Sizes.{is_queue_size}
use Rattle.script_words.specs.declared.cause.Cause.{Cause}
use Rattle.script_words.specs.declared.cause.Cause.TheVariants as cause
use Rattle.script_words.specs.Values.{◌>>=◌, when, within, number_in, any_number, is_width, width_at, queue_size_at, bytes_within, bytes_in, bytes_of_width, among}
use Rattle.board_script.specs.Lines.{provided}
use Rattle.script_laws.proofs.Numbers.{number_again}
use Rattle.script_laws.proofs.Hexes.{hex_again}

-- one step of a row
pub then_ok : {A B : Type 0} (r : Result A Cause) (x : A) (f : A → Result B Cause) → r ≡ Ok x → (r >>= f) ≡ f x
then_ok r x f e = ap (λ (s : Result _ Cause). s >>= f) e

pub when_holds : {A : Type 0} (b : Bool) (otherwise : Cause) (x : A) → b ≡ true → when b otherwise x ≡ Ok x
when_holds b otherwise x e = ap (λ (c : Bool). cond c (Ok x) (Err otherwise)) e

pub provided_holds : (b : Bool) (otherwise : Cause) → b ≡ true → provided b otherwise ≡ Ok tt
provided_holds b otherwise e = when_holds b otherwise tt e

pub upto : (a b : ℕ) → a ≤ b → nat_le a b ≡ true
upto a b le = grind (arith, nat_tests)

below : (a b : ℕ) → a < b → nat_lt a b ≡ true
below a b lt = grind (arith, nat_tests)

pub number_in_again : (low high n : ℕ) → low ≤ n → n ≤ high → high < 2 ^ 64 → number_in low high (decimal n) ≡ Ok n
number_in_again low high n l h lt =
    ap (within low high) (number_again n (omega arith)) ∙ when_holds (nat_le low n && nat_le n high) cause.Number n (and_from _ _ (upto low n l) (upto n high h))

pub any_number_again : (n : ℕ) → n < 2 ^ 64 → any_number (number_of (decimal n)) ≡ Ok n
any_number_again n lt = ap any_number (number_again n lt)

pub among_again : (low end n : ℕ) → low ≤ n → n < end → end < 2 ^ 64 → among low end (number_of (decimal n)) ≡ Ok n
among_again low end n l h lt = ap (among low end) (number_again n (omega arith)) ∙ when_holds (nat_le low n && nat_lt n end) cause.Actor n (and_from _ _ (upto low n l) (below n end h))

pub width_fits : (n : ℕ) → is_width n ≡ true → (0 < n) × (n ≤ 4)
width_fits n w = (grind (arith, nat_tests), grind (arith, nat_tests))

pub width_again : (n : ℕ) → is_width n ≡ true → width_at (number_of (decimal n)) ≡ Ok n
width_again n w = let fits = width_fits n w in ap width_at (number_again n (omega arith)) ∙ when_holds (is_width n) cause.Number n w

pub size_fits : (n : ℕ) → is_queue_size n ≡ true → n ≤ 256
size_fits n s = grind (arith, nat_tests)

pub queue_size_again : (n : ℕ) → is_queue_size n ≡ true → queue_size_at (number_of (decimal n)) ≡ Ok n
queue_size_again n s = let fits = size_fits n s in ap queue_size_at (number_again n (omega arith)) ∙ when_holds (is_queue_size n) cause.Number n s

pub bytes_in_again : (low high : ℕ) (bytes : List ℕ) → IsBytes bytes → 0 < length bytes → low ≤ length bytes → length bytes ≤ high → bytes_in low high (encode_lower bytes) ≡ Ok bytes
bytes_in_again low high bytes each some l h =
    ap (bytes_within low high) (hex_again bytes each some)
    ∙ when_holds (nat_le low (length bytes) && nat_le (length bytes) high) cause.Range bytes (and_from _ _ (upto low (length bytes) l) (upto (length bytes) high h))

pub short_bytes_again : (bytes : List ℕ) → IsBytes bytes → is_width (length bytes) ≡ true → bytes_of_width (hex_bytes (encode_lower bytes)) ≡ Ok bytes
short_bytes_again bytes each w =
    ap bytes_of_width (hex_again bytes each (width_fits (length bytes) w).0) ∙ when_holds (is_width (length bytes)) cause.Range bytes w
