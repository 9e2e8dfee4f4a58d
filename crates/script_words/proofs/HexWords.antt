-- Which texts spell bytes, and what is wrong with those that spell no piece.
use Rattle.std.proofs.Common.{◌≡◌, ℕ, ◌*◌, ◌/◌, ◌%◌, ◌<◌, ◌≤◌, ◌⊎◌, nat_le, arith, Bool, true, false, cond, List, length, refl, sym, ap, ◌∙◌, subst, Option, Some, None, Result, Ok, Err}
use Rattle.std.specs.Prelude.{is_some, IsSome, ◌==◌, ◌&&◌}
use Rattle.std.specs.Result.{result_ok}
use Rattle.std.specs.List.{list_all}
use Rattle.std.proofs.lemmas.List.Sums.{AllPass-from_list_all, list_all-from_AllPass}
use Rattle.std.proofs.lemmas.Bool.{le-leb, and_from}
use Rattle.std.proofs.lemmas.Bool.Decides.{nat_tests}
use Rattle.hex.specs.Hex.{decode_of, is_hex_digit, IsBytes}
use Rattle.hex.specs.declared.error.FromHexError.{FromHexError}
use Rattle.hex.proofs.HexLemmas.{decode_of-ok, decode_of-digits}
use Rattle.board_text.specs.Hex.{hex_bytes, hex_piece, short_bytes}
use Rattle.board_text.specs.Limits.{piece_limit}
use Rattle.script_words.specs.declared.cause.Cause.TheVariants as cause
use Rattle.script_words.specs.declared.cause.Fault.{Fault}
use Rattle.script_words.specs.declared.cause.Fault.TheVariants as fault_of
use Rattle.script_words.specs.Values.{Steps, bytes_within, bytes_in}

hex_bytes-some : (text : List ℕ) → (length text == 0) ≡ false → hex_bytes text ≡ result_ok (decode_of text)
hex_bytes-some text some = ap (λ (empty : Bool). cond empty None (result_ok (decode_of text))) some

good : (text : List ℕ) (b : Bool) (read : Result (List ℕ) FromHexError) → length text % 2 ≡ 0 → list_all is_hex_digit text ≡ b → decode_of text ≡ read → b ≡ is_some (result_ok read)
good text true (Ok bytes) even all e = refl
good text true (Err fault) even all e = let d = decode_of-digits text even (AllPass-from_list_all is_hex_digit text all) in cc (sym e ∙ d.1)
good text false (Ok bytes) even all e = cc (sym all ∙ list_all-from_AllPass is_hex_digit text (decode_of-ok text bytes e).1)
good text false (Err fault) even all e = refl

pub hex_bytes-even : (text : List ℕ) → (length text == 0) ≡ false → length text % 2 ≡ 0 → list_all is_hex_digit text ≡ is_some (hex_bytes text)
hex_bytes-even text some even = good text _ _ even refl refl ∙ ap is_some (sym (hex_bytes-some text some))

-- what a text spells are bytes
each_of : (text : List ℕ) (read : Result (List ℕ) FromHexError) (bytes : List ℕ) → decode_of text ≡ read → result_ok read ≡ Some bytes → IsBytes bytes
each_of text (Ok found) bytes e is = let same : found ≡ bytes = cc in subst IsBytes same (decode_of-ok text found e).3
each_of text (Err fault) bytes e is = absurd cc

at_least_one : (text : List ℕ) (empty : Bool) (bytes : List ℕ) → cond empty None (result_ok (decode_of text)) ≡ Some bytes → IsBytes bytes
at_least_one text true bytes is = absurd cc
at_least_one text false bytes is = each_of text (decode_of text) bytes refl is

pub hex_bytes-each : (text bytes : List ℕ) → hex_bytes text ≡ Some bytes → IsBytes bytes
hex_bytes-each text bytes is = at_least_one text (length text == 0) bytes is

few_of : (few : Bool) (found bytes : List ℕ) → cond few (Some found) None ≡ Some bytes → found ≡ bytes
few_of true found bytes is = cc
few_of false found bytes is = absurd cc

short_of : (read : Option (List ℕ)) (text bytes : List ℕ) → hex_bytes text ≡ read → short_bytes read ≡ Some bytes → IsBytes bytes
short_of None text bytes e is = absurd cc
short_of (Some found) text bytes e is = subst IsBytes (few_of _ found bytes is) (hex_bytes-each text found e)

pub hex_piece-each : (text bytes : List ℕ) → hex_piece text ≡ Some bytes → IsBytes bytes
hex_piece-each text bytes is = short_of (hex_bytes text) text bytes refl is

-- ---- pieces

length_of : (text : List ℕ) (read : Result (List ℕ) FromHexError) (bytes : List ℕ) → decode_of text ≡ read → result_ok read ≡ Some bytes → length text ≡ 2 * length bytes
length_of text (Ok found) bytes e is = let same : found ≡ bytes = cc in subst (λ b. length text ≡ 2 * length b) same (decode_of-ok text found e).2
length_of text (Err fault) bytes e is = absurd cc

length_if : (text : List ℕ) (empty : Bool) (bytes : List ℕ) → cond empty None (result_ok (decode_of text)) ≡ Some bytes → length text ≡ 2 * length bytes
length_if text true bytes is = absurd cc
length_if text false bytes is = length_of text (decode_of text) bytes refl is

hex_bytes-length : (text bytes : List ℕ) → hex_bytes text ≡ Some bytes → length text ≡ 2 * length bytes
hex_bytes-length text bytes is = length_if text (length text == 0) bytes is

-- a text of so few digits spells a piece where it spells bytes
few_digits : (text : List ℕ) (read : Option (List ℕ)) → hex_bytes text ≡ read → length text / 2 ≤ piece_limit → short_bytes read ≡ read
few_digits text None e few = refl
few_digits text (Some bytes) e few =
    let long = hex_bytes-length text bytes e in
    ap (λ (b : Bool). cond b (Some bytes) None) (le-leb (length bytes) 256 (omega (arith, long, few)))

pub hex_piece-few : (text : List ℕ) → length text / 2 ≤ piece_limit → hex_piece text ≡ hex_bytes text
hex_piece-few text few = few_digits text (hex_bytes text) refl few

-- a number of bytes out of its bounds
outside : (low high n : ℕ) → (n < low) ⊎ (high < n) → (nat_le low n && nat_le n high) ≡ false
outside low high n out = grind (arith, nat_tests)

out_of_bounds : (text : List ℕ) (read : Option (List ℕ)) (low high : ℕ) (fault : Fault) (new : List ℕ) → hex_bytes text ≡ read → (length text / 2 < low) ⊎ (high < length text / 2)
    → (read ≡ None → fault ≡ fault_of.Bad cause.Hex) → (IsSome read → fault ≡ fault_of.Bad cause.Range) → Steps {A = List ℕ} {U = Unit {0}} (Err fault) new (bytes_within low high read)
out_of_bounds text None low high fault new e out hex range = rw (hex refl) refl
out_of_bounds text (Some bytes) low high fault new e out hex range =
    let long = hex_bytes-length text bytes e in
    let half : length text / 2 ≡ length bytes = omega (arith, long) in
    let is_out = outside low high (length bytes) (rw half at out) in
    rw (range refl) (ap (λ (b : Bool). cond b (Ok bytes) (Err cause.Range)) is_out)

pub refused_number : (text : List ℕ) (low high : ℕ) (fault : Fault) (new : List ℕ) → (length text / 2 < low) ⊎ (high < length text / 2)
    → (hex_bytes text ≡ None → fault ≡ fault_of.Bad cause.Hex) → (IsSome (hex_bytes text) → fault ≡ fault_of.Bad cause.Range) → Steps {A = List ℕ} {U = Unit {0}} (Err fault) new (bytes_in low high text)
refused_number text low high fault new out hex range = out_of_bounds text (hex_bytes text) low high fault new refl out hex range

-- what a piece holds that was filled with a number of bytes within bounds
pub record IsFilled (text new : List ℕ) (least most : ℕ) : Type 0 where
  pub value : bytes_in least most text ≡ Ok new
  pub each : IsBytes new
  pub low : least ≤ length new
  pub high : length new ≤ most

pub filled : (text new : List ℕ) (low high : ℕ) → high ≤ piece_limit → low ≤ length text / 2 → length text / 2 ≤ high → hex_piece text ≡ Some new → IsFilled text new low high
filled text new low high few least most is =
    let spelled : hex_bytes text ≡ Some new = sym (hex_piece-few text (omega (arith, few, most))) ∙ is in
    let long = hex_bytes-length text new spelled in
    let above : low ≤ length new = omega (arith, long, least) in
    let below : length new ≤ high = omega (arith, long, most) in
    record {
      value = ap (bytes_within low high) spelled ∙ ap (λ (b : Bool). cond b (Ok new) (Err cause.Range)) (and_from _ _ (le-leb low (length new) above) (le-leb (length new) high below));
      each = hex_piece-each text new is;
      low = above;
      high = below;
    }

pub not_filled : (text : List ℕ) (low high : ℕ) → high ≤ piece_limit → length text / 2 ≤ high → hex_piece text ≡ None → bytes_in low high text ≡ Err cause.Hex
not_filled text low high few most is = ap (bytes_within low high) (sym (hex_piece-few text (omega (arith, few, most))) ∙ is)
