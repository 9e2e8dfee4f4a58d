-- Fields that are read from the first 32 bytes, followed by zeros.
use Rattle.std.proofs.Common.{◌≡◌, ℕ, ◌+◌, ◌-◌, ◌<◌, ◌≤◌, min, List, ◌++◌, length, get_or, take, drop, replicate, sym, ap, subst, ◌∙◌, arith, inl, inr}
use Rattle.std.proofs.lemmas.Bool.{cases_lt}
use Rattle.std.proofs.lemmas.List.{length-take-le, get_or_append_left, get_or-append_right, get_or-take, get_or-drop, get_or_past, get_or-replicate}
use Rattle.byteorder.specs.Endian.{little_number}
use Rattle.byte_fields.specs.Places.{number_at}
use Rattle.byte_fields.proofs.Places.{same_numbers, number_read}

-- the header has the same bytes as far as it goes
abbrev pub IsHeaderOf : List ℕ → List ℕ → Type 0
IsHeaderOf bytes header = (i : ℕ) → i < 32 → get_or header i 0 ≡ get_or bytes i 0

pub header_from : (bytes same header : List ℕ) → same ≡ bytes → IsHeaderOf same header → IsHeaderOf bytes header
header_from bytes same header e h = subst (λ (b : List ℕ). IsHeaderOf b header) e h

pub padded : (bytes : List ℕ) (n : ℕ) → n ≡ min (length bytes) 32 → IsHeaderOf bytes (take n bytes ++ drop n (replicate 32 0))
padded bytes n is i lt =
    let front : length (take n bytes) ≡ n = length-take-le n bytes (omega arith) in
    elim (cases_lt i n) [
      | inl inside ↦ get_or_append_left (take n bytes) (drop n (replicate 32 0)) 0 i (omega arith) ∙ get_or-take n bytes i 0 inside
      | inr past ↦
          let place : n + (i - n) ≡ i = omega arith in
          get_or-append_right (take n bytes) (drop n (replicate 32 0)) n i 0 front past
          ∙ get_or-drop n (replicate 32 0) (i - n) 0
          ∙ ap (λ k. get_or (replicate 32 0) k 0) place
          ∙ get_or-replicate 32 i 0 0 lt
          ∙ sym (get_or_past bytes i 0 (omega arith))
    ]

-- a number in the header is the one in the bytes
pub same_field : (n place : ℕ) (bytes header : List ℕ) → IsHeaderOf bytes header → place + n ≤ 32 → number_at n place header ≡ number_at n place bytes
unfolding number_at
same_field n place bytes header h fits = same_numbers n place place header bytes (λ k below. h (place + k) (omega arith))

-- a number that is read from the header's bytes from a place on
pub field_read : (bytes header : List ℕ) (place room n : ℕ) → IsHeaderOf bytes header → place + n ≤ 32 → n ≤ room → little_number n (take room (drop place header)) ≡ number_at n place bytes
field_read bytes header place room n h fits inside = number_read n place room header inside ∙ same_field n place bytes header h fits

-- a number that is read from the whole header
pub field_read_front : (bytes header : List ℕ) (n : ℕ) → IsHeaderOf bytes header → n ≤ 32 → little_number n header ≡ number_at n 0 bytes
unfolding number_at
field_read_front bytes header n h fits = same_field n 0 bytes header h (omega arith)
