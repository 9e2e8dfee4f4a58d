-- Laws of the bytes that a write puts.
use Rattle.std.proofs.Common.{◌≡◌, ℕ, ◌+◌, ◌-◌, ◌<◌, ◌≤◌, ◌⊎◌, List, [], ◌∷◌, ◌++◌, length, take, drop, None, Some, unwrap_or, true, false, leb, slice_get, refl, sym, ap, ◌∙◌, arith, inl, inr, append_assoc, length-append, length-drop}
use Rattle.std.proofs.lemmas.Bool.Decides.{nat_tests}
use Rattle.std.proofs.lemmas.List.{length-take-le, take-append-drop, drop-drop}
use Rattle.std.proofs.lemmas.Option.{slice_get_past}
use Rattle.byte_fields.specs.Places.{overwrite}
use Rattle.legacy_regs.specs.Accesses.{byte_put, bytes_put}

-- a write puts no byte before its offset
pub none_before : (place offset : ℕ) (bytes : List ℕ) → place < offset → byte_put place offset bytes ≡ None
none_before place offset bytes before =
    let test : leb offset place ≡ false = grind (arith, nat_tests) in
    rw test refl

-- nor after its last byte
pub none_after : (place offset : ℕ) (bytes : List ℕ) → offset + length bytes ≤ place → byte_put place offset bytes ≡ None
none_after place offset bytes after =
    let test : leb offset place ≡ true = grind (arith, nat_tests) in
    rw test (slice_get_past bytes (place - offset) (omega arith))

-- a field that ends before a write stays
stays_before : (place offset : ℕ) (bytes field : List ℕ) → place + length field ≤ offset → bytes_put place offset bytes field ≡ field
stays_before place offset bytes [] apart = refl
stays_before place offset bytes (b ∷ field) apart =
    let none : byte_put place offset bytes ≡ None = none_before place offset bytes (omega arith) in
    rw none (ap (λ rest. b ∷ rest) (stays_before (place + 1) offset bytes field (omega arith)))

-- as does one that begins after it
stays_after : (place offset : ℕ) (bytes field : List ℕ) → offset + length bytes ≤ place → bytes_put place offset bytes field ≡ field
stays_after place offset bytes [] apart = refl
stays_after place offset bytes (b ∷ field) apart =
    let none : byte_put place offset bytes ≡ None = none_after place offset bytes apart in
    rw none (ap (λ rest. b ∷ rest) (stays_after (place + 1) offset bytes field (omega arith)))

slice_get_at : (front rest : List ℕ) (r : ℕ) → slice_get (front ++ r ∷ rest) (length front) ≡ Some r
slice_get_at [] rest r = refl
slice_get_at (x ∷ front) rest r = slice_get_at front rest r

-- where the bytes after `front` begin at this place, they stand in the field
put_from : (place offset : ℕ) (front rest field : List ℕ) → place ≡ offset + length front → length rest ≤ length field → bytes_put place offset (front ++ rest) field ≡ rest ++ drop (length rest) field
put_from place offset front [] field at fits = stays_after place offset (front ++ []) field (simp length-append (omega arith))
put_from place offset front (r ∷ rest) [] at fits = absurd (omega arith)
put_from place offset front (r ∷ rest) (b ∷ field) at fits =
    let test : leb offset place ≡ true = grind (arith, nat_tests) in
    let here : place - offset ≡ length front = omega arith in
    let next : place + 1 ≡ offset + length (front ++ r ∷ []) = simp length-append (omega arith) in
    let byte : slice_get (front ++ r ∷ rest) (place - offset) ≡ Some r = ap (slice_get (front ++ r ∷ rest)) here ∙ slice_get_at front rest r in
    let later : bytes_put (place + 1) offset ((front ++ r ∷ []) ++ rest) field ≡ rest ++ drop (length rest) field = put_from (place + 1) offset (front ++ r ∷ []) rest field next (omega arith) in
    rw (test, byte) (ap (λ bytes. r ∷ bytes_put (place + 1) offset bytes field) (sym (append_assoc front (r ∷ []) rest)) ∙ ap (λ put. r ∷ put) later)

put_parts : (place offset : ℕ) (bytes front rest : List ℕ) → bytes_put place offset bytes (front ++ rest) ≡ bytes_put place offset bytes front ++ bytes_put (place + length front) offset bytes rest
put_parts place offset bytes [] rest = ap (λ at. bytes_put at offset bytes rest) (omega arith)
put_parts place offset bytes (b ∷ front) rest =
    ap (λ put. unwrap_or (byte_put place offset bytes) b ∷ put) (put_parts (place + 1) offset bytes front rest ∙ ap (λ at. bytes_put (place + 1) offset bytes front ++ bytes_put at offset bytes rest) (omega arith))

-- a write inside a field replaces just its own bytes
pub put_inside : (place offset : ℕ) (bytes field : List ℕ) → place ≤ offset → offset + length bytes ≤ place + length field → bytes_put place offset bytes field ≡ overwrite (offset - place) bytes field
unfolding overwrite
put_inside place offset bytes field begins ends =
    let width : length (take (offset - place) field) ≡ offset - place = length-take-le (offset - place) field (omega arith) in
    let left : length (drop (offset - place) field) ≡ length field - (offset - place) = length-drop (offset - place) field in
    let at : place + length (take (offset - place) field) ≡ offset = omega arith in
    let front : bytes_put place offset bytes (take (offset - place) field) ≡ take (offset - place) field = stays_before place offset bytes (take (offset - place) field) (omega arith) in
    let back : bytes_put offset offset bytes (drop (offset - place) field) ≡ bytes ++ drop (length bytes) (drop (offset - place) field) = put_from offset offset [] bytes (drop (offset - place) field) (omega arith) (omega arith) in
    let rest : drop (length bytes) (drop (offset - place) field) ≡ drop (offset - place + length bytes) field = drop-drop (length bytes) (offset - place) field in
    ap (bytes_put place offset bytes) (sym (take-append-drop (offset - place) field))
    ∙ put_parts place offset bytes (take (offset - place) field) (drop (offset - place) field)
    ∙ rw (front, at, back, rest) (sym (append_assoc (take (offset - place) field) bytes (drop (offset - place + length bytes) field)))

-- a write that doesn't reach a field leaves it
pub put_apart : (place offset : ℕ) (bytes field : List ℕ) → (offset + length bytes ≤ place) ⊎ (place + length field ≤ offset) → bytes_put place offset bytes field ≡ field
put_apart place offset bytes field (inl after) = stays_after place offset bytes field after
put_apart place offset bytes field (inr before) = stays_before place offset bytes field before
