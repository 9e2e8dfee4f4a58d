-- As much of a result as there is room for.
use Rattle.std.proofs.Common.{◌≡◌, ℕ, ◌+◌, ◌-◌, List, ◌++◌, length, take, replicate, sym, ap, ◌∙◌, arith, append_assoc, refl, inl, inr}
use Rattle.std.proofs.Math.Seq.{take-append-add}
use Rattle.std.proofs.lemmas.Bool.{cases_lt}
use Rattle.std.proofs.lemmas.List.{take-append-le, take-take}
use Rattle.byte_fields.specs.Places.{bytes_of}
use Rattle.admin_wire.specs.Done.{done_of, result_with}

-- the rest that there is no room for may be left out
room_for : (n : ℕ) (front xs : List ℕ) → length front ≡ 8 → take n (front ++ take (n - 8) xs) ≡ take n (front ++ xs)
room_for n front xs size = elim (cases_lt n 8) [
  | inl short ↦ take-append-le n front (take (n - 8) xs) (omega arith) ∙ sym (take-append-le n front xs (omega arith))
  | inr long ↦
      let place : n ≡ length front + (n - 8) = omega arith in
      ap (λ m. take m (front ++ take (n - 8) xs)) place
      ∙ take-append-add front (take (n - 8) xs) (n - 8)
      ∙ ap (λ ys. front ++ ys) (take-take (n - 8) (n - 8) xs (omega arith))
      ∙ sym (take-append-add front xs (n - 8))
      ∙ ap (λ m. take m (front ++ xs)) (sym place)
]

-- a completion, of its fixed part and as much of its result as there is room for
pub completed : (status qualifier : ℕ) (payload : List ℕ) (writable : ℕ) (front : List ℕ) → front ≡ bytes_of 2 status ++ bytes_of 2 qualifier ++ replicate 4 0 → length front ≡ 8
    → take writable (front ++ take (writable - 8) (result_with status payload)) ≡ done_of status qualifier payload writable
completed status qualifier payload writable front is size =
    room_for writable front (result_with status payload) size
    ∙ ap (λ f. take writable (f ++ result_with status payload)) is
    ∙ ap (take writable) (simp append_assoc refl)
