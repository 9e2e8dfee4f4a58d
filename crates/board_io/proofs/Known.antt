-- What a source has left and a sink holds, where they are told, over several calls.
use Rattle.std.proofs.Common.{◌≡◌, ℕ, ◌+◌, ◌<◌, ◌≤◌, List, [], ◌++◌, length, take, drop, Option, Some, None, Result, Ok, Err, sym, ap, ◌∙◌, subst, arith, inl, inr}
use Rattle.std.specs.Prelude.{IfSome}
use Rattle.std.specs.Io.KnownBytes.{Appends, Keeps, Consumes, IsAtEnd, ReadConsumes}
use Rattle.std.proofs.Math.Seq.{take-add}
use Rattle.std.proofs.lemmas.Bool.{cases_lt}
use Rattle.std.proofs.lemmas.List.{append-nil, length-append, length-drop, length-take, take-take, take_all}
use Rattle.board_io.specs.Sink.{AppendsPrefix}
pub use Rattle.std.proofs.KnownBytes.{Appends-nil, Appends-trans, Appends-kept, Consumes-nil, Consumes-trans, Consumes-kept, Keeps-refl, Keeps-trans}

-- the first bytes, and then the next ones
pub Appends-more : (a b c : Option (List ℕ)) (bytes : List ℕ) (at count : ℕ) → Appends a b (take at bytes) → Appends b c (take count (drop at bytes)) → Appends a c (take (at + count) bytes)
Appends-more a b c bytes at count p q = rw take-add (Appends-trans a b c (take at bytes) (take count (drop at bytes)) p q)

front_of_front : (n m : ℕ) (xs : List ℕ) → (k : ℕ) × (take n (take m xs) ≡ take k xs)
front_of_front n m xs =
    elim (cases_lt n m) [
      | inl lt ↦ (n, take-take n m xs (omega arith))
      | inr le ↦ (m, take_all n (take m xs) (omega (arith, length-take m xs)))
    ]

-- the first bytes, and then a front of the next ones
pub AppendsPrefix-more : (a b c : Option (List ℕ)) (bytes : List ℕ) (at count : ℕ) → Appends a b (take at bytes) → AppendsPrefix b c (take count (drop at bytes)) → AppendsPrefix a c bytes
AppendsPrefix-more a b c bytes at count p q =
    let k = front_of_front q.0 count (drop at bytes) in
    (at + k.0, Appends-more a b c bytes at k.0 p (subst (λ (t : List ℕ). Appends b c t) k.1 q.1))

-- nothing of the bytes
pub AppendsPrefix-nil : (a : Option (List ℕ)) (bytes : List ℕ) → AppendsPrefix a a bytes
AppendsPrefix-nil a bytes = (0, Appends-nil a)

-- what was taken is all there was, where nothing is left
pub Consumes-all : (a b c : Option (List ℕ)) (xs : List ℕ) → Consumes a b xs → Keeps b c × IsAtEnd b → IfSome a (λ all. (all ≡ xs) × IsAtEnd c)
Consumes-all None b c xs p q = tt
Consumes-all (Some x) None c xs p q = absurd p
Consumes-all (Some x) (Some y) None xs p q = absurd q.0
Consumes-all (Some x) (Some y) (Some z) xs p q = (p ∙ ap (λ (t : List ℕ). xs ++ t) q.1 ∙ append-nil xs, q.0 ∙ q.1)

-- where more than the limit was taken, there was more than the limit
pub Consumes-over : (limit : ℕ) (a c : Option (List ℕ)) (xs : List ℕ) → Consumes a c xs → limit < length xs → IfSome a (λ all. limit < length all)
Consumes-over limit None c xs p lt = tt
Consumes-over limit (Some x) None xs p lt = absurd p
Consumes-over limit (Some x) (Some z) xs p lt = omega (arith, ap length p, length-append xs z)

-- nothing was taken before
pub Keeps-Consumes : (a b c : Option (List ℕ)) (xs : List ℕ) → Keeps a b → Consumes b c xs → Consumes a c xs
Keeps-Consumes None b c xs p q = tt
Keeps-Consumes (Some x) None c xs p q = absurd p
Keeps-Consumes (Some x) (Some y) None xs p q = absurd q
Keeps-Consumes (Some x) (Some y) (Some z) xs p q = sym p ∙ q

-- a read, after others that took nothing
pub Keeps-ReadConsumes : {E : Type 0} (a b c : Option (List ℕ)) (read : Result ℕ E) (buf : List ℕ) → Keeps a b → ReadConsumes b c read buf → ReadConsumes a c read buf
Keeps-ReadConsumes a b c (Ok n) buf p q = (Keeps-Consumes a b c (take n buf) p q.0, q.1)
Keeps-ReadConsumes a b c (Err fault) buf p q = Keeps-trans a b c p q

-- a read of no bytes, which comes only where nothing is left
pub read_at_end : (a b : Option (List ℕ)) (front : List ℕ) → Consumes a b front → front ≡ [] → IsAtEnd b → Keeps a b × IsAtEnd a
read_at_end None b front p none end = (tt, tt)
read_at_end (Some x) None front p none end = absurd p
read_at_end (Some x) (Some y) front p none end =
    let same : x ≡ y = p ∙ ap (λ (t : List ℕ). t ++ y) none in
    (sym same, same ∙ end)

-- a write of the rest went on from the place, by as many bytes as it took
pub Appends-on : (a b c : Option (List ℕ)) (bytes rest : List ℕ) (at count on : ℕ) → at ≤ length bytes → Appends a b (take at bytes) → rest ≡ drop at bytes
    → count ≤ length rest → Appends b c (take count rest) → on ≡ at + count → (on ≤ length bytes) × Appends a c (take on bytes)
Appends-on a b c bytes rest at count on within p is fits q next =
    (omega (arith, ap length is, length-drop at bytes), rw (next) (Appends-more a b c bytes at count p (rw is at q)))
