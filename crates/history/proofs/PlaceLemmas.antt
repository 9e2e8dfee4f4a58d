-- Places in a history whose latest entry stands first.
use Rattle.std.proofs.Common.{eq-eqb, ◌≡◌, ℕ, zero, suc, ◌+◌, ◌<◌, List, [], ◌∷◌, ◌++◌, length, get_or, reverse, Some, arith, refl, ◌∙◌, ◌≤◌, Bool, true, false, ap}
use Rattle.std.specs.Prelude.{◌==◌, if◌then◌else◌}
use Rattle.std.proofs.lemmas.List.{length_push}
use Rattle.std.proofs.lemmas.Grind.{reverse_onto}
use Rattle.std.proofs.lemmas.Bool.Decides.{nat_tests}
use Rattle.history.specs.declared.entry.Entry.{Entry}
use Rattle.history.specs.Places.{entry_at, before, calls_of}

pub entry_at-first : {E : Type 0} → (ys : List E) (x : E) → entry_at 0 (ys ++ x ∷ []) ≡ Some x
entry_at-first [] x = refl
entry_at-first (y ∷ ys) x =
    let l = length_push ys x in
    let r = entry_at-first ys x in
    grind (arith, nat_tests, l, r)

pub entry_at-suc : {E : Type 0} → (ys : List E) (x : E) (p : ℕ) → entry_at (suc p) (ys ++ x ∷ []) ≡ entry_at p ys
entry_at-suc [] x p = grind (arith, nat_tests)
entry_at-suc (y ∷ ys) x p =
    let l = length_push ys x in
    let r = entry_at-suc ys x p in
    grind (arith, nat_tests, l, r)

pub entry_at-reverse : {E : Type 0} → (xs : List E) (p : ℕ) (d : E) → p < length xs → entry_at p (reverse xs) ≡ Some (get_or xs p d)
entry_at-reverse [] p d h = absurd (omega arith)
entry_at-reverse (x ∷ xs) zero d h = rw (reverse_onto xs x []) (entry_at-first (reverse xs) x)
entry_at-reverse (x ∷ xs) (suc p) d h = rw (reverse_onto xs x []) (entry_at-suc (reverse xs) x p ∙ entry_at-reverse xs p d (omega arith))

pub entry_at-in : {E : Type 0} → (h : List E) (p : ℕ) (e : E) → entry_at p h ≡ Some e → p < length h
entry_at-in [] p e f = cc
entry_at-in (x ∷ past) p e f =
    let r = entry_at-in past p e in
    grind (arith, nat_tests, r, f)

pub before-all : {E : Type 0} → (h : List E) (p : ℕ) → length h ≤ p → before p h ≡ h
before-all [] p f = refl
before-all (x ∷ past) p f = grind (arith, nat_tests)

pub before-none : {E : Type 0} → (h : List E) → before 0 h ≡ []
before-none [] = refl
before-none (x ∷ past) = let r = before-none past in grind (arith, nat_tests, r)

-- one entry more
pub before-more : {E : Type 0} → (h : List E) (p : ℕ) (e : E) → entry_at p h ≡ Some e → before (p + 1) h ≡ e ∷ before p h
before-more [] p e f = cc
before-more (x ∷ past) p e f =
    let r = before-more past p e in
    let a = before-all past p in
    let i = entry_at-in past p e in
    grind (arith, nat_tests, r, a, i, f)

-- an entry keeps its place
pub entry_at-up : {E : Type 0} (x : E) (past : List E) (p : ℕ) (e : E) → entry_at p past ≡ Some e → entry_at p (x ∷ past) ≡ Some e
entry_at-up x past p e at =
    let i = entry_at-in past p e at in
    let other : (p == length past) ≡ false = grind (arith, nat_tests) in
    rw other at

pub entry_at-now : {E : Type 0} (x : E) (past : List E) → entry_at (length past) (x ∷ past) ≡ Some x
entry_at-now x past = rw (eq-eqb (length past) (length past) refl) refl

-- the calls of an actor that come later are so many more
calls_more : {C R : Type 0} (who : ℕ) (later past : List (Entry C R)) → length (calls_of who (later ++ past)) ≡ length (calls_of who later) + length (calls_of who past)
calls_more who [] past = omega arith
calls_more who (e ∷ later) past = go (e.who == who) (calls_more who later past)
  where
    go : (b : Bool) → length (calls_of who (later ++ past)) ≡ length (calls_of who later) + length (calls_of who past)
        → length (if b then (length (later ++ past), e) ∷ calls_of who (later ++ past) else calls_of who (later ++ past)) ≡ length (if b then (length later, e) ∷ calls_of who later else calls_of who later) + length (calls_of who past)
    go true rest = omega (arith, rest)
    go false rest = rest

-- an actor that calls no more made none of the later calls
pub no_more_calls : {C R : Type 0} (who : ℕ) (later past : List (Entry C R)) → calls_of who (later ++ past) ≡ calls_of who past → calls_of who later ≡ []
no_more_calls who later past same = none (calls_of who later) (let more = calls_more who later past in let size = ap length same in omega (arith, more, size))
  where
    none : {X : Type 0} (xs : List X) → length xs ≡ 0 → xs ≡ []
    none [] few = refl
    none (x ∷ xs) few = absurd (omega (arith, few))

pub ruleset places = (before-none, before-more, before-all)
