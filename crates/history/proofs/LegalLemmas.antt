-- What a legal history says of each place.
use Rattle.std.proofs.Common.{◌≡◌, ℕ, ◌≤◌, Bool, false, List, [], ◌∷◌, ◌++◌, length, Some, subst, ◌≢◌, arith, refl, sym, ap, ◌∙◌}
use Rattle.std.proofs.lemmas.Bool.Decides.{nat_tests}
use Rattle.std.proofs.lemmas.Bool.{cases_lt, cases_eq}
use Rattle.std.proofs.Common.{inl, inr}
use Rattle.history.specs.declared.entry.Entry.{Entry}
use Rattle.history.specs.Places.{entry_at, before}
use Rattle.history.specs.Legal.{IsLegal}
use Rattle.history.proofs.PlaceLemmas.{before-all, entry_at-in}

-- an earlier history is legal
pub legal_earlier : {C R : Type 0} (answer : List (Entry C R) → C → R) (quiet : R → Bool) (may : ℕ → C → Type 0) (later past : List (Entry C R)) → IsLegal answer quiet may (later ++ past) → IsLegal answer quiet may past
legal_earlier answer quiet may [] past legal = legal
legal_earlier answer quiet may (e ∷ later) past legal = legal_earlier answer quiet may later past legal.3

pub before-skip : {E : Type 0} (x : E) (past : List E) (p : ℕ) → p ≤ length past → before p (x ∷ past) ≡ before p past
before-skip x past p h = grind (arith, nat_tests)

pub entry_at-top : {E : Type 0} (x e : E) (past : List E) (p : ℕ) → p ≡ length past → entry_at p (x ∷ past) ≡ Some e → x ≡ e
entry_at-top x e past p same at = grind (arith, nat_tests, at, same)

pub entry_at-below : {E : Type 0} (x e : E) (past : List E) (p : ℕ) → p ≢ length past → entry_at p (x ∷ past) ≡ Some e → entry_at p past ≡ Some e
entry_at-below x e past p other at = grind (arith, nat_tests, at, other)

-- what stands before a place is an earlier history
pub before_earlier : {E : Type 0} (h : List E) (p : ℕ) → (later : List E) × (h ≡ later ++ before p h)
before_earlier {E = E} [] p = ([], refl)
before_earlier {E = E} (e ∷ past) p =
    let r = before_earlier past p in
    elim (cases_lt (length past) p) [
      | inl f ↦ ([], sym (before-all (e ∷ past) p (omega arith)))
      | inr f ↦ (e ∷ r.0, ap (λ xs. e ∷ xs) r.1 ∙ ap (λ xs. e ∷ (r.0 ++ xs)) (sym (before-skip e past p f)))
    ]

-- the reply is the answer over the past, it isn't quiet, and the call could be made
abbrev pub IsRight : {C R : Type 0} → (List (Entry C R) → C → R) → (R → Bool) → (ℕ → C → Type 0) → List (Entry C R) → Entry C R → Type 0
IsRight answer quiet may past e = (e.reply ≡ answer past e.call) × (quiet e.reply ≡ false) × may e.who e.call

-- so it is at each place, over what stood before it
pub legal_at : {C R : Type 0} (answer : List (Entry C R) → C → R) (quiet : R → Bool) (may : ℕ → C → Type 0) (h : List (Entry C R)) (p : ℕ) (e : Entry C R)
    → IsLegal answer quiet may h → entry_at p h ≡ Some e → IsRight answer quiet may (before p h) e
legal_at answer quiet may [] p e legal at = cc
legal_at {C = C} {R = R} answer quiet may (x ∷ past) p e legal at =
    elim (cases_eq p (length past)) [
      | inl same ↦ subst (λ (q : List (Entry C R)). IsRight answer quiet may q e) (sym (before-skip x past p (omega arith) ∙ before-all past p (omega arith)))
          (subst (λ (y : Entry C R). IsRight answer quiet may past y) (entry_at-top x e past p same at) (legal.0, legal.1, legal.2))
      | inr other ↦
          let below = entry_at-below x e past p other at in
          let inside = entry_at-in past p e below in
          subst (λ (q : List (Entry C R)). IsRight answer quiet may q e) (sym (before-skip x past p (omega arith))) (legal_at answer quiet may past p e legal.3 below)
    ]
