-- Laws of `changed_at`.
use Rattle.std.proofs.Common.{◌≡◌, ℕ, zero, suc, ◌+◌, ◌<◌, ◌==◌, true, false, if◌then◌else◌, List, [], ◌∷◌, length, get_or, set, map, refl, sym, ap, ◌∙◌, arith}
use Rattle.std.specs.List.{enumerate_from}
use Rattle.std.proofs.lemmas.Bool.Decides.{nat_tests}
use Rattle.legacy_regs.specs.Accesses.{changed_at}

-- the items whose numbers begin with `first`
abbrev pub changed_from : {Item : Type 0} → ℕ → (Item → Item) → ℕ → List Item → List Item
changed_from first change queue items = map (λ item. if item.0 == queue then change item.1 else item.1) (enumerate_from first items)

changed_before : {Item : Type 0} (first : ℕ) (change : Item → Item) (queue : ℕ) (items : List Item) → queue < first → changed_from first change queue items ≡ items
changed_before first change queue [] before = refl
changed_before first change queue (x ∷ items) before =
    let here : (first == queue) ≡ false = grind (arith, nat_tests) in
    rw here (ap (λ rest. x ∷ rest) (changed_before (first + 1) change queue items (omega arith)))

changed_set : {Item : Type 0} (first : ℕ) (change : Item → Item) (i : ℕ) (items : List Item) (d : Item) → i < length items → set items i (change (get_or items i d)) ≡ changed_from first change (first + i) items
changed_set first change i [] d inside = absurd (omega arith)
changed_set first change zero (x ∷ items) d inside =
    let here : (first == first + 0) ≡ true = grind (arith, nat_tests) in
    rw here (ap (λ rest. change x ∷ rest) (sym (changed_before (first + 1) change (first + 0) items (omega arith))))
changed_set first change (suc i) (x ∷ items) d inside =
    let here : (first == first + suc i) ≡ false = grind (arith, nat_tests) in
    let same : first + 1 + i ≡ first + suc i = omega arith in
    rw here (ap (λ rest. x ∷ rest) (changed_set (first + 1) change i items d (omega arith) ∙ ap (λ queue. changed_from (first + 1) change queue items) same))

-- a write in place at an index changes the item there
pub set_changed : {Item : Type 0} (change : Item → Item) (i : ℕ) (items : List Item) (d : Item) → i < length items → set items i (change (get_or items i d)) ≡ changed_at change i items
set_changed change i items d inside = changed_set 0 change i items d inside ∙ ap (λ queue. changed_from 0 change queue items) (omega arith)
