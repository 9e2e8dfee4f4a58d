-- Members that are called one after another.
use Rattle.std.proofs.Common.{◌≡◌, ℕ, zero, suc, ◌+◌, ◌<◌, List, [], ◌∷◌, ◌++◌, length, get_or, set, map, take, drop, refl, sym, ap, ◌∙◌, arith}
use Rattle.std.proofs.Common.{Some}
use Rattle.std.specs.List.{slice_get}
use Rattle.std.proofs.lemmas.List.{length-append, drop_more}
use Rattle.std.proofs.lemmas.Option.{slice_get_within, get_or_from_slice_get}
use Rattle.admin_run.specs.Group.{fresh_member, fresh_members}

-- one more of them is changed in place
pub one_more : {A : Type 0} (f : A → A) (xs : List A) (i : ℕ) (d : A) → i < length xs → set (map f (take i xs) ++ drop i xs) i (f (get_or xs i d)) ≡ map f (take (i + 1) xs) ++ drop (i + 1) xs
one_more f [] i d inside = absurd (omega arith)
one_more f (x ∷ xs) zero d inside = refl
one_more {A = A} f (x ∷ xs) (suc i) d inside =
    let more : suc i + 1 ≡ suc (i + 1) = omega arith in
    rw more (ap (λ (rest : List A). f x ∷ rest) (one_more f xs i d (omega arith)))

pub length_fresh : (n : ℕ) → length (fresh_members n) ≡ n
length_fresh zero = refl
length_fresh (suc n) = length-append (fresh_members n) (fresh_member (n + 1) ∷ []) ∙ omega (arith, length_fresh n)

at_place : {A : Type 0} (f : A → A) (xs : List A) (i : ℕ) (d : A) → i < length xs → get_or (map f (take i xs) ++ drop i xs) i d ≡ get_or xs i d
at_place f [] i d inside = absurd (omega arith)
at_place f (x ∷ xs) zero d inside = refl
at_place f (x ∷ xs) (suc i) d inside = at_place f xs i d (omega arith)

-- the member at a place is called, where those before were
pub call_one : {A : Type 0} (f : A → A) (xs items : List A) (i : ℕ) (old new : A) → i < length xs → items ≡ map f (take i xs) ++ drop i xs → get_or items i old ≡ old → new ≡ f old
    → (set items i new ≡ map f (take (i + 1) xs) ++ drop (i + 1) xs) × (get_or xs i old ≡ old)
call_one {A = A} f xs items i old new inside are at is =
    let here : get_or xs i old ≡ old = sym (at_place f xs i old inside) ∙ ap (λ (l : List A). get_or l i old) (sym are) ∙ at in
    (ap (λ (l : List A). set l i new) are ∙ ap (set (map f (take i xs) ++ drop i xs) i) (is ∙ ap f (sym here)) ∙ one_more f xs i old inside, here)

pub map_next : {A B : Type 0} (g : A → B) (xs : List A) (i : ℕ) (d : A) → i < length xs → map g (take i xs) ++ g (get_or xs i d) ∷ [] ≡ map g (take (i + 1) xs)
map_next g [] i d inside = absurd (omega arith)
map_next g (x ∷ xs) zero d inside = refl
map_next {B = B} g (x ∷ xs) (suc i) d inside =
    let more : suc i + 1 ≡ suc (i + 1) = omega arith in
    rw more (ap (λ (rest : List B). g x ∷ rest) (map_next g xs i d (omega arith)))

-- the line at a place
pub line_at : {A : Type 0} (lines : List A) (index : ℕ) (line : A) → slice_get lines index ≡ Some line → drop index lines ≡ line ∷ drop (index + 1) lines
line_at {A = A} lines index line is =
    drop_more lines index line (slice_get_within lines index line is) ∙ ap (λ (l : A). l ∷ drop (index + 1) lines) (get_or_from_slice_get lines index line line is)
