-- The lines that guests performed are those of the script, each of one guest.
use Rattle.std.proofs.Common.{◌≡◌, ℕ, zero, suc, ◌+◌, ◌<◌, ◌≤◌, inl, inr, Bool, true, false, cond, List, [], ◌∷◌, refl, sym, ap, ◌∙◌, arith, eq-eqb}
use Rattle.std.specs.Prelude.{◌==◌, map, filter}
use Rattle.std.specs.List.{All}
use Rattle.std.proofs.lemmas.Bool.Decides.{nat_tests}
use Rattle.std.proofs.lemmas.Bool.{cases_eq}
use Rattle.std.proofs.lemmas.List.Elements.{All-head, All-tail}
use Rattle.history.specs.Look.{count}
use Rattle.board_script.specs.declared.script.ActorLine.{ActorLine}
use Rattle.board_script.specs.Script.{Whole}
use Rattle.journal.specs.Lines.{Line, counts_members, brings_up, performs, empties, finishes, numbers, script_lines, lines_by}
use Rattle.journal.specs.Performing.{Performed}
use Rattle.journal.specs.Journals.{Journal, IsLegalJournal, lines_then}

-- ---- of one actor

-- a line of the script that passes
abbrev pub on_line : (ActorLine → Bool) → Line → Bool
on_line f (performs line) = f line
on_line f counts_members = false
on_line f (brings_up member) = false
on_line f (empties queue) = false
on_line f (finishes member queue) = false

-- how many of the performed lines pass
abbrev pub passed : (ActorLine → Bool) → List Performed → ℕ
passed f past = count (λ (p : Performed). on_line f p.line) past

then_counts : (f : ActorLine → Bool) (past : List Performed) (rest : List Line) → count (on_line f) (lines_then past rest) ≡ passed f past + count (on_line f) rest
then_counts f [] rest = omega arith
then_counts f (p ∷ past) rest = then_counts f past (p.line ∷ rest) ∙ go (on_line f p.line)
  where
    go : (b : Bool) → passed f past + cond b (count (on_line f) rest + 1) (count (on_line f) rest) ≡ cond b (passed f past + 1) (passed f past) + count (on_line f) rest
    go true = omega arith
    go false = refl

performs_counts : (f : ActorLine → Bool) (lines : List ActorLine) → count (on_line f) (map performs lines) ≡ count f lines
performs_counts f [] = refl
performs_counts f (line ∷ lines) = ap (λ (n : ℕ). cond (f line) (n + 1) n) (performs_counts f lines)

-- a guest performed its lines of the script
pub guest_counts : (s : Whole) (j : Journal) → IsLegalJournal s j → (f : ActorLine → Bool) (g : ℕ) → 1 ≤ g → passed f (j.past g) ≡ count f (script_lines s g)
guest_counts s j legal f g low =
    let other : (g == 0) ≡ false = grind (arith, nat_tests) in
    let lines : map performs (script_lines s g) ≡ lines_then (j.past g) [] = ap (lines_by s g) (sym other) ∙ legal.lines g in
    let whole = then_counts f (j.past g) [] in
    let same = ap (count (on_line f)) lines in
    let plain = performs_counts f (script_lines s g) in
    omega (arith, whole, same, plain)

-- ---- over all guests

abbrev pub over : (ℕ → ℕ) → List ℕ → ℕ
over each [] = 0
over each (g ∷ guests) = each g + over each guests

over_same : (each other : ℕ → ℕ) (guests : List ℕ) → ((g : ℕ) → each g ≡ other g) → over each guests ≡ over other guests
over_same each other [] same = refl
over_same each other (g ∷ guests) same = (λ i. same g i + over_same each other guests same i)

over_none : (guests : List ℕ) → over (λ g. 0) guests ≡ 0
over_none [] = refl
over_none (g ∷ guests) = let rest = over_none guests in omega (arith, rest)

over_both : (each other : ℕ → ℕ) (guests : List ℕ) → over (λ g. each g + other g) guests ≡ over each guests + over other guests
over_both each other [] = refl
over_both each other (g ∷ guests) = let rest = over_both each other guests in omega (arith, rest)

-- one of them is named

abbrev one : Bool → ℕ
one true = 1
one false = 0

over_below : (who from most : ℕ) → who < from → over (λ g. one (who == g)) (numbers from most) ≡ 0
over_below who from zero low = refl
over_below who from (suc most) low =
    let rest = over_below who (from + 1) most (omega arith) in
    let other : (who == from) ≡ false = grind (arith, nat_tests) in
    let here = ap one other in
    omega (arith, rest, here)

over_one : (who from most : ℕ) → from ≤ who → who < from + most → over (λ g. one (who == g)) (numbers from most) ≡ 1
over_one who from zero low high = absurd (omega arith)
over_one who from (suc most) low high = elim (cases_eq who from) [
  | inl same ↦
      let here = ap one (eq-eqb who from same) in
      let rest = over_below who (from + 1) most (omega arith) in
      omega (arith, here, rest)
  | inr apart ↦
      let other : (who == from) ≡ false = grind (arith, nat_tests) in
      let here = ap one other in
      let rest = over_one who (from + 1) most (omega arith) (omega arith) in
      omega (arith, here, rest)
]

-- what a line adds to its guest, where it passes
abbrev share : ℕ → Bool → ℕ → ℕ
share who passes g = cond passes (one (who == g)) 0

-- of a guest
abbrev own : (ActorLine → Bool) → List ActorLine → ℕ → ℕ
own f lines g = count f (filter (λ line. line.who == g) lines)

module _ (f : ActorLine → Bool) (guests : ℕ) where
  abbrev IsOfGuest : ActorLine → Type 0
  IsOfGuest line = f line ≡ true → (1 ≤ line.who) × (line.who ≤ guests)

  line_adds : (line : ActorLine) (lines : List ActorLine) (passes : Bool) → f line ≡ passes → (g : ℕ) → own f (line ∷ lines) g ≡ share line.who passes g + own f lines g
  line_adds line lines passes is g = go (line.who == g) passes is
    where
      go : (named passes : Bool) → f line ≡ passes → count f (cond named (line ∷ filter (λ l. l.who == g) lines) (filter (λ l. l.who == g) lines)) ≡ cond passes (one named) 0 + own f lines g
      go true true is = ap (λ (b : Bool). cond b (own f lines g + 1) (own f lines g)) is ∙ omega arith
      go true false is = ap (λ (b : Bool). cond b (own f lines g + 1) (own f lines g)) is ∙ omega arith
      go false true is = omega arith
      go false false is = omega arith

  line_shares : (line : ActorLine) (passes : Bool) → f line ≡ passes → IsOfGuest line → over (share line.who passes) (numbers 1 guests) ≡ one passes
  line_shares line true is own = let it = own is in let low = it.0 in let high = it.1 in over_one line.who 1 guests low (omega (arith, high))
  line_shares line false is own = over_none (numbers 1 guests)

  line_counts : (n : ℕ) (passes : Bool) → one passes + n ≡ cond passes (n + 1) n
  line_counts n true = omega arith
  line_counts n false = omega arith

  -- each line that passes is of one of the guests
  pub over_guests : (lines : List ActorLine) → All IsOfGuest lines → over (own f lines) (numbers 1 guests) ≡ count f lines
  over_guests [] all = over_none (numbers 1 guests)
  over_guests (line ∷ lines) all =
      over_same (own f (line ∷ lines)) (λ g. share line.who (f line) g + own f lines g) (numbers 1 guests) (line_adds line lines (f line) refl)
      ∙ (over_both (share line.who (f line)) (own f lines) (numbers 1 guests)
      ∙ ((λ i. line_shares line (f line) refl (All-head IsOfGuest line lines all) i + over_guests lines (All-tail IsOfGuest line lines all) i) ∙ line_counts (count f lines) (f line)))
