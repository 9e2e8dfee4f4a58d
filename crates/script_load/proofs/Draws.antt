-- The lines that are made and those that are left to make are all lines.
use Rattle.std.proofs.Common.{◌≡◌, ℕ, suc, ◌+◌, ◌-◌, ◌<◌, ◌≤◌, List, [], ◌∷◌, ◌++◌, refl, sym, ap, ◌∙◌, append_assoc, arith}
use Rattle.std.proofs.lemmas.List.{append-nil}
use Rattle.board_script.specs.declared.script.ActorLine.{ActorLine}
use Rattle.script_load.specs.Loaded.{loaded_line, loaded_lines, next_state, drawn}

one_more : (count number x : ℕ) → loaded_lines (suc count) number x ≡ loaded_line number (drawn (next_state x)) ∷ loaded_lines count (number + 1) (next_state x)
unfolding loaded_lines
one_more count number x = refl

pub lines_left : (all lines : List ActorLine) (count index number x : ℕ) → index < count → lines ++ loaded_lines (count - index) (number + index) x ≡ all
    → (lines ++ loaded_line (number + index) (drawn (next_state x)) ∷ []) ++ loaded_lines (count - (index + 1)) (number + (index + 1)) (next_state x) ≡ all
lines_left all lines count index number x lt is =
    let more : count - index ≡ suc (count - (index + 1)) = omega arith in
    let next : number + (index + 1) ≡ number + index + 1 = omega arith in
    append_assoc lines (loaded_line (number + index) (drawn (next_state x)) ∷ []) (loaded_lines (count - (index + 1)) (number + (index + 1)) (next_state x))
    ∙ ap (λ (n : ℕ). lines ++ loaded_line (number + index) (drawn (next_state x)) ∷ loaded_lines (count - (index + 1)) n (next_state x)) next
    ∙ ap (λ (l : List ActorLine). lines ++ l) (sym (one_more (count - (index + 1)) (number + index) x))
    ∙ ap (λ (n : ℕ). lines ++ loaded_lines n (number + index) x) (sym more) ∙ is

pub no_lines_left : (all lines : List ActorLine) (count index number x : ℕ) → count ≤ index → lines ++ loaded_lines (count - index) number x ≡ all → lines ≡ all
unfolding loaded_lines
no_lines_left all lines count index number x le is =
    let none : count - index ≡ 0 = omega arith in
    sym (append-nil lines) ∙ ap (λ (n : ℕ). lines ++ loaded_lines n number x) (sym none) ∙ is
