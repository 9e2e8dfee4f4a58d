-- Lines that have ended, and lines that were performed before others.
use Rattle.std.proofs.Common.{◌≡◌, ℕ, ◌+◌, Bool, true, List, [], ◌∷◌, ◌++◌, length, Some, sym, refl, ap, ◌∙◌, subst, arith}
use Rattle.std.specs.Prelude.{is_none}
use Rattle.std.proofs.lemmas.List.{append-nil}
use Rattle.group_calls.specs.Asks.{Exchange}
use Rattle.board_script.specs.Script.{Whole}
use Rattle.group_cells.specs.Cells.{Sight}
use Rattle.group_cells.specs.Shared.{KeySet, sight_of}
use Rattle.group_cells.specs.Ring.{Floors, with_floors}
use Rattle.journal.specs.Lines.{Line, lines_of, first_lines}
use Rattle.journal.specs.Performing.{Performed, all_asked, next_ask}
use Rattle.journal.specs.Settling.{has_ended}
use Rattle.journal.specs.Journals.{Journal, AreAsked, ArePerformed, AreBegun, lines_then}
use Rattle.actor_core.specs.declared.actor.Actor.{Actor}
use Rattle.actor_core.specs.Boards.{lines_now}
use Rattle.actor_core.specs.Actors.{StandsWhole}
use Rattle.actor_drive.specs.Shown.{shown_journal}
use Rattle.actor_drive.specs.Driven.{AreLeft, AreHeard, IsBeside, HasEnded, IsFurther}
use Rattle.thread_laws.specs.Gathered.{IsThrough, IsUp}
use Rattle.thread_run.proofs.Views.{view_with}

-- ---- all lines

length_then : (past : List Performed) (rest : List Line) → length (lines_then past rest) ≡ length past + length rest
length_then [] rest = omega arith
length_then (p ∷ past) rest = let n = length_then past (p.line ∷ rest) in omega (arith, n)

none_left : (rest : List Line) → length rest ≡ 0 → rest ≡ []
none_left [] none = refl
none_left (x ∷ rest) none = absurd (omega (arith, none))

all_performed : (s : Whole) (who : ℕ) (past : List Performed) → AreBegun s who past → has_ended s who past ≡ true → ArePerformed s who past
all_performed s who [] begun over = tt
all_performed s who (p ∷ past) begun over = (begun.0, over, begun.1)

-- an actor that has ended all of its lines is through with them
pub through : (s : Whole) (past : List Performed) (a : Actor) (c : Sight) → length (lines_now s c.who a.lines) ≡ length (lines_of s c.who) → HasEnded s past a c → IsThrough s c.who past (shown_journal c)
through s past a c due x =
    let rest = x.beside.lines.0 in
    let all = x.all in
    let n = length_then past rest in
    let m = ap length x.beside.lines.1 in
    let none : rest ≡ [] = none_left rest (omega (arith, due, all, n, m)) in
    record {
      lines = x.beside.lines.1 ∙ ap (lines_then past) none;
      performed = all_performed s c.who past x.beside.begun x.over;
      left = x.beside.left;
      heard = x.beside.heard;
    }

-- the board has brought the group up
pub is_up : (s : Whole) (past : List Performed) (a : Actor) (c : Sight) → c.who ≡ 0 → lines_now s 0 a.lines ≡ first_lines s → HasEnded s past a c → IsUp s past (shown_journal c)
is_up s past a c board due x = record {
  all = x.all ∙ (ap (λ (n : ℕ). length (lines_now s n a.lines)) board ∙ ap length due);
  left = subst (λ (n : ℕ). AreLeft n (all_asked past) (shown_journal c)) board x.beside.left;
  heard = subst (λ (n : ℕ). AreHeard s (shown_journal c) n (all_asked past)) board x.beside.heard;
}

-- ---- an actor goes on behind lines that have ended

module _ (s : Whole) (who : ℕ) where
  not_both : {A : Type 0} (x : A) (b : Bool) → b ≡ true → is_none (Some x) ≡ b → ⊥
  not_both x b over more = absurd (cc)

  nothing_more : (past : List Performed) (line : Line) (more asked : List Exchange) → AreAsked s who past line (more ++ asked) → is_none (next_ask s who past line asked) ≡ true → more ≡ []
  nothing_more past line [] asked all over = refl
  nothing_more past line (x ∷ []) asked all over = absurd (not_both x.0 (is_none (next_ask s who past line asked)) over (sym (ap is_none all.0)))
  nothing_more past line (x ∷ (y ∷ more)) asked all over = let none : y ∷ more ≡ [] = nothing_more past line (y ∷ more) asked all.3 over in absurd (cc)

  of_performed : (news past : List Performed) (q : Performed) → ArePerformed s who (news ++ q ∷ past) → AreAsked s who past q.line q.asked
  of_performed [] past q all = all.0
  of_performed (p ∷ news) past q all = of_performed news past q all.2

  of_begun : (news past : List Performed) (q : Performed) → AreBegun s who (news ++ q ∷ past) → AreAsked s who past q.line q.asked
  of_begun [] past q all = all.0
  of_begun (p ∷ news) past q all = of_performed news past q all.1

  -- the lines before stay as they were
  pub then_more : (past now : List Performed) → has_ended s who past ≡ true → IsFurther past now → AreBegun s who now → (news : List Performed) × (now ≡ news ++ past)
  then_more [] now over further begun = (now, sym (append-nil now))
  then_more (p ∷ past) now over (news, more, is) begun =
      let q : Performed = record { line = p.line; asked = more ++ p.asked } in
      let all : AreAsked s who past p.line (more ++ p.asked) = of_begun news past q (subst (AreBegun s who) is begun) in
      let none : more ≡ [] = nothing_more past p.line more p.asked all over in
      (news, is ∙ ap (λ (m : List Exchange). news ++ record { line = p.line; asked = m ++ p.asked } ∷ past) none)

-- it may go on by the same keys with other floors, with all of its lines
pub still_beside : (s : Whole) (past : List Performed) (a b : Actor) (f : Floors) (h : KeySet) → StandsWhole s h.who past b → lines_now s h.who b.lines ≡ lines_of s h.who → IsBeside s past a (sight_of h) → IsBeside s past b (sight_of (with_floors f h))
still_beside s past a b f h stands due x =
    let n = length_then past x.lines.0 in
    let m = ap length x.lines.1 in
    let d = ap length due in
    record {
      stands = stands;
      begun = x.begun;
      lines = x.lines;
      within = omega (arith, n, m, d);
      near = x.near;
      left = subst (AreLeft h.who (all_asked past)) (sym (view_with f h)) x.left;
      heard = subst (λ (v : Journal). AreHeard s v h.who (all_asked past)) (sym (view_with f h)) x.heard;
    }
