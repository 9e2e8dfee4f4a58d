-- What the board performs alone follows from its lines: each ask is the next one, and each answer what its own asks made the cells tell.
use Rattle.std.proofs.Common.{◌≡◌, ℕ, true, List, [], ◌∷◌, ◌++◌, length, drop, Option, Some, None, refl, sym, ap, ◌∙◌, arith, subst}
use Rattle.std.specs.Prelude.{option_map, is_none}
use Rattle.group_calls.specs.declared.ask.Ask.{Ask}
use Rattle.group_calls.specs.Asks.{Exchange}
use Rattle.board_script.specs.Script.{Whole}
use Rattle.journal.specs.Lines.{Line}
use Rattle.journal.specs.Performing.{Performed, all_asked, next_ask, is_over}
use Rattle.journal.specs.Journals.{AreAsked, ArePerformed, lines_then}
use Rattle.journal.specs.Worlds.{told}
use Rattle.world_laws.proofs.Turns.{dropped}
use Rattle.thread_laws.proofs.Chains.{IsChain, same_chains}
use Rattle.thread_laws.proofs.Told.{cells_of, AreTold, AreFitting}

-- ---- asks that were performed

fitting_append : (xs ys : List Exchange) → AreFitting xs → AreFitting ys → AreFitting (xs ++ ys)
fitting_append [] ys f g = g
fitting_append (x ∷ xs) ys f g = (f.0, fitting_append xs ys f.1 g)

asked_fitting : (s : Whole) (who : ℕ) (past : List Performed) (line : Line) (asked : List Exchange) → AreAsked s who past line asked → AreFitting asked
asked_fitting s who past line [] a = tt
asked_fitting s who past line (x ∷ asked) a = ((a.1, a.2), asked_fitting s who past line asked a.3)

pub performed_fitting : (s : Whole) (who : ℕ) (past : List Performed) → ArePerformed s who past → AreFitting (all_asked past)
performed_fitting s who [] a = tt
performed_fitting s who (p ∷ past) a = fitting_append p.asked (all_asked past) (asked_fitting s who past p.line p.asked a.0) (performed_fitting s who past a.2)

pub performed_before : (s : Whole) (who : ℕ) (later past : List Performed) → ArePerformed s who (later ++ past) → ArePerformed s who past
performed_before s who [] past a = a
performed_before s who (p ∷ later) past a = performed_before s who later past a.2

told_before : (s : Whole) (later earlier : List Exchange) → AreTold s (later ++ earlier) → AreTold s earlier
told_before s [] earlier t = t
told_before s (x ∷ later) earlier t = told_before s later earlier t.1

-- ---- one line

-- a line that the board performed alone
record IsDone (s : Whole) (past : List Performed) (line : Line) (asked : List Exchange) : Type 0 where
  asks : AreAsked s 0 past line asked
  over : is_over s 0 past (record { line = line; asked = asked }) ≡ true
  tells : AreTold s (asked ++ all_asked past)

none_is : {X : Type 0} (o : Option X) → is_none o ≡ true → o ≡ None
none_is None e = refl
none_is (Some x) e = absurd (cc)

module _ (s : Whole) (past : List Performed) (line : Line) where
  answered : List Exchange → Ask → Exchange
  answered asked ask = (ask, told s (cells_of (asked ++ all_asked past)) ask)

  next : List Exchange → Option Exchange
  next asked = option_map (answered asked) (next_ask s 0 past line asked)

  next_is : (asked : List Exchange) (x : Exchange) → next_ask s 0 past line asked ≡ Some x.0 → x.1 ≡ told s (cells_of (asked ++ all_asked past)) x.0 → next asked ≡ Some x
  unfolding next answered
  next_is asked x ask tells = ap (option_map (answered asked)) ask ∙ (λ i. Some (x.0, sym tells i))

  chained : (asked : List Exchange) → AreAsked s 0 past line asked → AreTold s (asked ++ all_asked past) → IsChain next asked
  chained [] a t = tt
  chained (x ∷ asked) a t = (next_is asked x a.0 t.0, chained asked a.3 t.1)

  none_next : (asked : List Exchange) → is_over s 0 past (record { line = line; asked = asked }) ≡ true → next asked ≡ None
  unfolding next
  none_next asked over = ap (option_map (answered asked)) (none_is (next_ask s 0 past line asked) over)

  same_asked : (xs ys : List Exchange) → IsDone s past line xs → IsDone s past line ys → xs ≡ ys
  same_asked xs ys x y = same_chains next xs ys (chained xs x.asks x.tells) (chained ys y.asks y.tells) (none_next xs x.over) (none_next ys y.over)

-- ---- all lines

same_line : (past other : List Performed) (p q : Performed) (rest more : List Line) → past ≡ other → lines_then (p ∷ past) rest ≡ lines_then (q ∷ other) more → p.line ≡ q.line
same_line past other p q rest more same lines =
    let all : p.line ∷ rest ≡ q.line ∷ more = sym (dropped past (p.line ∷ rest)) ∙ ((λ i. drop (length (same i)) (lines i)) ∙ dropped other (q.line ∷ more)) in
    cc

-- as many of the same lines, performed alone, are performed in one way
pub same_performed : (s : Whole) (past other : List Performed) (rest more : List Line) → length past ≡ length other → lines_then past rest ≡ lines_then other more → ArePerformed s 0 past → ArePerformed s 0 other → AreTold s (all_asked past) → AreTold s (all_asked other)
    → past ≡ other
same_performed s [] [] rest more size lines a b t u = refl
same_performed s [] (q ∷ other) rest more size lines a b t u = absurd (omega (arith, size))
same_performed s (p ∷ past) [] rest more size lines a b t u = absurd (omega (arith, size))
same_performed s (p ∷ past) (q ∷ other) rest more size lines a b t u =
    let same : past ≡ other = same_performed s past other (p.line ∷ rest) (q.line ∷ more) (omega (arith, size)) lines a.2 b.2 (told_before s p.asked (all_asked past) t) (told_before s q.asked (all_asked other) u) in
    let line : p.line ≡ q.line = same_line past other p q rest more same lines in
    let mine : IsDone s past p.line p.asked = record { asks = a.0; over = a.1; tells = t } in
    let theirs : IsDone s other q.line q.asked = record { asks = b.0; over = b.1; tells = u } in
    let asked : p.asked ≡ q.asked = same_asked s past p.line p.asked q.asked mine (subst (λ (l : Line). IsDone s past l q.asked) (sym line) (subst (λ (l : List Performed). IsDone s l q.line q.asked) (sym same) theirs)) in
    λ i. record { line = line i; asked = asked i } ∷ same i
