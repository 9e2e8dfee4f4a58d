-- What is kept of a run whose actors stand behind a journal's lines.
use Rattle.std.proofs.Common.{◌≡◌, ◌≢◌, ℕ, zero, suc, ◌+◌, ◌-◌, ◌≤◌, true, List, ◌∷◌, length, map, Some, slice_get, sym, refl, ap, ◌∙◌, subst, arith}
use Rattle.std.proofs.lemmas.Option.{slice_get_within, same_Some}
use Rattle.board_script.specs.Script.{Whole}
use Rattle.board_script.specs.Bounds.{IsScript}
use Rattle.journal.specs.Journals.{Journal}
use Rattle.group_cells.specs.Plain.{Plain}
use Rattle.actor_core.specs.declared.actor.Actor.{Actor}
use Rattle.actor_core.specs.declared.items.LeftItem.{LeftItem}
use Rattle.actor_core.specs.declared.lists.Trace.{Trace}
use Rattle.actor_core.specs.declared.performer.Performer.{Performer}
use Rattle.actor_core.specs.Kept.{trace_of, left_pair}
use Rattle.actor_core.specs.Actors.{StandsWhole}
use Rattle.board_run.specs.Places.{actor_count, who_at}
use Rattle.board_run.specs.Standing.{HoldsJournal}
use Rattle.board_run.specs.Ran.{IsRun}
use Rattle.board_run.proofs.Places.{at_guest, some_at, apart_at}
use Rattle.board_run.proofs.Ends.{IsKept, board_at}
use Rattle.thread_run.specs.Homes.{acts}
use Rattle.thread_run.proofs.Order.{acts_at}
use Rattle.thread_run.proofs.Others.{IsAt}

module _ (s : Whole) (script : IsScript s) (j : Journal) (others : List Actor) (many : length others ≡ actor_count s - 1) (all : (who : ℕ) → who ≢ 0 → acts s who ≡ true → IsAt s others who (j.past who)) where
  stands_at : (i : ℕ) (a : Actor) → slice_get others i ≡ Some a → StandsWhole s (who_at s (i + 1)) (j.past (who_at s (i + 1))) a
  stands_at i a at =
      let who : ℕ = who_at s (i + 1) in
      let some = some_at s script (i + 1) (omega arith) in
      let x = all who (λ e. absurd (omega (arith, some, e))) (acts_at s (i + 1) (omega arith)) in
      let within = slice_get_within others i a at in
      let same : x.index + 1 ≡ i + 1 = apart_at s script (x.index + 1) (i + 1) x.within (omega (arith, within, many)) x.is in
      let index : x.index ≡ i = omega (arith, same) in
      let one : x.actor ≡ a = same_Some x.actor a (sym x.at ∙ (ap (slice_get others) index ∙ at)) in
      subst (λ (b : Actor). StandsWhole s who (j.past who) b) one x.stands

  other_kept : (i : ℕ) (a : Actor) → slice_get others i ≡ Some a → IsKept s j (suc i) a
  other_kept i a at =
      let next : i + 1 ≡ suc i = omega arith in
      let x : StandsWhole s (who_at s (suc i)) (j.past (who_at s (suc i))) a = subst (λ (n : ℕ). StandsWhole s (who_at s n) (j.past (who_at s n)) a) next (stands_at i a at) in
      record {
        number = x.performer.who_is;
        trace = x.trace;
        answers = λ guest.
            let high : suc i ≤ length s.guests = guest.1 in
            let few : length s.guests ≤ 16 = script.few_guests in
            let here : StandsWhole s (suc i) (j.past (suc i)) a = subst (λ (n : ℕ). StandsWhole s n (j.past n) a) (at_guest s (suc i) high) x in
            here.answers (omega arith, omega (arith, high, few));
      }

  module _ (ended board : Actor) (left : List LeftItem) (stands : StandsWhole s 0 (j.past 0) ended) (performer : board.performer ≡ ended.performer) (trace : board.kept.trace ≡ ended.kept.trace) (left_is : left ≡ ended.kept.left.items.items) where
    board_kept : IsKept s j 0 board
    board_kept = record {
      number = ap (λ (x : Performer). x.who) performer ∙ (stands.performer.who_is ∙ sym (board_at s));
      trace = ap (λ (x : Trace). x.items.items) trace ∙ (stands.trace ∙ ap (λ (n : ℕ). trace_of (j.past n)) (sym (board_at s)));
      answers = λ guest. let low : 1 ≤ 0 = guest.0 in absurd (omega (arith, low));
    }

    kept : (i : ℕ) (a : Actor) → slice_get (board ∷ others) i ≡ Some a → IsKept s j i a
    kept zero a at = let same : board ≡ a = cc in subst (IsKept s j 0) same board_kept
    kept (suc i) a at = other_kept i a at

    -- the summary of the run, the board first
    pub is_run : (cells : Plain) → HoldsJournal s j cells → IsRun s j cells (board ∷ others) left
    is_run cells holds = record {
      cells_of = holds;
      count = (let e : suc (length others) ≡ actor_count s = omega (arith, many) in e);
      number = λ i a at. (kept i a at).number;
      trace = λ i a at. (kept i a at).trace;
      answers = λ i a guest at. (kept i a at).answers guest;
      left_of = ap (map left_pair) left_is ∙ stands.left refl;
    }
