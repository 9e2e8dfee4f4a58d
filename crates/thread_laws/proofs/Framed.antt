-- Bring-up stands first in each cell of the whole, and the drain last.
use Rattle.std.proofs.Common.{◌≡◌, ℕ, List, [], ◌∷◌, ◌++◌, length, filter, drop, refl, sym, ap, ◌∙◌, arith, append_assoc, length-append}
use Rattle.std.specs.Prelude.{not}
use Rattle.std.proofs.lemmas.List.Elements.{filter_map-append}
use Rattle.history.specs.declared.entry.Entry.{Entry}
use Rattle.history.specs.Places.{calls_of}
use Rattle.group_calls.specs.Asks.{Exchange}
use Rattle.board_script.specs.Script.{Whole}
use Rattle.journal.specs.Lines.{first_lines, last_lines, lines_of, is_last}
use Rattle.journal.specs.Cells.{left_in_owner, left_in_queue, left_in_member, owner_part, queue_part, member_part}
use Rattle.journal.specs.Performing.{Performed, all_asked}
use Rattle.journal.specs.Journals.{Journal, AreFramed, IsFramed, first_asked, last_asked, lines_then}
use Rattle.world_laws.proofs.Turns.{dropped}
use Rattle.world_laws.proofs.Framing.{AreLast, AreNotLast, not_last}
use Rattle.world_laws.proofs.Finals.{lines_append, news_last}
use Rattle.thread_laws.specs.Gathered.{IsSeen, IsOrdered, IsGathered}
use Rattle.thread_laws.proofs.Seen.{within}
use Rattle.thread_laws.proofs.Ordered.{cell_framed}

-- ---- lines of bring-up, and of the drain

firsts_of : (drain up : List Performed) → AreLast drain → AreNotLast up → filter (λ p. not (is_last p.line)) (drain ++ up) ≡ up
firsts_of [] [] l n = refl
firsts_of [] (p ∷ up) l n = rw n.0 (ap (λ xs. p ∷ xs) (firsts_of [] up tt n.1))
firsts_of (p ∷ drain) up l n = rw l.0 (firsts_of drain up l.1 n)

lasts_of : (drain up : List Performed) → AreLast drain → AreNotLast up → filter (λ p. is_last p.line) (drain ++ up) ≡ drain
lasts_of [] [] l n = refl
lasts_of [] (p ∷ up) l n = rw n.0 (lasts_of [] up tt n.1)
lasts_of (p ∷ drain) up l n = rw l.0 (ap (λ xs. p ∷ xs) (lasts_of drain up l.1 n))

pub all_append : (later earlier : List Performed) → all_asked (later ++ earlier) ≡ all_asked later ++ all_asked earlier
all_append [] earlier = refl
all_append (p ∷ later) earlier = ap (λ xs. p.asked ++ xs) (all_append later earlier) ∙ sym (append_assoc p.asked (all_asked later) (all_asked earlier))

drop_front : {X : Type 0} (xs ys : List X) → drop (length xs) (xs ++ ys) ≡ ys
drop_front [] ys = refl
drop_front (x ∷ xs) ys = drop_front xs ys

module _ (s : Whole) (j : Journal) (x : IsGathered s j) where
  pub board_lines : lines_of s 0 ≡ lines_then x.up_past (lines_then x.drain [])
  board_lines = (x.through 0).lines ∙ (ap (λ (p : List Performed). lines_then p []) x.board ∙ lines_append x.drain x.up_past [])

  -- behind bring-up the drain's lines are left
  rest_is : lines_then x.drain [] ≡ last_lines s
  rest_is =
      sym (dropped x.up_past (lines_then x.drain []))
      ∙ (ap (drop (length x.up_past)) (sym board_lines) ∙ (ap (λ (n : ℕ). drop n (lines_of s 0)) x.is_up.all ∙ drop_front (first_lines s) (last_lines s)))

  pub up_lines : lines_of s 0 ≡ lines_then x.up_past (last_lines s)
  up_lines = board_lines ∙ ap (lines_then x.up_past) rest_is

  pub drain_last : AreLast x.drain
  drain_last = news_last s x.drain x.up_past [] ((x.through 0).lines ∙ ap (λ (p : List Performed). lines_then p []) x.board) up_lines

  up_not_last : AreNotLast x.up_past
  up_not_last = not_last s x.up_past (last_lines s) up_lines (let e = x.is_up.all in omega (arith, e))

  first_is : first_asked j ≡ all_asked x.up_past
  first_is = ap all_asked (ap (filter (λ p. not (is_last p.line))) x.board ∙ firsts_of x.drain x.up_past drain_last up_not_last)

  last_is : last_asked j ≡ all_asked x.drain
  last_is = ap all_asked (ap (filter (λ p. is_last p.line)) x.board ∙ lasts_of x.drain x.up_past drain_last up_not_last)

  all_is : all_asked (j.past 0) ≡ all_asked x.drain ++ all_asked x.up_past
  all_is = ap all_asked x.board ∙ all_append x.drain x.up_past

  -- ---- one cell

  module _ {C R : Type 0} (part : List Exchange → List (ℕ × Entry C R)) (spread : (xs ys : List Exchange) → part (xs ++ ys) ≡ part xs ++ part ys) (up : List (Entry C R)) (seen : ℕ → List (Entry C R)) (history : List (Entry C R))
      (ordered : IsOrdered up seen history) (sees : (who : ℕ) → IsSeen who (seen who) history) (left_up : part (all_asked x.up_past) ≡ calls_of 0 up) (left : part (all_asked (j.past 0)) ≡ calls_of 0 (seen 0)) where
    part_framed : IsFramed (length (part (first_asked j))) (length (part (last_asked j))) history
    part_framed =
        cell_framed up seen history ordered (length (part (first_asked j))) (length (part (last_asked j)))
        (ap (λ xs. length (part xs)) first_is ∙ ap length left_up)
        (let a : length (part (last_asked j)) ≡ length (part (all_asked x.drain)) = ap (λ xs. length (part xs)) last_is in
        let b : length (calls_of 0 up) ≡ length (part (all_asked x.up_past)) = ap length (sym left_up) in
        let c : length (calls_of 0 history) ≡ length (part (all_asked x.drain) ++ part (all_asked x.up_past)) = ap length ((sees 0).own ∙ (sym left ∙ (ap part all_is ∙ spread (all_asked x.drain) (all_asked x.up_past)))) in
        let d = length-append (part (all_asked x.drain)) (part (all_asked x.up_past)) in
        omega (arith, a, b, c, d))
        (λ who other. within who (seen who) history (sees who))

  -- ---- all cells

  pub whole_framed : AreFramed j
  whole_framed = record {
    owner = part_framed (owner_part 0) (λ xs ys. filter_map-append (left_in_owner 0) xs ys) x.up.owner (λ who. (x.view who).owner) j.owner x.ordered.owner (λ who. (x.views who).owner) x.is_up.left.owner (x.through 0).left.owner;
    queue = λ k. part_framed (queue_part 0 k) (λ xs ys. filter_map-append (left_in_queue 0 k) xs ys) (x.up.queue k) (λ who. (x.view who).queue k) (j.queue k) (x.ordered.queue k) (λ who. (x.views who).queue k) (x.is_up.left.queue k) ((x.through 0).left.queue k);
    member = λ m. part_framed (member_part 0 m) (λ xs ys. filter_map-append (left_in_member 0 m) xs ys) (x.up.member m) (λ who. (x.view who).member m) (j.member m) (x.ordered.member m) (λ who. (x.views who).member m) (x.is_up.left.member m) ((x.through 0).left.member m);
  }
