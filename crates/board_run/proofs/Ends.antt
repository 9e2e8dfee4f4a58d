-- The beginning and the end of a run: bring-up, settling and the drain.
use Rattle.std.proofs.Common.{◌≡◌, ◌≢◌, ℕ, ◌+◌, ◌-◌, ◌<◌, ◌≤◌, false, true, List, [], length, map, Some, refl, sym, ap, ◌∙◌, subst, arith, length-set}
use Rattle.std.specs.Prelude.{slice_set}
use Rattle.std.specs.List.{slice_get}
use Rattle.board_script.specs.Script.{Whole}
use Rattle.board_script.specs.Bounds.{IsScript}
use Rattle.journal.specs.Lines.{first_lines, lines_of, numbers}
use Rattle.journal.specs.Performing.{Performed}
use Rattle.journal.specs.Journals.{Journal, IsGuestOf}
use Rattle.journal.specs.Worlds.{first}
use Rattle.journal.specs.Texts.{answer_lines}
use Rattle.journal.specs.Settling.{Test, enough, has_work, has_lines, each_while, actors, guests, brought_up, drained}
use Rattle.world_laws.proofs.Pasts.{IsTurned}
use Rattle.world_laws.proofs.Phases.{while_turned}
use Rattle.group_cells.specs.Plain.{Plain}
use Rattle.actor_core.specs.declared.actor.Actor.{Actor}
use Rattle.actor_core.specs.declared.items.LeftItem.{LeftItem}
use Rattle.actor_core.specs.declared.lists.Trace.{Trace}
use Rattle.actor_core.specs.declared.performer.Performer.{Performer}
use Rattle.actor_core.specs.Boards.{lines_now, lines_due}
use Rattle.actor_core.specs.Kept.{trace_of, left_pair}
use Rattle.actor_core.specs.Shown.{answers_text}
use Rattle.actor_core.specs.Answered.{ended_of}
use Rattle.actor_core.specs.Actors.{StandsWhole}
use Rattle.board_run.specs.declared.phases.Rest.TheVariants.{Lines}
use Rattle.board_run.specs.Places.{actor_count, who_at}
use Rattle.board_run.specs.Standing.{HoldsJournal}
use Rattle.board_run.specs.Reached.{begins, is_up}
use Rattle.board_run.specs.Running.{IsRunning, IsOneOf, AllStand, AreRunning, BoardPerforms}
use Rattle.board_run.specs.Finishing.{test_due, HasFinished}
use Rattle.board_run.specs.Ran.{IsRun}
use Rattle.board_run.proofs.CellAnswers.{set_each}
use Rattle.board_run.proofs.Places.{at_guest, some_at, actors_in_order, guests_in_order}
use Rattle.board_run.proofs.Others.{stand_set, rests}

-- ---- settling, in the definition's order

pub all_each : (s : Whole) (test : Test) (n : ℕ) (j : Journal) → n ≡ actor_count s → each_while test s (map (who_at s) (numbers 1 (n - 1))) j ≡ each_while test s (actors s) j
all_each s test n j is = ap (λ (m : ℕ). each_while test s (map (who_at s) (numbers 1 (m - 1))) j) is ∙ ap (λ (l : List ℕ). each_while test s l j) (actors_in_order s)

pub guests_each : (s : Whole) (test : Test) (n : ℕ) (j : Journal) → n ≡ length s.guests + 1 → each_while test s (map (who_at s) (numbers 1 (n - 1))) j ≡ each_while test s (guests s) j
guests_each s test n j is = let e : n - 1 ≡ length s.guests = omega (arith, is) in ap (λ (m : ℕ). each_while test s (map (who_at s) (numbers 1 m)) j) e ∙ ap (λ (l : List ℕ). each_while test s l j) (guests_in_order s)

-- ---- the board stands first

pub board_at : (s : Whole) → who_at s 0 ≡ 0
board_at s = at_guest s 0 (omega arith)

pub board_one : (s : Whole) (j : Journal) (all : List Actor) (a : Actor) → AllStand s j all → slice_get all 0 ≡ Some a → StandsWhole s 0 (j.past 0) a
board_one s j all a stand at = subst (λ (n : ℕ). StandsWhole s n (j.past n) a) (board_at s) (stand.each 0 a at)

pub some_actor : (s : Whole) (j : Journal) (all : List Actor) → AllStand s j all → 0 < length all
some_actor s j all stand = let count = stand.count in omega (arith, count)

-- ---- bring-up

pub starts : (s : Whole) (p : Plain) → HoldsJournal s first p → IsRunning s false first p
starts s p holds = record { holds = holds; reached = begins }

pub first_one : (s : Whole) (all : List Actor) (a : Actor) → AllStand s first all → slice_get all 0 ≡ Some a → IsOneOf s false a.performer.who first a
first_one s all a stand at =
    let x : StandsWhole s 0 [] a = board_one s first all a stand at in
    record { turns = x.performer.who_is; stands = subst (λ (n : ℕ). StandsWhole s n [] a) (sym x.performer.who_is) x }

module _ (s : Whole) (script : IsScript s) (p q : Plain) (all : List Actor) (a b : Actor) (stand : AllStand s first all) (at : slice_get all 0 ≡ Some a) where
  -- behind it all may ask
  pub up_all : BoardPerforms s (first_lines s) all → HasFinished s false a.performer.who (test_due Lines (lines_due s a.performer.who a.lines)) (enough s a.performer.who) first q b
      → AreRunning s (brought_up s first) q (slice_set all 0 b)
  up_all performs done =
      let who : a.performer.who ≡ 0 = (board_one s first all a stand at).performer.who_is in
      let due : lines_due s 0 a.lines ≡ length (first_lines s) = ap length (performs a at) in
      let here : HasFinished s false 0 (has_work (length (first_lines s))) (enough s 0) first q b =
      subst (λ (d : ℕ). HasFinished s false 0 (has_work d) (enough s 0) first q b) due
      (subst (λ (w : ℕ). HasFinished s false w (has_work (lines_due s w a.lines)) (enough s w) first q b) who done) in
      let turned : IsTurned 0 first (brought_up s first) = while_turned s (has_work (length (first_lines s))) 0 (enough s 0) first in
      record {
        run = record { holds = here.0.holds; reached = is_up };
        all = stand_set s script first (brought_up s first) all 0 b (some_actor s first all stand) stand
            (subst (λ (n : ℕ). IsTurned n first (brought_up s first)) (sym (board_at s)) turned)
            (subst (λ (n : ℕ). StandsWhole s n ((brought_up s first).past n) b) (sym (board_at s)) here.1.stands);
      }

-- ---- the drain

-- what an actor has kept of its lines
pub record IsKept (s : Whole) (j : Journal) (place : ℕ) (a : Actor) : Type 0 where
  pub number : a.performer.who ≡ who_at s place
  pub trace : a.kept.trace.items.items ≡ trace_of (j.past (who_at s place))
  pub answers : IsGuestOf s place → answers_text a.kept.answers.items.items ≡ answer_lines s place (ended_of s place (j.past place))

kept_by : (s : Whole) → IsScript s → (j k : Journal) (place : ℕ) (a : Actor) → 1 ≤ place → IsTurned 0 j k → StandsWhole s (who_at s place) (j.past (who_at s place)) a → IsKept s k place a
kept_by s script j k place a low turned stands =
    let other : who_at s place ≢ 0 = λ e. let some = some_at s script place low in absurd (omega (arith, e, some)) in
    let same : k.past (who_at s place) ≡ j.past (who_at s place) = turned.others (who_at s place) other in
    record {
      number = stands.performer.who_is;
      trace = stands.trace ∙ ap trace_of (sym same);
      answers = λ guest.
          let high : place ≤ length s.guests = guest.1 in
          let few : length s.guests ≤ 16 = script.few_guests in
          let at : who_at s place ≡ place = at_guest s place high in
          let here : StandsWhole s place (k.past place) a = subst (λ (n : ℕ). StandsWhole s n (k.past n) a) at (subst (λ (past : List Performed). StandsWhole s (who_at s place) past a) (sym same) stands) in
          here.answers (low, omega (arith, high, few));
    }

-- the board performs all of its lines now
pub drains : (s : Whole) (j : Journal) (b : Actor) → StandsWhole s 0 (j.past 0) b → IsOneOf s true b.performer.who j b
drains s j b stands = record { turns = tt; stands = subst (λ (n : ℕ). StandsWhole s n (j.past n) b) (sym stands.performer.who_is) stands }

module _ (s : Whole) (script : IsScript s) (j : Journal) (p q : Plain) (all : List Actor) (a b c : Actor) (left : List LeftItem) (run : AreRunning s j p all) (at : slice_get all 0 ≡ Some a) where
  pub drained_run : StandsWhole s 0 (j.past 0) b → lines_now s 0 b.lines ≡ lines_of s 0 → (d : Actor) → HasFinished s true b.performer.who (test_due Lines (lines_due s b.performer.who b.lines)) (enough s b.performer.who) j q c
      → left ≡ c.kept.left.items.items → d.performer ≡ c.performer → d.kept.trace ≡ c.kept.trace → IsRun s (drained s j) q (slice_set all 0 d) left
  drained_run stands due d done left_is performer trace =
      let who : b.performer.who ≡ 0 = stands.performer.who_is in
      let here : HasFinished s true 0 has_lines (enough s 0) j q c =
      subst (λ (k : Journal). IsRunning s true k q × IsOneOf s true 0 k c) (rests s 0 Lines (lines_due s 0 b.lines) (enough s 0) j (ap length due))
      (subst (λ (w : ℕ). HasFinished s true w (test_due Lines (lines_due s w b.lines)) (enough s w) j q c) who done) in
      let turned : IsTurned 0 j (drained s j) = while_turned s has_lines 0 (enough s 0) j in
      let end : StandsWhole s 0 ((drained s j).past 0) c = here.1.stands in
      let board : IsKept s (drained s j) 0 d = record {
        number = ap (λ (x : Performer). x.who) performer ∙ (end.performer.who_is ∙ sym (board_at s));
        trace = ap (λ (x : Trace). x.items.items) trace ∙ (end.trace ∙ ap (λ (n : ℕ). trace_of ((drained s j).past n)) (sym (board_at s)));
        answers = λ guest. let low : 1 ≤ 0 = guest.0 in absurd (omega (arith, low));
      } in
      let each : (i : ℕ) (x : Actor) → slice_get (slice_set all 0 d) i ≡ Some x → IsKept s (drained s j) i x =
      set_each (IsKept s (drained s j)) all 0 d board (λ i x other there. kept_by s script j (drained s j) i x (omega (arith, other)) turned (run.all.each i x there)) in
      record {
        cells_of = here.0.holds;
        count = length-set all 0 d ∙ run.all.count;
        number = λ i x there. (each i x there).number;
        trace = λ i x there. (each i x there).trace;
        answers = λ g x guest there. (each g x there).answers guest;
        left_of = ap (map left_pair) left_is ∙ end.left refl;
      }
