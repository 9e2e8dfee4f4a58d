-- What the turns of one actor leave of all.
use Rattle.std.proofs.Common.{◌≡◌, ◌≢◌, ℕ, ◌<◌, ◌≤◌, true, List, length, get_or, Some, refl, sym, ap, ◌∙◌, subst, arith, length-set}
use Rattle.std.specs.Prelude.{slice_set}
use Rattle.std.specs.List.{slice_get}
use Rattle.std.proofs.lemmas.Option.{slice_get_within, slice_get_read}
use Rattle.board_script.specs.Script.{Whole}
use Rattle.board_script.specs.Bounds.{IsScript}
use Rattle.journal.specs.Lines.{lines_of}
use Rattle.journal.specs.Performing.{Performed}
use Rattle.journal.specs.Journals.{Journal}
use Rattle.journal.specs.Worlds.{run}
use Rattle.journal.specs.Settling.{Test, has_work, while_it, enough}
use Rattle.world_laws.proofs.Pasts.{IsTurned}
use Rattle.world_laws.proofs.Phases.{while_turned}
use Rattle.actor_core.specs.declared.actor.Actor.{Actor}
use Rattle.actor_core.specs.declared.lines.Lines.{Lines as LinesOf}
use Rattle.actor_core.specs.declared.lines.Lines.TheVariants.{OfScript, OfBoard}
use Rattle.actor_core.specs.Boards.{AreBegun, lines_due}
use Rattle.actor_core.specs.Actors.{StandsWhole}
use Rattle.group_cells.specs.Plain.{Plain}
use Rattle.board_run.specs.declared.phases.Rest.{Rest}
use Rattle.board_run.specs.declared.phases.Rest.TheVariants.{Service, Command, Lines}
use Rattle.board_run.specs.Places.{who_at}
use Rattle.board_run.specs.Running.{IsRunning, IsOneOf, AllStand, AreRunning}
use Rattle.board_run.specs.Finishing.{test_due, test_of, HasFinished}
use Rattle.board_run.proofs.While.{while_same}
use Rattle.board_run.proofs.CellAnswers.{set_each}
use Rattle.board_run.proofs.Places.{apart_at, some_at}

module _ (s : Whole) (script : IsScript s) where
  -- the others stand where they stood
  pub stand_set : (j k : Journal) (actors : List Actor) (place : ℕ) (a : Actor) → place < length actors → AllStand s j actors → IsTurned (who_at s place) j k
      → StandsWhole s (who_at s place) (k.past (who_at s place)) a → AllStand s k (slice_set actors place a)
  stand_set j k actors place a within all turned here = record {
    count = length-set actors place a ∙ all.count;
    each = set_each (λ n x. StandsWhole s (who_at s n) (k.past (who_at s n)) x) actors place a here
        (λ n x other at.
        let count = all.count in
        let inside : n < length actors = slice_get_within actors n x at in
        let differ : who_at s n ≢ who_at s place = λ same. other (apart_at s script n place (omega (arith, inside, count)) (omega (arith, within, count)) same) in
        subst (λ (past : List Performed). StandsWhole s (who_at s n) past x) (sym (turned.others (who_at s n) differ)) (all.each n x at));
  }

-- the actor that was read at a place
pub read_at : (actors : List Actor) (place : ℕ) (a : Actor) → place < length actors → a ≡ get_or actors place a → slice_get actors place ≡ Some a
read_at actors place a within is = slice_get_read actors (length actors) place a refl within is

-- the actor at a place is one of them
pub one_at : (s : Whole) (j : Journal) (actors : List Actor) (place : ℕ) (a : Actor) → AllStand s j actors → slice_get actors place ≡ Some a → IsOneOf s true a.performer.who j a
one_at s j actors place a all at =
    let x : StandsWhole s (who_at s place) (j.past (who_at s place)) a = all.each place a at in
    record { turns = tt; stands = subst (λ (n : ℕ). StandsWhole s n (j.past n) a) (sym x.performer.who_is) x }

-- and not the board
pub other_at : (s : Whole) (script : IsScript s) (j : Journal) (actors : List Actor) (place : ℕ) (a : Actor) → 1 ≤ place → AllStand s j actors → slice_get actors place ≡ Some a → 1 ≤ a.performer.who
other_at s script j actors place a low all at = subst (λ (n : ℕ). 1 ≤ n) (sym (all.each place a at).performer.who_is) (some_at s script place low)

-- ---- an actor but the board performs all of its lines

script_due : (s : Whole) (who count : ℕ) (lines : LinesOf) → 1 ≤ who → AreBegun s who count lines → lines_due s who lines ≡ length (lines_of s who)
script_due s who count (OfScript lines) some are = refl
script_due s who count (OfBoard next drains) some are = let is = are.0 in absurd (omega (arith, is, some))

pub all_due : (s : Whole) (who : ℕ) (past : List Performed) (a : Actor) → 1 ≤ who → StandsWhole s who past a → lines_due s who a.lines ≡ length (lines_of s who)
all_due s who past a some stands = script_due s who (length past) a.lines some stands.lines

-- by tests that are the same of it
rest_same : (s : Whole) (who : ℕ) (rest : Rest) (due : ℕ) → due ≡ length (lines_of s who) → (past : List Performed) → test_due rest due s who past ≡ test_of rest s who past
rest_same s who Service due is past = refl
rest_same s who Command due is past = refl
rest_same s who Lines due is past = ap (λ (n : ℕ). has_work n s who past) is

-- so it rests as the definition says
pub rests : (s : Whole) (who : ℕ) (rest : Rest) (due n : ℕ) (j : Journal) → due ≡ length (lines_of s who) → while_it (test_due rest due) s who n j ≡ while_it (test_of rest) s who n j
rests s who rest due n j is = while_same s who (test_due rest due) (test_of rest) (rest_same s who rest due is) n j

-- ---- all of them, behind the turns of one

module _ (s : Whole) (script : IsScript s) (j : Journal) (p q : Plain) (actors : List Actor) (place : ℕ) (a b : Actor) (low : 1 ≤ place) (all : AreRunning s j p actors) (at : slice_get actors place ≡ Some a) where
  moved : (k : Journal) (who : ℕ) → who_at s place ≡ who → IsTurned who j k → IsRunning s true k q → IsOneOf s true who k b → AreRunning s k q (slice_set actors place b)
  moved k who is turned run one = record {
    run = run;
    all = stand_set s script j k actors place b (slice_get_within actors place a at) all.all (subst (λ (n : ℕ). IsTurned n j k) (sym is) turned) (subst (λ (n : ℕ). StandsWhole s n (k.past n) b) (sym is) one.stands);
  }

  who_is : who_at s place ≡ a.performer.who
  who_is = sym (all.all.each place a at).performer.who_is

  -- while it had something to do
  pub finished_all : (rest : Rest) → HasFinished s true a.performer.who (test_due rest (lines_due s a.performer.who a.lines)) (enough s a.performer.who) j q b
      → AreRunning s (while_it (test_of rest) s (who_at s place) (enough s (who_at s place)) j) q (slice_set actors place b)
  finished_all rest done =
      let who : ℕ = a.performer.who in
      let test : Test = test_due rest (lines_due s who a.lines) in
      let one = one_at s j actors place a all.all at in
      let due = all_due s who (j.past who) a (other_at s script j actors place a low all.all at) one.stands in
      let k : Journal = while_it test s who (enough s who) j in
      subst (λ (x : Journal). AreRunning s x q (slice_set actors place b))
      (rests s who rest (lines_due s who a.lines) (enough s who) j due ∙ ap (λ (n : ℕ). while_it (test_of rest) s n (enough s n) j) (sym who_is))
      (moved k who who_is (while_turned s test who (enough s who) j) done.0 done.1)

  -- so many turns of the schedule
  pub often_all : (turns : List ℕ) → IsTurned a.performer.who j (run s turns j) → IsRunning s true (run s turns j) q → IsOneOf s true a.performer.who (run s turns j) b → AreRunning s (run s turns j) q (slice_set actors place b)
  often_all turns turned now one = moved (run s turns j) a.performer.who who_is turned now one
