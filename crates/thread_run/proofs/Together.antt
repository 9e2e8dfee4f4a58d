-- What the actors of a run leave is gathered.
use Rattle.std.proofs.Common.{◌≡◌, ◌≢◌, ◌⊎◌, inl, inr, ℕ, zero, suc, ◌<◌, ◌≤◌, true, false, List, [], ◌++◌, length, slice_get, sym, refl, ◌∙◌, subst, arith, All}
use Rattle.std.proofs.lemmas.Bool.{cases_lt, cases_Bool}
use Rattle.std.proofs.lemmas.List.{append-nil}
use Rattle.std.proofs.lemmas.List.Elements.{All-weaker}
use Rattle.history.specs.declared.entry.Entry.{Entry}
use Rattle.history.specs.Limits.{actor_limit}
use Rattle.board_script.specs.Script.{Whole}
use Rattle.board_script.specs.Bounds.{IsScript}
use Rattle.group_cells.specs.Shared.{Sites}
use Rattle.group_cells.specs.Ring.{Ring, Floors}
use Rattle.group_cells.specs.Opening.{AreHome}
use Rattle.group_cells.specs.Closing.{IsClosed}
use Rattle.group_cells.specs.Plain.{Plain}
use Rattle.journal.specs.Performing.{Performed}
use Rattle.journal.specs.Journals.{Journal, AreLegal}
use Rattle.actor_core.specs.declared.actor.Actor.{Actor}
use Rattle.actor_core.specs.Actors.{StandsWhole}
use Rattle.actor_drive.specs.Driven.{IsAdded}
use Rattle.actor_drive.proofs.Asked.{earlier_then}
use Rattle.thread_laws.specs.Gathered.{IsSeen, IsView, IsThrough, IsUp, IsOrdered, IsGathered}
use Rattle.thread_laws.specs.Idle.{OthersAreIdle}
use Rattle.thread_run.specs.Homes.{acts}
use Rattle.thread_run.specs.Through.{HavePerformed}
use Rattle.thread_run.proofs.Order.{acts_low}
use Rattle.thread_run.proofs.Views.{view_by, nothing, AreFloorsOf, IsBelow, IsGrown, nothing_below, floor_at, member_floor}
use Rattle.thread_run.proofs.Others.{IsAt, HasPast, IsEnough, other, idle_past}
use Rattle.thread_run.proofs.Closed.{journal_of, is_view, no_view}

-- ---- bring-up first in a cell, and the drain last

module _ {C R : Type 0} where
  ordered : (up view history : List (Entry C R)) (seen : ℕ → List (Entry C R)) (low high : ℕ) → length up ≤ low → IsAdded 0 high up view → IsSeen 0 view history
      → ((who : ℕ) → who ≢ 0 → IsSeen who (seen who) history × IsAdded who low [] (seen who) × (length (seen who) ≤ high)) → IsOrdered up seen history
  ordered up view history seen low high few added own others = record {
    begins = earlier_then up view history added.grows own.begins;
    behind = λ who other.
        let o = others who other in
        subst (All (λ (e : ℕ × Entry C R). length up ≤ e.0)) (sym (o.0.own ∙ (o.1.own ∙ append-nil o.1.news)))
        (All-weaker (λ (e : ℕ × Entry C R). low ≤ e.0) (λ (e : ℕ × Entry C R). length up ≤ e.0) (λ e high. omega (arith, few, high)) o.1.news o.1.high);
    news = added.news;
    own = own.own ∙ added.own;
    last = λ who other.
        let o = others who other in
        let most = o.2 in
        All-weaker (λ (e : ℕ × Entry C R). high ≤ e.0) (λ (e : ℕ × Entry C R). length (seen who) ≤ e.0) (λ e high. omega (arith, most, high)) added.news added.high;
  }

-- ---- something for the board, and for each other number

pub some : (n : ℕ) → suc n ≢ 0
some n e = absurd (omega (arith, e))

abbrev pub pick : {A : Type 0} → A → ((who : ℕ) → who ≢ 0 → A) → ℕ → A
pick a f zero = a
pick a f (suc n) = f (suc n) (some n)

-- what one of the others leaves, beside what the board saw
pub record IsPart (s : Whole) (up drain : Ring) (actors : List Actor) (cells : Plain) (who : ℕ) : Type 0 where
  pub view : Journal
  pub past : List Performed
  pub seen : (pasts : ℕ → List Performed) → IsView who view (journal_of cells pasts)
  pub below : IsBelow view drain.floors
  pub has : HasPast s up actors who view past

module _ (s : Whole) (script : IsScript s) (idle : OthersAreIdle) (g : Sites) (old now end : Ring) (actors : List Actor) (cells : Plain) (group : old.group ≡ g) (fresh : AreHome g 1 old.keys) (floors : AreFloorsOf g old.floors) (x : HavePerformed s old now actors)
    (still : (k : ℕ) → k ≢ 0 → slice_get end.keys k ≡ slice_get now.keys k) (enough : IsEnough s script g old now actors group fresh floors x) (closed : IsClosed g end.keys cells) where
  pub part : (who : ℕ) → who ≢ 0 → IsPart s old now actors cells who
  part who board = go (cases_lt who actor_limit)
    where
      beyond : actor_limit ≤ who → acts s who ≡ true → ⊥
      beyond high acting = let low = acts_low s script who acting in absurd (omega (arith, high, low))

      none : actor_limit ≤ who → (acts s who ≡ true) ⊎ (acts s who ≡ false) → acts s who ≡ false
      none high (inl acting) = absurd (beyond high acting)
      none high (inr no_one) = no_one

      go : (who < actor_limit) ⊎ (actor_limit ≤ who) → IsPart s old now actors cells who
      go (inl low) =
          let o = other s script g old now actors group fresh floors x who (omega (arith, board)) low in
          let p = o.performed idle enough in
          record {
            view = view_by o.keys;
            past = p.0;
            seen = λ pasts. is_view g end.keys cells closed pasts who o.keys low (still who board ∙ o.has.home) o.has.number o.has.of;
            below = o.has.below;
            has = p.1;
          }
      go (inr high) = record {
        view = nothing;
        past = [];
        seen = λ pasts. no_view g end.keys cells closed pasts who high;
        below = nothing_below now.floors;
        has = idle_past s script old actors who idle (omega (arith, high)) (none high (cases_Bool (acts s who)));
      }

-- ---- all of them

-- what the board leaves
pub record IsBoards (s : Whole) (up drain : Floors) (cells : Plain) (ended : Actor) : Type 0 where
  pub first : Journal
  pub view : Journal
  pub first_past : List Performed
  pub past : List Performed
  pub news : List Performed
  pub all : past ≡ news ++ first_past
  pub is_up : IsUp s first_past first
  pub below : IsBelow first up
  pub seen : (pasts : ℕ → List Performed) → IsView 0 view (journal_of cells pasts)
  pub through : IsThrough s 0 past view
  pub grown : IsGrown drain 0 first view
  pub stands : StandsWhole s 0 past ended

module _ (s : Whole) (up drain : Ring) (actors : List Actor) (cells : Plain) (ended : Actor) (board : IsBoards s up.floors drain.floors cells ended) (others : (who : ℕ) → who ≢ 0 → IsPart s up drain actors cells who) where
  abbrev pub past_of : ℕ → List Performed
  past_of = pick board.past (λ who other. (others who other).past)

  abbrev pub all_views : ℕ → Journal
  all_views = pick board.view (λ who other. (others who other).view)

  abbrev pub whole : Journal
  whole = journal_of cells past_of

  views : (who : ℕ) → IsView who (all_views who) whole
  views zero = board.seen past_of
  views (suc n) = (others (suc n) (some n)).seen past_of

  through_all : (who : ℕ) → IsThrough s who (past_of who) (all_views who)
  through_all zero = board.through
  through_all (suc n) = (others (suc n) (some n)).has.through

  grown_all : (who : ℕ) → who ≢ 0 → IsGrown up.floors who nothing (all_views who)
  grown_all zero other = absurd (other refl)
  grown_all (suc n) other = (others (suc n) (some n)).has.grown

  below_all : (who : ℕ) → who ≢ 0 → IsBelow (all_views who) drain.floors
  below_all zero other = absurd (other refl)
  below_all (suc n) other = (others (suc n) (some n)).below

  pub all_at : (who : ℕ) → who ≢ 0 → acts s who ≡ true → IsAt s actors who (past_of who)
  all_at zero other = absurd (other refl)
  all_at (suc n) other = (others (suc n) (some n)).has.actor

  pub gathered : AreLegal s whole → IsGathered s whole
  gathered legal = record {
    histories = legal;
    view = all_views;
    views = views;
    through = through_all;
    up = board.first;
    up_past = board.first_past;
    drain = board.news;
    board = board.all;
    is_up = board.is_up;
    ordered = record {
      owner = ordered board.first.owner board.view.owner whole.owner (λ who. (all_views who).owner) up.floors.owner drain.floors.owner board.below.owner board.grown.owner (views 0).owner (λ who other. ((views who).owner, (grown_all who other).owner, (below_all who other).owner));
      queue = λ k. ordered (board.first.queue k) (board.view.queue k) (whole.queue k) (λ who. (all_views who).queue k) (floor_at up.floors.queues k) (floor_at drain.floors.queues k) (board.below.queue k) (board.grown.queue k) ((views 0).queue k)
          (λ who other. ((views who).queue k, (grown_all who other).queue k, (below_all who other).queue k));
      member = λ m. ordered (board.first.member m) (board.view.member m) (whole.member m) (λ who. (all_views who).member m) (member_floor up.floors m) (member_floor drain.floors m) (board.below.member m) (board.grown.member m) ((views 0).member m)
          (λ who other. ((views who).member m, (grown_all who other).member m, (below_all who other).member m));
    };
  }
