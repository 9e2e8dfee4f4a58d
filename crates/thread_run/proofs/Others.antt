-- All actors but the board, behind their lines.
use Rattle.std.proofs.Common.{◌≡◌, inl, inr, ℕ, ◌+◌, ◌-◌, ◌<◌, ◌≤◌, true, false, List, [], Some, slice_get, sym, refl, ap, ◌∙◌, subst, arith, All, true≢false}
use Rattle.std.proofs.lemmas.Bool.{cases_Bool}
use Rattle.std.proofs.lemmas.Option.{slice_get_within}
use Rattle.history.specs.Limits.{actor_limit}
use Rattle.board_script.specs.Script.{Whole}
use Rattle.board_script.specs.Bounds.{IsScript}
use Rattle.group_calls.specs.declared.ask.Ask.TheVariants.{Queue}
use Rattle.group_calls.specs.declared.ask.Told.TheVariants.{Queue as FromQueue}
use Rattle.group_cells.specs.Cells.{Sight}
use Rattle.group_cells.specs.Shared.{Sites, KeySet, IsKeySetOf, sight_of}
use Rattle.group_cells.specs.Ring.{Ring, with_floors}
use Rattle.group_cells.specs.Opening.{AreHome}
use Rattle.journal.specs.Performing.{Performed}
use Rattle.journal.specs.Journals.{Journal}
use Rattle.actor_core.specs.declared.actor.Actor.{Actor}
use Rattle.actor_core.specs.Actors.{StandsWhole}
use Rattle.actor_drive.specs.Driven.{HasEnded, AreOnward}
use Rattle.actor_drive.proofs.Fed.{added_none}
use Rattle.board_run.specs.Places.{actor_count, who_at}
use Rattle.board_run.proofs.Places.{apart_at, some_at}
use Rattle.board_run.proofs.Others.{all_due}
use Rattle.thread_laws.specs.Gathered.{IsThrough}
use Rattle.thread_laws.specs.Idle.{OthersAreIdle}
use Rattle.thread_run.specs.declared.job.Job.{Job}
use Rattle.thread_run.specs.Jobs.{IsDone, IsNewJob}
use Rattle.thread_run.specs.Homes.{acts, with_homes}
use Rattle.thread_run.specs.Through.{HavePerformed}
use Rattle.thread_run.proofs.Lists.{there, all_at, all_from, map_up}
use Rattle.thread_run.proofs.Order.{acts_where, place_found, acts_low, all_jobs, job_number, job_acts}
use Rattle.thread_run.proofs.Views.{view_by, nothing, view_fresh, AreFloorsOf, IsBelow, IsGrown, nothing_below, grown, floor_at, member_floor}
use Rattle.thread_run.proofs.Homing.{AreApart, IsNone, group_still, home_still, home_again, floors_still, all_below}
use Rattle.thread_run.proofs.Ended.{through}
use Rattle.thread_run.proofs.Starts.{nothing_asked}

-- the actor of this number stands among them, behind these lines
pub record IsAt (s : Whole) (actors : List Actor) (who : ℕ) (past : List Performed) : Type 0 where
  pub index : ℕ
  pub within : index + 1 < actor_count s
  pub is : who_at s (index + 1) ≡ who
  pub actor : Actor
  pub at : slice_get actors index ≡ Some actor
  pub stands : StandsWhole s who past actor

-- the keys of this number are home
pub record HasKeys (g : Sites) (now : Ring) (who : ℕ) (keys : KeySet) : Type 0 where
  pub home : slice_get now.keys who ≡ Some (Some keys)
  pub number : keys.who ≡ who
  pub of : IsKeySetOf g keys
  pub below : IsBelow (view_by keys) now.floors

-- and what was performed by them
pub record HasPast (s : Whole) (old : Ring) (actors : List Actor) (who : ℕ) (view : Journal) (past : List Performed) : Type 0 where
  pub through : IsThrough s who past view
  pub grown : IsGrown old.floors who nothing view
  pub actor : acts s who ≡ true → IsAt s actors who past

-- a number that doesn't act has no lines
pub idle_past : (s : Whole) (script : IsScript s) (old : Ring) (actors : List Actor) (who : ℕ) → OthersAreIdle → 1 ≤ who → acts s who ≡ false → HasPast s old actors who nothing []
idle_past s script old actors who idle low none = record {
  through = record {
    lines = idle s who script (λ e. absurd (omega (arith, e, low))) (λ actor. true≢false (sym (acts_where s who actor) ∙ none));
    performed = tt;
    left = record { owner = refl; queue = λ k. refl; member = λ m. refl };
    heard = λ k call placed later earlier is. absurd (nothing_asked later earlier (Queue k call, FromQueue placed) is);
  };
  grown = record {
    owner = added_none who old.floors.owner [];
    queue = λ k. added_none who (floor_at old.floors.queues k) [];
    member = λ m. added_none who (member_floor old.floors m) [];
  };
  actor = λ acting. absurd (true≢false (sym acting ∙ none));
}

module _ (s : Whole) (script : IsScript s) (g : Sites) (old now : Ring) (actors : List Actor) (group : old.group ≡ g) (fresh : AreHome g 1 old.keys) (floors : AreFloorsOf g old.floors) (x : HavePerformed s old now actors) where
  abbrev left : Ring
  left = record { group = old.group; keys = x.homes; floors = old.floors }

  -- ---- each end of a job

  record IsEnd (i : ℕ) (end : Job) : Type 0 where
    job : Job
    at : slice_get x.jobs i ≡ Some job
    unused : IsNewJob s old.floors job.keys.who job.actor job.keys
    done : IsDone s g job.actor job.keys end.actor end.keys
    number : end.keys.who ≡ who_at s (i + 1)
    acting : acts s end.keys.who ≡ true

  end_of : (i : ℕ) (end : Job) → slice_get x.ends i ≡ Some end → IsEnd i end
  end_of i end at =
      let low = slice_get_within x.ends i end at in
      let many = x.done.as_many in
      let job = there x.jobs i (omega (arith, low, many)) in
      let done = x.done.each i job.0 end job.1 at in
      let same : end.keys.who ≡ job.0.keys.who = ap (λ (c : Sight). c.who) done.onward.frame in
      record {
        job = job.0;
        at = job.1;
        unused = all_at (λ (j : Job). IsNewJob s old.floors j.keys.who j.actor j.keys) x.jobs i job.0 x.unused job.1;
        done = subst (λ (h : Sites). IsDone s h job.0.actor job.0.keys end.actor end.keys) group done;
        number = same ∙ job_number s x.jobs x.order i job.0 job.1;
        acting = ap (acts s) same ∙ job_acts s x.jobs x.order i job.0 job.1;
      }

  end_within : (i : ℕ) (end : Job) → slice_get x.ends i ≡ Some end → i + 1 < actor_count s
  end_within i end at =
      let low = slice_get_within x.ends i end at in
      let many = x.done.as_many in
      let all = all_jobs s x.jobs x.order in
      omega (arith, low, many, all)

  are_apart : AreApart x.ends
  are_apart i j a b here there same =
      let e : i + 1 ≡ j + 1 = apart_at s script (i + 1) (j + 1) (end_within i a here) (end_within j b there) (sym (end_of i a here).number ∙ (same ∙ (end_of j b there).number)) in
      omega (arith, e)

  all_of : All (λ (end : Job). IsKeySetOf g end.keys) x.ends
  all_of = all_from (λ (end : Job). IsKeySetOf g end.keys) x.ends (λ i end at. (end_of i end at).done.of)

  idle_none : (k : ℕ) → acts s k ≡ false → IsNone x.ends k
  idle_none k idle i end at same = true≢false (sym (end_of i end at).acting ∙ (ap (acts s) same ∙ idle))

  -- ---- the board's keys stayed home

  pub others_group : now.group ≡ g
  others_group = ap (λ (z : Ring). z.group) x.home ∙ (group_still x.ends left ∙ group)

  pub others_floors : AreFloorsOf g now.floors
  others_floors = subst (λ (z : Ring). AreFloorsOf g z.floors) (sym x.home) (floors_still g x.ends left floors)

  idle_home : (k : ℕ) → acts s k ≡ false → slice_get now.keys k ≡ slice_get old.keys k
  idle_home k idle = ap (λ (z : Ring). slice_get z.keys k) x.home ∙ (home_still x.ends left k (idle_none k idle) ∙ x.taken.stay k idle)

  pub board_home : slice_get now.keys 0 ≡ slice_get old.keys 0
  board_home = idle_home 0 refl

  -- ---- a number that acts

  record Acts (who : ℕ) : Type 0 where
    index : ℕ
    end : Job
    at : slice_get x.ends index ≡ Some end
    is : who_at s (index + 1) ≡ who

  acts_by : (who : ℕ) → acts s who ≡ true → Acts who
  acts_by who acting =
      let place = place_found s script who acting in
      let low = place.1.low in
      let high = place.1.within in
      let index : ℕ = place.0 - 1 in
      let many = x.done.as_many in
      let all = all_jobs s x.jobs x.order in
      let end = there x.ends index (omega (arith, low, high, many, all)) in
      let number : index + 1 ≡ place.0 = omega (arith, low) in
      record { index = index; end = end.0; at = end.1; is = ap (who_at s) number ∙ place.1.is }

  module _ (who : ℕ) (a : Acts who) where
    e : IsEnd a.index a.end
    e = end_of a.index a.end a.at

    numbered : a.end.keys.who ≡ who
    numbered = e.number ∙ a.is

    low : 1 ≤ a.end.keys.who
    low = let some = some_at s script (a.index + 1) (omega arith) in let n = e.number in omega (arith, some, n)

    came_home : slice_get (with_homes x.ends left).keys a.end.keys.who ≡ Some (Some a.end.keys)
    came_home =
        let places = x.taken.places in
        let was = fresh a.end.keys.who low (acts_low s script a.end.keys.who e.acting) in
        let within = slice_get_within old.keys a.end.keys.who (Some was.0) was.1 in
        home_again x.ends left a.index a.end are_apart a.at (omega (arith, within, places))

    acting_keys : HasKeys g now who a.end.keys
    acting_keys = record {
      home = ap (λ (z : Ring). slice_get z.keys who) x.home ∙ (ap (slice_get (with_homes x.ends left).keys) (sym numbered) ∙ came_home);
      number = numbered;
      of = e.done.of;
      below = subst (λ (z : Ring). IsBelow (view_by a.end.keys) z.floors) (sym x.home) (all_below g x.ends left a.index a.end all_of floors a.at);
    }

    actor_here : slice_get actors a.index ≡ Some a.end.actor
    actor_here = ap (λ (l : List Actor). slice_get l a.index) x.actors_of ∙ map_up (λ (job : Job). job.actor) x.ends a.index a.end a.at

    acting_past : a.end.actor.short ≡ false → (past : List Performed) × HasPast s old actors who (view_by a.end.keys) past
    acting_past enough =
        let n = e.unused in
        let ended = e.done.ended [] n.beside enough in
        let past = ended.0 in
        let over : HasEnded s past a.end.actor (sight_of a.end.keys) = ended.1.0 in
        let due = all_due s a.end.keys.who past a.end.actor low over.beside.stands in
        let on : AreOnward (sight_of (with_floors old.floors n.unused)) (sight_of a.end.keys) = subst (λ (k : KeySet). AreOnward (sight_of k) (sight_of a.end.keys)) n.keys e.done.onward in
        let same : n.unused.who ≡ who = ap (λ (k : KeySet). k.who) (sym n.keys) ∙ (sym (ap (λ (c : Sight). c.who) e.done.onward.frame) ∙ numbered) in (
          past,
          record {
            through = subst (λ (k : ℕ). IsThrough s k past (view_by a.end.keys)) numbered (through s past a.end.actor (sight_of a.end.keys) due over);
            grown = subst (λ (k : ℕ). IsGrown old.floors k nothing (view_by a.end.keys)) same (subst (λ (v : Journal). IsGrown old.floors n.unused.who v (view_by a.end.keys)) (view_fresh n.unused n.fresh) (grown g old.floors n.unused a.end.keys e.done.of floors on));
            actor = λ acting. record {
              index = a.index;
              within = end_within a.index a.end a.at;
              is = a.is;
              actor = a.end.actor;
              at = actor_here;
              stands = subst (λ (k : ℕ). StandsWhole s k past a.end.actor) numbered over.beside.stands;
            };
          },
        )

  -- ---- each number but the board's

  -- none of the actors was short of memory
  abbrev pub IsEnough : Type 0
  IsEnough = (i : ℕ) (a : Actor) → slice_get actors i ≡ Some a → a.short ≡ false

  pub record IsOther (who : ℕ) : Type 0 where
    pub keys : KeySet
    pub has : HasKeys g now who keys
    pub performed : OthersAreIdle → IsEnough → (past : List Performed) × HasPast s old actors who (view_by keys) past

  acting_one : (who : ℕ) → Acts who → IsOther who
  acting_one who a = record {
    keys = a.end.keys;
    has = acting_keys who a;
    performed = λ idle enough. acting_past who a (enough a.index a.end.actor (actor_here who a));
  }

  idle_one : (who : ℕ) → acts s who ≡ false → 1 ≤ who → who < actor_limit → IsOther who
  idle_one who none low below =
      let h = fresh who low below in
      let view : view_by h.0 ≡ nothing = view_fresh h.0 h.4 in
      record {
        keys = h.0;
        has = record {
          home = idle_home who none ∙ h.1;
          number = h.2;
          of = h.3;
          below = subst (λ (v : Journal). IsBelow v now.floors) (sym view) (nothing_below now.floors);
        };
        performed = λ idle enough. ([], subst (λ (v : Journal). HasPast s old actors who v []) (sym view) (idle_past s script old actors who idle low none));
      }

  pub other : (who : ℕ) → 1 ≤ who → who < actor_limit → IsOther who
  other who low below = elim (cases_Bool (acts s who)) [
    | inl acting ↦ acting_one who (acts_by who acting)
    | inr none ↦ idle_one who none low below
  ]
