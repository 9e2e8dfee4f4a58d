-- What an actor saw by its keys, beside the floors of a ring.
use Rattle.std.proofs.Common.{◌≡◌, ℕ, zero, suc, ◌≤◌, List, [], ◌∷◌, length, map, slice_get, sym, refl, ap, ◌∙◌, subst, arith}
use Rattle.std.proofs.lemmas.List.{length-map}
use Rattle.std.proofs.lemmas.List.Elements.{All-weaker}
use Rattle.history.specs.declared.entry.Entry.{Entry}
use Rattle.group_calls.specs.Queue.{RingEntry}
use Rattle.group_calls.specs.MemberEntries.{MemberEntry}
use Rattle.turn_cell.specs.Passes.{Each}
use Rattle.group_cells.specs.Cells.{Sight, shows}
use Rattle.group_cells.specs.Keys.{Key, shown_by}
use Rattle.group_cells.specs.Shared.{Sites, KeySet, IsKeySetOf, sight_of}
use Rattle.group_cells.specs.Ring.{Floors, each_by, with_least, raised, with_floors, raised_by}
use Rattle.group_cells.specs.Opening.{IsFreshSet}
use Rattle.group_cells.proofs.Leasts.{each_length}
use Rattle.journal.specs.Journals.{Journal}
use Rattle.actor_drive.specs.Shown.{shown_of, least_of, member_shown, shown_journal, frame_of, queue_least, member_least}
use Rattle.actor_drive.specs.Driven.{IsAdded, AreOnward}

-- what was seen by these keys
abbrev pub view_by : KeySet → Journal
view_by h = shown_journal (sight_of h)

abbrev pub nothing : Journal
nothing = record { owner = []; queue = λ k. []; member = λ m. []; past = λ who. [] }

-- journals of no lines with the same histories
pub same_view : (a b : Journal) → a.owner ≡ b.owner → ((k : ℕ) → a.queue k ≡ b.queue k) → ((m : ℕ) → a.member m ≡ b.member m) → a.past ≡ b.past → a ≡ b
same_view a b owner queue member past = λ i. record { owner = owner i; queue = λ k. queue k i; member = λ m. member m i; past = past i }

module _ {M C R : Type 0} where
  same_shown : (keys : List (Key M C R)) (fs : List ℕ) (k : ℕ) → shown_of (slice_get (map shown_by (each_by with_least keys fs)) k) ≡ shown_of (slice_get (map shown_by keys) k)
  same_shown [] fs k = refl
  same_shown (x ∷ keys) [] k = refl
  same_shown (x ∷ keys) (f ∷ fs) zero = refl
  same_shown (x ∷ keys) (f ∷ fs) (suc k) = same_shown keys fs k

  none_shown : (keys : List (Key M C R)) (k : ℕ) → Each (λ j key. (key.seen ≡ []) × (key.mine ≡ [])) keys → shown_of (slice_get (map shown_by keys) k) ≡ []
  none_shown [] k all = refl
  none_shown (x ∷ keys) zero all = (all 0 x refl).0
  none_shown (x ∷ keys) (suc k) all = none_shown keys k (λ j key at. all (suc j) key at)

-- floors don't change what was seen
pub view_with : (f : Floors) (h : KeySet) → view_by (with_floors f h) ≡ view_by h
view_with f h = same_view (view_by (with_floors f h)) (view_by h) refl (λ k. same_shown h.queues f.queues k) member refl
  where
    member : (m : ℕ) → member_shown (sight_of (with_floors f h)) m ≡ member_shown (sight_of h) m
    member zero = refl
    member (suc k) = same_shown h.members f.members k

pub view_fresh : (h : KeySet) → IsFreshSet h → view_by h ≡ nothing
view_fresh h fresh = same_view (view_by h) nothing fresh.owner.0 (λ k. none_shown h.queues k fresh.queues) member refl
  where
    member : (m : ℕ) → member_shown (sight_of h) m ≡ []
    member zero = refl
    member (suc k) = none_shown h.members k fresh.members

-- ---- floors

abbrev pub floor_at : List ℕ → ℕ → ℕ
floor_at [] k = 0
floor_at (f ∷ fs) zero = f
floor_at (f ∷ fs) (suc k) = floor_at fs k

-- members have the numbers from 1 on
abbrev pub member_floor : Floors → ℕ → ℕ
member_floor f zero = 0
member_floor f (suc k) = floor_at f.members k

-- one for each cell of the group
pub record AreFloorsOf (g : Sites) (f : Floors) : Type 0 where
  pub queues : length f.queues ≡ length g.queues
  pub members : length f.members ≡ length g.members

-- no history that was seen is longer than its floor
pub record IsBelow (view : Journal) (f : Floors) : Type 0 where
  pub owner : length view.owner ≤ f.owner
  pub queue : (k : ℕ) → length (view.queue k) ≤ floor_at f.queues k
  pub member : (m : ℕ) → length (view.member m) ≤ member_floor f m

-- more was seen, and the actor's new entries stand at no place below the floors
pub record IsGrown (f : Floors) (who : ℕ) (old new : Journal) : Type 0 where
  pub owner : IsAdded who f.owner old.owner new.owner
  pub queue : (k : ℕ) → IsAdded who (floor_at f.queues k) (old.queue k) (new.queue k)
  pub member : (m : ℕ) → IsAdded who (member_floor f m) (old.member m) (new.member m)

pub nothing_below : (f : Floors) → IsBelow nothing f
nothing_below f = record { owner = omega arith; queue = λ k. omega arith; member = λ m. omega arith }

-- ---- floors are raised

module _ {M C R : Type 0} where
  raised_here : (fs : List ℕ) (keys : List (Key M C R)) (k : ℕ) → length fs ≡ length keys → length (shown_of (slice_get (map shown_by keys) k)) ≤ floor_at (each_by raised fs keys) k
  raised_here [] [] k same = omega arith
  raised_here [] (x ∷ keys) k same = absurd (omega (arith, same))
  raised_here (f ∷ fs) [] k same = absurd (omega (arith, same))
  raised_here (f ∷ fs) (x ∷ keys) zero same = omega arith
  raised_here (f ∷ fs) (x ∷ keys) (suc k) same = raised_here fs keys k (omega (arith, same))

  raised_still : (fs : List ℕ) (keys : List (Key M C R)) (k : ℕ) → floor_at fs k ≤ floor_at (each_by raised fs keys) k
  raised_still [] keys k = omega arith
  raised_still (f ∷ fs) [] k = omega arith
  raised_still (f ∷ fs) (x ∷ keys) zero = omega arith
  raised_still (f ∷ fs) (x ∷ keys) (suc k) = raised_still fs keys k

module _ (g : Sites) (f : Floors) (h : KeySet) where
  pub floors_raised : AreFloorsOf g f → AreFloorsOf g (raised_by h f)
  floors_raised x = record { queues = each_length raised f.queues h.queues ∙ x.queues; members = each_length raised f.members h.members ∙ x.members }

  -- at least what these keys had seen
  pub below_raised : IsKeySetOf g h → AreFloorsOf g f → IsBelow (view_by h) (raised_by h f)
  below_raised of x = record {
    owner = omega arith;
    queue = λ k. raised_here f.queues h.queues k (x.queues ∙ sym of.queues.as_many);
    member = member;
  }
    where
      member : (m : ℕ) → length (member_shown (sight_of h) m) ≤ member_floor (raised_by h f) m
      member zero = omega arith
      member (suc k) = raised_here f.members h.members k (x.members ∙ sym of.members.as_many)

-- and at least what they were
pub below_still : (view : Journal) (f : Floors) (h : KeySet) → IsBelow view f → IsBelow view (raised_by h f)
below_still view f h x = record {
  owner = (let o = x.owner in omega (arith, o));
  queue = λ k. let a = x.queue k in let b = raised_still f.queues h.queues k in omega (arith, a, b);
  member = member;
}
  where
    member : (m : ℕ) → length (view.member m) ≤ member_floor (raised_by h f) m
    member zero = x.member zero
    member (suc k) = let a = x.member (suc k) in let b = raised_still f.members h.members k in omega (arith, a, b)

-- ---- keys with floors

lower : {C R : Type 0} (who low least : ℕ) (old new : List (Entry C R)) → low ≤ least → IsAdded who least old new → IsAdded who low old new
lower {C} {R} who low least old new less x = record {
  grows = x.grows;
  news = x.news;
  own = x.own;
  high = All-weaker (λ (e : ℕ × Entry C R). least ≤ e.0) (λ (e : ℕ × Entry C R). low ≤ e.0) (λ e high. omega (arith, less, high)) x.news x.high;
}

least_here : {M C R : Type 0} (keys : List (Key M C R)) (fs : List ℕ) (k : ℕ) → length fs ≡ length keys → floor_at fs k ≤ least_of (slice_get (map (shows []) (map shown_by (each_by with_least keys fs))) k)
least_here [] [] k same = omega arith
least_here [] (f ∷ fs) k same = absurd (omega (arith, same))
least_here (x ∷ keys) [] k same = absurd (omega (arith, same))
least_here (x ∷ keys) (f ∷ fs) zero same = omega arith
least_here (x ∷ keys) (f ∷ fs) (suc k) same = least_here keys fs k (omega (arith, same))

module _ {M C R : Type 0} where
  pub frame_length : (keys : List (Key M C R)) → length (map (shows []) (map shown_by keys)) ≡ length keys
  frame_length keys = length-map (map shown_by keys) (shows {M = M} {C = C} {R = R} []) ∙ length-map keys (shown_by {M = M} {C = C} {R = R})

  same_length : (keys after : List (Key M C R)) (fs : List ℕ) → map (shows []) (map shown_by after) ≡ map (shows []) (map shown_by (each_by with_least keys fs)) → length after ≡ length keys
  same_length keys after fs same = sym (frame_length after) ∙ (ap length same ∙ (frame_length (each_by with_least keys fs) ∙ each_length with_least keys fs))

-- what the actor asked by keys with floors stands at no place below them
pub grown : (g : Sites) (f : Floors) (h l : KeySet) → IsKeySetOf g l → AreFloorsOf g f → AreOnward (sight_of (with_floors f h)) (sight_of l) → IsGrown f h.who (view_by h) (view_by l)
grown g f h l of x on = record {
  owner = on.owner;
  queue = λ k. subst (λ (old : List RingEntry). IsAdded h.who (floor_at f.queues k) old ((view_by l).queue k)) (same_shown h.queues f.queues k)
      (lower h.who (floor_at f.queues k) (queue_least (frame_of (sight_of (with_floors f h))) k) ((view_by (with_floors f h)).queue k) ((view_by l).queue k) (least_here h.queues f.queues k queues) (on.queue k));
  member = member;
}
  where
    queues : length f.queues ≡ length h.queues
    queues = x.queues ∙ (sym of.queues.as_many ∙ same_length h.queues l.queues f.queues (ap (λ (c : Sight). c.queues) on.frame))

    members : length f.members ≡ length h.members
    members = x.members ∙ (sym of.members.as_many ∙ same_length h.members l.members f.members (ap (λ (c : Sight). c.members) on.frame))

    member : (m : ℕ) → IsAdded h.who (member_floor f m) ((view_by h).member m) ((view_by l).member m)
    member zero = on.member zero
    member (suc k) = subst (λ (old : List MemberEntry). IsAdded h.who (floor_at f.members k) old ((view_by l).member (suc k))) (same_shown h.members f.members k)
        (lower h.who (floor_at f.members k) (member_least (frame_of (sight_of (with_floors f h))) (suc k)) ((view_by (with_floors f h)).member (suc k)) ((view_by l).member (suc k)) (least_here h.members f.members k members) (on.member (suc k)))

-- the same keys
pub same_who : (f : Floors) (h l : KeySet) → AreOnward (sight_of (with_floors f h)) (sight_of l) → l.who ≡ h.who
same_who f h l on = ap (λ (c : Sight). c.who) on.frame
