-- The journal of cells that were closed.
use Rattle.std.proofs.Common.{◌≡◌, ◌⊎◌, inl, inr, ℕ, zero, suc, ◌+◌, ◌<◌, ◌≤◌, List, [], length, map, Option, Some, slice_get, sym, refl, ap, ◌∙◌, subst, arith}
use Rattle.std.proofs.lemmas.List.{append-nil, length-map}
use Rattle.std.proofs.lemmas.Bool.{cases_lt}
use Rattle.std.proofs.lemmas.Option.{slice_get_within, slice_get_past}
use Rattle.history.specs.declared.entry.Entry.{Entry}
use Rattle.history.specs.Limits.{actor_limit}
use Rattle.history.specs.Legal.{Cell}
use Rattle.history.specs.Places.{calls_of}
use Rattle.group_calls.specs.declared.queue.RingCall.{RingCall}
use Rattle.group_calls.specs.declared.queue.RingReply.{RingReply}
use Rattle.group_calls.specs.declared.member.MemberMade.{MemberMade}
use Rattle.group_calls.specs.declared.member.MemberCall.{MemberCall}
use Rattle.group_calls.specs.declared.member.MemberReply.{MemberReply}
use Rattle.board_script.specs.Script.{Whole}
use Rattle.group_cells.specs.Cells.{Seen, IsSoundSight, shows}
use Rattle.group_cells.specs.Keys.{Site, Key, shown_by, IsEndOfKey}
use Rattle.group_cells.specs.Shared.{Sites, KeySet, AreKeysOf, IsKeySetOf, sight_of}
use Rattle.group_cells.specs.Opening.{Each2, IsMadeBy}
use Rattle.group_cells.specs.Closing.{IsEndOf, IsClosed}
use Rattle.group_cells.specs.Plain.{Plain, seen_of, plain_sight}
use Rattle.journal.specs.Lines.{members_of, made_of}
use Rattle.journal.specs.Performing.{Performed}
use Rattle.journal.specs.Journals.{Journal, AreLegal}
use Rattle.actor_drive.specs.Shown.{shown_of, queue_shown, member_shown, frame_of, AreCellsOf}
use Rattle.actor_drive.proofs.Asked.{all_legal}
use Rattle.board_run.specs.Standing.{HoldsJournal}
use Rattle.thread_laws.specs.Gathered.{IsSeen, IsView}
use Rattle.thread_run.proofs.Lists.{map_down, map_up, there}
use Rattle.thread_run.proofs.Made.{as_many_queues, as_many_members, queue_made, member_made}
use Rattle.thread_run.proofs.Views.{view_by, nothing}

-- the histories of the cells, and these lines
abbrev pub journal_of : Plain → (ℕ → List Performed) → Journal
journal_of p past = record { owner = p.owner.history; queue = queue_shown (plain_sight p); member = member_shown (plain_sight p); past = past }

module _ {C R : Type 0} where
  no_calls : (who : ℕ) (history : List (Entry C R)) → calls_of who history ≡ [] → IsSeen who [] history
  no_calls who history none = record { begins = (history, sym (append-nil history)); own = none }

module _ {M C R : Type 0} where
  held : (cells : List (Cell M C R)) (k : ℕ) (y : Cell M C R) → slice_get cells k ≡ Some y → shown_of (slice_get (map seen_of cells) k) ≡ y.history
  held cells k y at = ap shown_of (map_up seen_of cells k y at)

  none_held : (cells : List (Cell M C R)) (k : ℕ) → length cells ≤ k → shown_of (slice_get (map seen_of cells) k) ≡ []
  none_held cells k high = ap shown_of (slice_get_past (map seen_of cells) k (let n = length-map cells (seen_of {M = M} {C = C} {R = R}) in omega (arith, high, n)))

  none_seen : (keys : List (Key M C R)) (k : ℕ) → length keys ≤ k → shown_of (slice_get (map shown_by keys) k) ≡ []
  none_seen keys k high = ap shown_of (slice_get_past (map shown_by keys) k (let n = length-map keys (shown_by {M = M} {C = C} {R = R}) in omega (arith, high, n)))

  framed : (cells : List (Cell M C R)) (k : ℕ) (c : Seen M C R) → slice_get (map (shows []) (map seen_of cells)) k ≡ Some c → (y : Cell M C R) × (slice_get cells k ≡ Some y) × (y.made ≡ c.made)
  framed cells k c at =
      let d = map_down (shows []) (map seen_of cells) k c at in
      let e = map_down seen_of cells k d.0 d.1 in
      (e.0, e.1, ap (λ (z : Seen M C R). z.made) e.2 ∙ ap (λ (z : Seen M C R). z.made) d.2)

  frame_length : (cells : List (Cell M C R)) → length (map (shows []) (map seen_of cells)) ≡ length cells
  frame_length cells = length-map (map seen_of cells) (shows {M = M} {C = C} {R = R} []) ∙ length-map cells (seen_of {M = M} {C = C} {R = R})

  -- ---- what a key saw of its cell

  key_seen : (who : ℕ) (key : Key M C R) (history : List (Entry C R)) → key.who ≡ who → IsEndOfKey key history → IsSeen who key.seen history
  key_seen who key history is x = record {
    begins = x.begins_with;
    own = ap (λ (n : ℕ). calls_of n history) (sym is) ∙ (x.calls ∙ (sym x.own ∙ ap (λ (n : ℕ). calls_of n key.seen) is));
  }

  module _ (homes : List (Option KeySet)) (pick : KeySet → List (Key M C R)) (sites : List (Site M)) (cells : List (Cell M C R)) (as_many : length cells ≡ length sites) (ends : Each2 (λ j s y. IsEndOf homes (λ h. slice_get (pick h) j) s y) sites cells) where
    keys_seen : (who : ℕ) (h : KeySet) → who < actor_limit → slice_get homes who ≡ Some (Some h) → AreKeysOf who sites (pick h) → (k : ℕ) → IsSeen who (shown_of (slice_get (map shown_by (pick h)) k)) (shown_of (slice_get (map seen_of cells) k))
    keys_seen who h low home of k = go (cases_lt k (length sites))
      where
        go : (k < length sites) ⊎ (length sites ≤ k) → IsSeen who (shown_of (slice_get (map shown_by (pick h)) k)) (shown_of (slice_get (map seen_of cells) k))
        go (inl below) =
            let s = there sites k below in
            let y = there cells k (omega (arith, below, as_many)) in
            let n = of.as_many in
            let key = there (pick h) k (omega (arith, below, n)) in
            let x = key_seen who key.0 y.0.history (of.one_caller k key.0 key.1) ((ends k s.0 y.0 s.1 y.1).keys who h key.0 home low key.1) in
            subst (λ (seen : List (Entry C R)). IsSeen who seen (shown_of (slice_get (map seen_of cells) k))) (sym (ap shown_of (map_up shown_by (pick h) k key.0 key.1)))
            (subst (λ (history : List (Entry C R)). IsSeen who key.0.seen history) (sym (held cells k y.0 y.1)) x)
        go (inr high) =
            let n = of.as_many in
            subst (λ (seen : List (Entry C R)). IsSeen who seen (shown_of (slice_get (map seen_of cells) k))) (sym (none_seen (pick h) k (omega (arith, high, n))))
            (subst (λ (history : List (Entry C R)). IsSeen who [] history) (sym (none_held cells k (omega (arith, high, as_many)))) (no_calls who [] refl))

    nobody_seen : (who : ℕ) → actor_limit ≤ who → (k : ℕ) → IsSeen who [] (shown_of (slice_get (map seen_of cells) k))
    nobody_seen who beyond k = go (cases_lt k (length sites))
      where
        go : (k < length sites) ⊎ (length sites ≤ k) → IsSeen who [] (shown_of (slice_get (map seen_of cells) k))
        go (inl below) =
            let s = there sites k below in
            let y = there cells k (omega (arith, below, as_many)) in
            subst (λ (history : List (Entry C R)). IsSeen who [] history) (sym (held cells k y.0 y.1)) (no_calls who y.0.history ((ends k s.0 y.0 s.1 y.1).no_more who beyond))
        go (inr high) = subst (λ (history : List (Entry C R)). IsSeen who [] history) (sym (none_held cells k (omega (arith, high, as_many)))) (no_calls who [] refl)

-- ---- of all cells

module _ (g : Sites) (homes : List (Option KeySet)) (p : Plain) (closed : IsClosed g homes p) (past : ℕ → List Performed) where
  -- an actor saw a part of each history, with all of its own entries
  pub is_view : (who : ℕ) (h : KeySet) → who < actor_limit → slice_get homes who ≡ Some (Some h) → h.who ≡ who → IsKeySetOf g h → IsView who (view_by h) (journal_of p past)
  is_view who h low home is of = record {
    owner = key_seen who h.owner p.owner.history (of.caller ∙ is) (closed.owner.keys who h h.owner home low refl);
    queue = keys_seen homes (λ k. k.queues) g.queues p.queues closed.as_many_queues closed.queues who h low home (subst (λ (n : ℕ). AreKeysOf n g.queues h.queues) is of.queues);
    member = member;
  }
    where
      member : (m : ℕ) → IsSeen who (member_shown (sight_of h) m) (member_shown (plain_sight p) m)
      member zero = no_calls who [] refl
      member (suc k) = keys_seen homes (λ k. k.members) g.members p.members closed.as_many_members closed.members who h low home (subst (λ (n : ℕ). AreKeysOf n g.members h.members) is of.members) k

  -- other numbers have no entries
  pub no_view : (who : ℕ) → actor_limit ≤ who → IsView who nothing (journal_of p past)
  no_view who beyond = record {
    owner = no_calls who p.owner.history (closed.owner.no_more who beyond);
    queue = nobody_seen homes (λ k. k.queues) g.queues p.queues closed.as_many_queues closed.queues who beyond;
    member = member;
  }
    where
      member : (m : ℕ) → IsSeen who [] (member_shown (plain_sight p) m)
      member zero = no_calls who [] refl
      member (suc k) = nobody_seen homes (λ k. k.members) g.members p.members closed.as_many_members closed.members who beyond k

  module _ (s : Whole) (made : IsMadeBy s g) where
    queues_here : length p.queues ≡ s.board.queues
    queues_here = closed.as_many_queues ∙ as_many_queues s g made

    members_here : length p.members ≡ members_of s
    members_here = closed.as_many_members ∙ as_many_members s g made

    queue_here : (k : ℕ) (y : Cell ℕ RingCall RingReply) → slice_get p.queues k ≡ Some y → y.made ≡ s.board.queue_size
    queue_here k y at =
        let low = slice_get_within p.queues k y at in
        let n = closed.as_many_queues in
        let x = there g.queues k (omega (arith, low, n)) in
        (closed.queues k x.0 y x.1 at).made ∙ queue_made s g made k x.0 x.1

    member_here : (k : ℕ) (y : Cell MemberMade MemberCall MemberReply) → slice_get p.members k ≡ Some y → y.made ≡ made_of s (k + 1)
    member_here k y at =
        let low = slice_get_within p.members k y at in
        let n = closed.as_many_members in
        let x = there g.members k (omega (arith, low, n)) in
        (closed.members k x.0 y x.1 at).made ∙ member_made s g made k x.0 x.1

    pub holds : HoldsJournal s (journal_of p past) p
    holds = record {
      owner_made = closed.owner.made ∙ made.owner;
      owner = refl;
      queue_count = queues_here;
      queue = λ k y at. (queue_here k y at, sym (held p.queues k y at));
      member_count = members_here;
      member = λ k y at. (member_here k y at, member_history k y at);
      no_queue = λ k high. none_held p.queues k (let n = queues_here in omega (arith, high, n));
      no_member = no_member;
      none = refl;
    }
      where
        member_history : (k : ℕ) (y : Cell MemberMade MemberCall MemberReply) → slice_get p.members k ≡ Some y → y.history ≡ member_shown (plain_sight p) (k + 1)
        member_history k y at = let e : suc k ≡ k + 1 = omega arith in sym (held p.members k y at) ∙ ap (member_shown (plain_sight p)) e

        no_member : (m : ℕ) → members_of s < m → member_shown (plain_sight p) m ≡ []
        no_member zero high = refl
        no_member (suc k) high = none_held p.members k (let n = members_here in omega (arith, high, n))

    pub legal_cells : IsSoundSight (plain_sight p) → AreLegal s (journal_of p past)
    legal_cells sound = let x = all_legal s (plain_sight p) are_cells sound in record { owner = x.owner; queue = x.queue; member = x.member }
      where
        are_cells : AreCellsOf s (frame_of (plain_sight p))
        are_cells = record {
          owner = closed.owner.made ∙ made.owner;
          as_many_queues = frame_length p.queues ∙ queues_here;
          queues = λ k c at. let x = framed p.queues k c at in sym x.2 ∙ queue_here k x.0 x.1;
          as_many_members = frame_length p.members ∙ members_here;
          members = λ k c at. let x = framed p.members k c at in sym x.2 ∙ member_here k x.0 x.1;
        }
