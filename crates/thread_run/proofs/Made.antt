-- The cells of a group are those of its script.
use Rattle.std.proofs.Common.{◌≡◌, ℕ, zero, suc, ◌+◌, ◌-◌, List, [], ◌∷◌, length, map, Some, slice_get, sym, refl, ap, ◌∙◌, subst, arith}
use Rattle.std.specs.Prelude.{replicate}
use Rattle.std.proofs.lemmas.List.{length-map}
use Rattle.std.proofs.lemmas.Option.{slice_get_within}
use Rattle.group_calls.specs.declared.member.MemberMade.{MemberMade}
use Rattle.board_script.specs.declared.script.Setup.{Setup}
use Rattle.board_script.specs.Script.{Whole}
use Rattle.group_cells.specs.Cells.{Seen, shows}
use Rattle.group_cells.specs.Keys.{Site, Key, shown_by}
use Rattle.group_cells.specs.Shared.{Sites, KeySet, AreKeysOf, IsKeySetOf, sight_of}
use Rattle.group_cells.specs.Opening.{IsMadeBy, made_from}
use Rattle.journal.specs.Lines.{made_by, made_of}
use Rattle.actor_drive.specs.Shown.{frame_of, AreCellsOf}
use Rattle.thread_run.proofs.Lists.{map_down, there}
use Rattle.thread_run.proofs.Views.{frame_length}

module _ {M : Type 0} where
  all_same : (xs : List (Site M)) (n : ℕ) (v : M) (k : ℕ) (x : Site M) → map (λ s. s.made) xs ≡ replicate n v → slice_get xs k ≡ Some x → x.made ≡ v
  all_same [] n v k x is at = absurd (cc)
  all_same (y ∷ ys) zero v k x is at = absurd (cc)
  all_same (y ∷ ys) (suc n) v zero x is at = let head : y.made ≡ v = cc in let same : y ≡ x = cc in subst (λ (z : Site M). z.made ≡ v) same head
  all_same (y ∷ ys) (suc n) v (suc k) x is at = let rest : map (λ (s : Site M). s.made) ys ≡ replicate n v = cc in all_same ys n v k x rest at

  many : (n : ℕ) (v : M) → length (replicate n v) ≡ n
  many zero v = refl
  many (suc n) v = ap suc (many n v)

made_each : (xs : List (Site MemberMade)) (n : ℕ) (guests : List Setup) (k : ℕ) (x : Site MemberMade) → map (λ s. s.made) xs ≡ made_from n guests → slice_get xs k ≡ Some x → x.made ≡ made_by (n + k) (slice_get guests k)
made_each [] n guests k x is at = absurd (cc)
made_each (y ∷ ys) n [] k x is at = absurd (cc)
made_each (y ∷ ys) n (g ∷ guests) zero x is at =
    let head : y.made ≡ record { id = n; pages = g.pages; kind = g.kind } = cc in
    let same : y ≡ x = cc in
    let number : n ≡ n + 0 = omega arith in
    ap (λ (z : Site MemberMade). z.made) (sym same) ∙ (head ∙ ap (λ (m : ℕ). made_by m (Some g)) number)
made_each (y ∷ ys) n (g ∷ guests) (suc k) x is at =
    let rest : map (λ (s : Site MemberMade). s.made) ys ≡ made_from (n + 1) guests = cc in
    let number : n + 1 + k ≡ n + suc k = omega arith in
    made_each ys (n + 1) guests k x rest at ∙ ap (λ (m : ℕ). made_by m (slice_get guests k)) number

made_many : (n : ℕ) (guests : List Setup) → length (made_from n guests) ≡ length guests
made_many n [] = refl
made_many n (g ∷ guests) = ap suc (made_many (n + 1) guests)

module _ {M C R : Type 0} where
  made_there : (s : Site M) (key : Key M C R) (c d : Seen M C R) → key.made ≡ s.made → shown_by key ≡ d → shows [] d ≡ c → c.made ≡ s.made
  made_there s key c d made shown framed = ap (λ (z : Seen M C R). z.made) (sym framed) ∙ (ap (λ (z : Seen M C R). z.made) (sym shown) ∙ made)

  -- each key's cell, as its frame has it
  key_made : (who : ℕ) (sites : List (Site M)) (keys : List (Key M C R)) (k : ℕ) (c : Seen M C R) → AreKeysOf who sites keys → slice_get (map (shows []) (map shown_by keys)) k ≡ Some c → (s : Site M) × (slice_get sites k ≡ Some s) × (c.made ≡ s.made)
  key_made who sites keys k c all at =
      let d = map_down (shows []) (map shown_by keys) k c at in
      let e = map_down shown_by keys k d.0 d.1 in
      let low = slice_get_within keys k e.0 e.1 in
      let len = all.as_many in
      let s = there sites k (omega (arith, low, len)) in
      (s.0, s.1, made_there s.0 e.0 c d.0 (all.each k s.0 e.0 s.1 e.1).made e.2 d.2)

module _ (s : Whole) (g : Sites) (made : IsMadeBy s g) where
  pub as_many_queues : length g.queues ≡ s.board.queues
  as_many_queues = sym (length-map g.queues (λ (q : Site ℕ). q.made)) ∙ (ap length made.queues ∙ many s.board.queues s.board.queue_size)

  pub as_many_members : length g.members ≡ length s.guests
  as_many_members = sym (length-map g.members (λ (m : Site MemberMade). m.made)) ∙ (ap length made.members ∙ made_many 1 s.guests)

  pub queue_made : (k : ℕ) (x : Site ℕ) → slice_get g.queues k ≡ Some x → x.made ≡ s.board.queue_size
  queue_made k x at = all_same g.queues s.board.queues s.board.queue_size k x made.queues at

  pub member_made : (k : ℕ) (x : Site MemberMade) → slice_get g.members k ≡ Some x → x.made ≡ made_of s (k + 1)
  member_made k x at =
      let number : 1 + k ≡ k + 1 = omega arith in
      let back : k ≡ k + 1 - 1 = omega arith in
      made_each g.members 1 s.guests k x made.members at ∙ (λ i. made_by (number i) (slice_get s.guests (back i)))

  -- by these keys the cells are the script's
  pub cells_of : (k : KeySet) → IsKeySetOf g k → AreCellsOf s (frame_of (sight_of k))
  cells_of k of = record {
    owner = of.owner.made ∙ made.owner;
    as_many_queues = frame_length k.queues ∙ (of.queues.as_many ∙ as_many_queues);
    queues = λ j c at. let x = key_made k.who g.queues k.queues j c of.queues at in x.2 ∙ queue_made j x.0 x.1;
    as_many_members = frame_length k.members ∙ (of.members.as_many ∙ as_many_members);
    members = λ j c at. let x = key_made k.who g.members k.members j c of.members at in x.2 ∙ member_made j x.0 x.1;
  }
