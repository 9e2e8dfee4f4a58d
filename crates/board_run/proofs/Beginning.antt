-- New cells hold the journal in which nothing happened yet.
use Rattle.std.proofs.Common.{◌≡◌, ℕ, zero, suc, ◌+◌, ◌-◌, List, [], ◌∷◌, length, Some, refl, sym, ap, ◌∙◌, arith}
use Rattle.std.specs.Prelude.{replicate}
use Rattle.std.specs.List.{slice_get}
use Rattle.history.specs.Legal.{Cell}
use Rattle.group_calls.specs.declared.queue.RingCall.{RingCall}
use Rattle.group_calls.specs.declared.queue.RingReply.{RingReply}
use Rattle.group_calls.specs.declared.member.MemberMade.{MemberMade}
use Rattle.group_calls.specs.declared.member.MemberCall.{MemberCall}
use Rattle.group_calls.specs.declared.member.MemberReply.{MemberReply}
use Rattle.board_script.specs.declared.script.Setup.{Setup}
use Rattle.board_script.specs.Script.{Whole}
use Rattle.journal.specs.Lines.{made_by}
use Rattle.journal.specs.Worlds.{first}
use Rattle.group_cells.specs.Plain.{new_cell, members_from, new_cells}
use Rattle.board_run.specs.Standing.{HoldsJournal}

copies : {A : Type 0} (n : ℕ) (x : A) → length (replicate n x) ≡ n
copies zero x = refl
copies (suc n) x = ap suc (copies n x)

one_copy : {A : Type 0} (n : ℕ) (x y : A) (k : ℕ) → slice_get (replicate n x) k ≡ Some y → x ≡ y
one_copy zero x y k at = absurd (cc)
one_copy (suc n) x y zero at = cc
one_copy (suc n) x y (suc k) at = one_copy n x y k at

each_guest : (n : ℕ) (guests : List Setup) → length (members_from n guests) ≡ length guests
each_guest n [] = refl
each_guest n (g ∷ guests) = ap suc (each_guest (n + 1) guests)

one_guest : (n : ℕ) (guests : List Setup) (k : ℕ) (cell : Cell MemberMade MemberCall MemberReply) → slice_get (members_from n guests) k ≡ Some cell → new_cell (made_by (n + k) (slice_get guests k)) ≡ cell
one_guest n [] k cell at = absurd (cc)
one_guest n (g ∷ guests) zero cell at =
    let e : n + 0 ≡ n = omega arith in
    let is : new_cell (record { id = n; pages = g.pages; kind = g.kind }) ≡ cell = cc in
    ap (λ (m : ℕ). new_cell (made_by m (Some g))) e ∙ is
one_guest n (g ∷ guests) (suc k) cell at =
    let e : n + suc k ≡ n + 1 + k = omega arith in
    ap (λ (m : ℕ). new_cell (made_by m (slice_get guests k))) e ∙ one_guest (n + 1) guests k cell at

pub new_hold : (s : Whole) → HoldsJournal s first (new_cells s)
new_hold s = record {
  owner_made = refl;
  owner = refl;
  queue_count = copies s.board.queues (new_cell {M = ℕ} {C = RingCall} {R = RingReply} s.board.queue_size);
  queue = λ k cell at.
      let is = one_copy s.board.queues (new_cell {M = ℕ} {C = RingCall} {R = RingReply} s.board.queue_size) cell k at in
      (ap (λ (c : Cell ℕ RingCall RingReply). c.made) (sym is), ap (λ (c : Cell ℕ RingCall RingReply). c.history) (sym is));
  member_count = each_guest 1 s.guests;
  member = λ k cell at.
      let is = one_guest 1 s.guests k cell at in
      let n : 1 + k ≡ k + 1 = omega arith in
      let i : k ≡ k + 1 - 1 = omega arith in (
        ap (λ (c : Cell MemberMade MemberCall MemberReply). c.made) (sym is) ∙ (ap (λ (m : ℕ). made_by m (slice_get s.guests k)) n ∙ ap (λ (m : ℕ). made_by (k + 1) (slice_get s.guests m)) i),
        ap (λ (c : Cell MemberMade MemberCall MemberReply). c.history) (sym is),
      );
  no_queue = λ k far. refl;
  no_member = λ m far. refl;
  none = refl;
}
