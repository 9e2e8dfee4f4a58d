-- A run so far is sound, where its cells aren't too long.
use Rattle.std.proofs.Common.{◌≡◌, ℕ, zero, suc, ◌+◌, ◌<◌, ◌≤◌, inl, inr, Bool, true, false, List, length, sym, ap, subst, arith, length-append}
use Rattle.std.proofs.lemmas.Bool.{cases_lt}
use Rattle.history.specs.Limits.{history_limit}
use Rattle.board_script.specs.Script.{Whole}
use Rattle.board_script.specs.Bounds.{IsScript}
use Rattle.journal.specs.Lines.{members_of}
use Rattle.journal.specs.Journals.{Journal}
use Rattle.journal.specs.Worlds.{first, turn}
use Rattle.journal.specs.Settling.{enough, brought_up}
use Rattle.world_laws.proofs.Actors.{IsShort}
use Rattle.world_laws.proofs.Frames.{Extends}
use Rattle.world_laws.proofs.Turns.{IsSound, turn_sound}
use Rattle.world_laws.proofs.Pasts.{ExtendsTo, turn_turned}
use Rattle.world_laws.proofs.Phases.{first_sound, sound_to}
use Rattle.world_laws.proofs.SoFar.{ready_sound}
use Rattle.group_cells.specs.Cells.{IsSoundSight}
use Rattle.group_cells.specs.Plain.{Plain, plain_sight, seen_of}
use Rattle.group_cells.proofs.PlainSteps.{get_seen}
use Rattle.board_run.specs.Standing.{HoldsJournal}
use Rattle.board_run.specs.Reached.{HasTurns, IsReached, begins, is_up, goes_on}
use Rattle.board_run.proofs.Asked.{there_is}

-- the histories of cells aren't too long
module _ (s : Whole) (j : Journal) (p : Plain) (h : HoldsJournal s j p) (sound : IsSoundSight (plain_sight p)) where
  queue_short : (i : ℕ) → length (j.queue i) ≤ history_limit
  queue_short i = elim (cases_lt i s.board.queues) [
    | inl near ↦ let count = h.queue_count in let c = there_is p.queues i (omega (arith, count, near)) in
        subst (λ l. length l ≤ history_limit) (h.queue i c.0 c.1).1 (sound.queues i (seen_of c.0) (get_seen p.queues i c.0 c.1)).most
    | inr far ↦ subst (λ l. length l ≤ history_limit) (sym (h.no_queue i far)) (omega arith)
  ]

  near_short : (i : ℕ) → i < members_of s → length (j.member (i + 1)) ≤ history_limit
  near_short i near = let count = h.member_count in let c = there_is p.members i (omega (arith, count, near)) in
      subst (λ l. length l ≤ history_limit) (h.member i c.0 c.1).1 (sound.members i (seen_of c.0) (get_seen p.members i c.0 c.1)).most

  member_short : (m : ℕ) → length (j.member m) ≤ history_limit
  member_short zero = subst (λ l. length l ≤ history_limit) (sym h.none) (omega arith)
  member_short (suc i) = elim (cases_lt i (members_of s)) [
    | inl near ↦ subst (λ (n : ℕ). length (j.member n) ≤ history_limit) (let e : i + 1 ≡ suc i = omega arith in e) (near_short i near)
    | inr far ↦ subst (λ l. length l ≤ history_limit) (sym (h.no_member (suc i) (omega (arith, far)))) (omega arith)
  ]

  pub all_short : IsShort history_limit j
  all_short = record { owner = subst (λ l. length l ≤ history_limit) h.owner sound.owner.most; queue = queue_short; member = member_short }

-- ---- a run so far

extends_short : {E : Type 0} (n : ℕ) (a b : List E) → Extends a b → length b ≤ n → length a ≤ n
extends_short n a b x few = let more = ap length x.is in let split = length-append x.added a in omega (arith, few, more, split)

before_short : (n : ℕ) (j k : Journal) → ExtendsTo j k → IsShort n k → IsShort n j
before_short n j k x short = record {
  owner = extends_short n j.owner k.owner x.owner short.owner;
  queue = λ i. extends_short n (j.queue i) (k.queue i) (x.queue i) (short.queue i);
  member = λ m. extends_short n (j.member m) (k.member m) (x.member m) (short.member m);
}

shorter : (s : Whole) (Ready : ℕ → Type 0) (n : ℕ) (j : Journal) → IsShort history_limit j → IsSound s Ready n j → IsSound s Ready history_limit j
shorter s Ready n j short x = record { legal = x.legal; cells = x.cells; short = short; actor = x.actor; knowing = x.knowing }

pub sound_by : (s : Whole) → IsScript s → (up : Bool) (j : Journal) → IsReached s up j → IsShort history_limit j → IsSound s (HasTurns up) history_limit j
sound_by s script _ _ begins short = sound_to s (HasTurns false) 0 history_limit first (omega arith) (first_sound s)
sound_by s script _ _ is_up short = shorter s (HasTurns true) (enough s 0) (brought_up s first) short (ready_sound s script)
sound_by s script _ _ (goes_on up j who turns reached) short =
    let before = sound_by s script up j reached (before_short history_limit j (turn s j who) (turn_turned s who j).cells short) in
    shorter s (HasTurns up) (history_limit + 1) (turn s j who) short (turn_sound s script (HasTurns up) history_limit (omega arith) j who turns before)
