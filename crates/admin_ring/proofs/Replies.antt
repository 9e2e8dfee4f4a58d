-- The answers over a history, from what is kept.
use Rattle.std.proofs.Common.{◌≡◌, ◌≢◌, ℕ, ◌<◌, ◌≤◌, inl, inr, Bool, true, false, List, [], length, Some, None, Option, arith, refl, sym, ap, ◌∙◌, subst}
use Rattle.std.specs.Prelude.{unwrap_or, ◌==◌, nat_lt, nat_le, not, is_some, ◌&&◌}
use Rattle.std.proofs.lemmas.Bool.Decides.{nat_tests}
use Rattle.std.proofs.lemmas.Bool.{cases_lt}
use Rattle.board_text.specs.Floors.{number_for}
use Rattle.group_calls.specs.declared.queue.RingReply.TheVariants.{Lost, InService}
use Rattle.group_calls.specs.Queue.{RingEntry, Posted, posted, is_fetched, completion, is_taken, is_closed, is_old, latest_floors, command, earliest, in_service, take_answer, take_posted, pop_answer, IsNumbered}
use Rattle.group_calls.proofs.Numbers.{earliest_passes, earliest_alike, earliest_none, earliest_from, earliest_there, earliest_past}
use Rattle.admin_ring.specs.Slots.{Slot}
use Rattle.admin_ring.specs.Kept.{slot_with, slot_if, slot_of, slot_of_command, Holds, AreCounts, taken_answer, fetched_answer}

if_seq : (h : List RingEntry) (p : Posted) (x : Slot) → slot_if h p ≡ Some x → (b : Bool) → is_taken h p.seq ≡ b → x.seq ≡ p.seq
if_seq h p x found true e = let n : None ≡ Some x = simp e at found in cc
if_seq h p x found false e = let n : Some (slot_with h p) ≡ Some x = simp e at found in let same : slot_with h p ≡ x = cc in ap (λ y. y.seq) (sym same)

of_command_seq : (h : List RingEntry) (s : ℕ) (x : Slot) → slot_of h s ≡ Some x → (o : Option Posted) → command h s ≡ o → x.seq ≡ s
of_command_seq h s x found None e = let n : None ≡ Some x = simp e at found in cc
of_command_seq h s x found (Some p) e =
    let n : slot_if h p ≡ Some x = simp e at found in
    let seq : (p.seq == s) ≡ true = earliest_passes (λ p. p.seq == s) (posted h) p e in
    let same : p.seq ≡ s = grind (arith, nat_tests, seq) in
    if_seq h p x n (is_taken h p.seq) refl ∙ same

-- what is outstanding under a number has this number
pub slot_seq : (h : List RingEntry) (s : ℕ) (x : Slot) → slot_of h s ≡ Some x → x.seq ≡ s
slot_seq h s x found = of_command_seq h s x found (command h s) refl

none_by : (at of : ℕ → Option Slot) → Holds at of → ((s : ℕ) (x : Slot) → of s ≡ Some x → x.seq ≡ s) → (s : ℕ) → ((key : ℕ) (x : Slot) → at key ≡ Some x → x.seq ≢ s) → (o : Option Slot) → of s ≡ o → of s ≡ None
none_by at of holds named s never None e = e
none_by at of holds named s never (Some x) e = let there = holds.complete s x e in absurd (never there.0 x there.1 (named s x e))

-- nothing found is nothing outstanding
pub found_none : (at : ℕ → Option Slot) (h : List RingEntry) → Holds at (slot_of h) → (s : ℕ) → ((key : ℕ) (x : Slot) → at key ≡ Some x → x.seq ≢ s) → slot_of h s ≡ None
found_none at h holds s never = none_by at (slot_of h) holds (slot_seq h) s never (slot_of h s) refl

-- what is found is what is outstanding
pub found_some : (at of : ℕ → Option Slot) → Holds at of → (s key : ℕ) (x : Slot) → at key ≡ Some x → x.seq ≡ s → of s ≡ Some x
found_some at of holds s key x there seq = subst (λ (t : ℕ). of t ≡ Some x) seq (holds.sound key x there)

-- a queue without floors is open, and one with floors is closed under them
pub open_none : (n f d : ℕ) (floors : Option (List ℕ)) (h : List RingEntry) → AreCounts n f d floors h → floors ≡ None → is_closed h ≡ false
open_none n f d floors h c none = c.shut ∙ ap is_some none

pub shut_some : (n f d : ℕ) (floors : Option (List ℕ)) (h : List RingEntry) → AreCounts n f d floors h → (told : List ℕ) → floors ≡ Some told → is_closed h ≡ true
shut_some n f d floors h c told some = c.shut ∙ ap is_some some

-- ---- Take

-- each posted command is old where the queue is closed
abbrev pub AgesAlike : List RingEntry → Type 0
AgesAlike h = (s : ℕ) → s < length (posted h) → is_old h s ≡ is_closed h

posted_below : (h : List RingEntry) (s : ℕ) (p : Posted) → IsNumbered (posted h) → command h s ≡ Some p → p.seq < length (posted h)
posted_below h s p numbered found =
    let seq : (p.seq == s) ≡ true = earliest_passes (λ p. p.seq == s) (posted h) p found in
    elim (cases_lt s (length (posted h))) [
      | inl near ↦ grind (arith, nat_tests, seq, near)
      | inr far ↦ let none = earliest_past (posted h) s numbered far in let no : None ≡ Some p = sym none ∙ found in cc
    ]

take_by : (h : List RingEntry) (p : Posted) (floors : Option (List ℕ)) → is_old h p.seq ≡ is_some floors → latest_floors h ≡ unwrap_or floors []
    → (b : Bool) → is_taken h p.seq ≡ b → (o : Option (List ℕ × ℕ)) → completion h p.seq ≡ o → take_posted h (Some p) ≡ taken_answer floors (slot_if h p)
take_by h p floors old told true e o f = simp e refl
take_by h p floors old told false e (Some c) f = simp (e, f) refl
take_by h p None old told false e None f = simp (e, f, old) refl
take_by h p (Some floors) old told false e None f = simp (e, f, old) (ap (λ (floors : List ℕ). Lost (number_for p.tag.guest floors)) told)

take_of : (n f d : ℕ) (floors : Option (List ℕ)) (h : List RingEntry) (s : ℕ) → AreCounts n f d floors h → AgesAlike h → (o : Option Posted) → command h s ≡ o → take_posted h o ≡ taken_answer floors (slot_of_command h o)
take_of n f d floors h s c ages None found = refl
take_of n f d floors h s c ages (Some p) found =
    take_by h p floors (ages p.seq (posted_below h s p c.numbered found) ∙ c.shut) c.told (is_taken h p.seq) refl (completion h p.seq) refl

-- a Take answers over what is outstanding
pub take_from : (n f d : ℕ) (floors : Option (List ℕ)) (h : List RingEntry) (s : ℕ) → AreCounts n f d floors h → AgesAlike h → take_answer h s ≡ taken_answer floors (slot_of h s)
take_from n f d floors h s c ages = take_of n f d floors h s c ages (command h s) refl

-- ---- Pop

serving : (n f d : ℕ) (floors : Option (List ℕ)) (h : List RingEntry) → AreCounts n f d floors h → (s : ℕ) → in_service h s ≡ (nat_lt s f && not (nat_lt s d))
serving n f d floors h c s = rw (c.fetches s, c.completions s) refl

-- while one is in service a Pop tells its number
pub pop_serving : (n f d : ℕ) (floors : Option (List ℕ)) (h : List RingEntry) → AreCounts n f d floors h → floors ≡ None → d < f → pop_answer h ≡ InService d
pop_serving n f d floors h c unclosed busy =
    let e : is_closed h ≡ false = open_none n f d floors h c unclosed in
    let same : (p : Posted) → in_service h p.seq ≡ (p.seq == d) = λ p. serving n f d floors h c p.seq ∙ (let a = c.one_in_service in grind (arith, nat_tests, a, busy)) in
    let there : is_some (command h d) ≡ true = earliest_there (posted h) d c.numbered (let a = c.posts in let b = c.fetched_first in omega arith) in
    go e (earliest_alike (λ p. in_service h p.seq) (λ p. p.seq == d) (posted h) same) there (command h d) refl
  where
    go : is_closed h ≡ false → earliest (λ p. in_service h p.seq) (posted h) ≡ command h d → is_some (command h d) ≡ true → (o : Option Posted) → command h d ≡ o → pop_answer h ≡ InService d
    go e same there None k = let no : false ≡ true = simp k at there in cc
    go e same there (Some p) k =
        let seq : (p.seq == d) ≡ true = earliest_passes (λ p. p.seq == d) (posted h) p k in
        let is_d : p.seq ≡ d = grind (arith, nat_tests, seq) in
        rw (e, same, k) (ap InService is_d)

-- while none is in service a Pop gives the next command
pub pop_next : (n f d : ℕ) (floors : Option (List ℕ)) (h : List RingEntry) → AreCounts n f d floors h → floors ≡ None → f ≤ d → pop_answer h ≡ fetched_answer (slot_of h f)
pop_next n f d floors h c unclosed idle =
    let e : is_closed h ≡ false = open_none n f d floors h c unclosed in
    let none = earliest_none (λ p. in_service h p.seq) (posted h) (λ p. serving n f d floors h c p.seq ∙ grind (arith, nat_tests, idle)) in
    let from : (p : Posted) → not (is_fetched h p.seq) ≡ nat_le f p.seq = λ p. rw (c.fetches p.seq) (grind (arith, nat_tests)) in
    let next = earliest_alike (λ p. not (is_fetched h p.seq)) (λ p. nat_le f p.seq) (posted h) from ∙ earliest_from (posted h) f c.numbered in
    go e none next (λ p k. let seq : (p.seq == f) ≡ true = earliest_passes (λ p. p.seq == f) (posted h) p k in c.none_lost unclosed p.seq (let a = c.completed_first in grind (arith, nat_tests, seq, a))) (command h f) refl
  where
    go : is_closed h ≡ false → earliest (λ p. in_service h p.seq) (posted h) ≡ None → earliest (λ p. not (is_fetched h p.seq)) (posted h) ≡ command h f → ((p : Posted) → command h f ≡ Some p → is_taken h p.seq ≡ false)
        → (o : Option Posted) → command h f ≡ o → pop_answer h ≡ fetched_answer (slot_of h f)
    go e none next free None k = rw (e, none, next, k) refl
    go e none next free (Some p) k = let t = free p k in rw (e, none, next, k, t) refl
