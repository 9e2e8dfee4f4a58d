-- The invariant of the queue after each entry.
use Rattle.std.proofs.Common.{◌≡◌, ℕ, ◌+◌, ◌/◌, ◌^◌, ◌<◌, ◌≤◌, inl, inr, Bool, true, false, List, ◌∷◌, length, Some, None, Option, arith, refl, sym, ap, ◌∙◌, subst}
use Rattle.std.specs.Prelude.{◌==◌, nat_lt, nat_le, is_some}
use Rattle.std.proofs.lemmas.Bool.Decides.{nat_tests}
use Rattle.std.proofs.lemmas.Bool.{cases_lt}
use Rattle.group_calls.specs.declared.queue.Tag.{Tag}
use Rattle.group_calls.specs.declared.queue.RingCall.TheVariants.{Post, Pop, Complete, Take, Reset}
use Rattle.group_calls.specs.declared.queue.RingReply.{RingReply}
use Rattle.group_calls.specs.declared.queue.RingReply.TheVariants.{Seq, Fetched, Completed, ResetDone}
use Rattle.history.specs.Kept.{Kept}
use Rattle.group_calls.specs.Queue.{RingEntry, Posted, posted, is_fetched, completion, is_taken, is_closed, command, outstanding, post_answer, pop_answer, take_answer, complete_answer, is_quiet_reply}
use Rattle.group_calls.proofs.Numbers.{earliest_passes, earliest_past, earliest_there}
use Rattle.group_calls.proofs.Outstanding.{outstanding_post}
use Rattle.admin_ring.specs.Slots.{Slot}
use Rattle.admin_ring.specs.Finding.{completed}
use Rattle.admin_ring.specs.Kept.{slot_with, slot_if, slot_of, slot_of_command, kept_bytes, Changes, AreCounts, Keeps, owed, fetched_answer, taken_answer}
use Rattle.group_calls.proofs.Old.{old_closed}
use Rattle.admin_ring.proofs.Replies.{slot_seq, found_some, open_none, shut_some, AgesAlike, pop_serving, pop_next, take_from}
use Rattle.admin_ring.proofs.Steps.{holds_after, counts_post, slots_post, slot_post, counts_pop, counts_complete, slots_complete, slot_complete, counts_take, slots_take, slot_take, count_take, counts_reset}

-- a number that wasn't posted is nowhere
pub past_none : (n f d : ℕ) (floors : Option (List ℕ)) (h : List RingEntry) (s : ℕ) → AreCounts n f d floors h → n ≤ s → slot_of h s ≡ None
past_none n f d floors h s c far =
    let none : command h s ≡ None = earliest_past (posted h) s c.numbered (let a = c.posts in omega arith) in
    rw none refl

pub inside_number : (n f d : ℕ) (floors : Option (List ℕ)) (h : List RingEntry) (s : ℕ) (x : Slot) → AreCounts n f d floors h → slot_of h s ≡ Some x → s < n
inside_number n f d floors h s x c found = elim (cases_lt s n) [
  | inl near ↦ near
  | inr far ↦ let none = past_none n f d floors h s c far in cc
]

-- Post

post_seq : (size n f d : ℕ) (floors : Option (List ℕ)) (h : List RingEntry) (tag : Tag) → AreCounts n f d floors h → floors ≡ None → length (outstanding h) < size / 2 → Seq n ≡ post_answer size h tag
post_seq size n f d floors h tag c unclosed room =
    let e : is_closed h ≡ false = open_none n f d floors h c unclosed in
    let free : nat_le (size / 2) (length (outstanding h)) ≡ false = grind (arith, nat_tests, room) in
    rw (e, free) (ap Seq c.posts)

kept_post : (size n f d : ℕ) (floors : Option (List ℕ)) (at now : ℕ → Option Slot) (held held_now : ℕ) (log : Kept RingEntry) (who : ℕ) (bytes : List ℕ) (writable : ℕ) (tag : Tag) (key room : ℕ)
    → Keeps size n f d floors at held log → floors ≡ None → who < 26 → writable ≤ 256 → held < size / 2
    → Changes at now key (Some record { seq = n; bytes = bytes; writable = writable; tag = tag; completion = None }) → at key ≡ None → held_now ≡ held + 1
    → length log.entries + (owed n f d (held) + 4) ≤ room → length log.entries + (owed n f d (held) + 4) ≤ 2 ^ 62
    → Keeps size (n + 1) f d floors now held_now (record { entries = record { who = who; call = Post bytes writable tag; reply = Seq n } ∷ log.entries; room = room })
kept_post size n f d floors at now held held_now log who bytes writable tag key room k unclosed few short free up vacant more fits most =
    let h : List RingEntry = log.entries in
    let none = past_none n f d floors h n k.counts (omega arith) in
    let a = k.counts.fetched_first in
    let b = k.counts.completed_first in
    record {
      counts = counts_post n f d floors h who bytes writable tag k.counts;
      holds = holds_after at now (slot_of h) (slot_of (record { who = who; call = Post bytes writable tag; reply = Seq n } ∷ h)) key n
          (Some record { seq = n; bytes = bytes; writable = writable; tag = tag; completion = None }) k.holds (slot_seq h) up.changed up.others
          (slot_post n f d floors h who bytes writable tag k.counts)
          (λ r other. slots_post h who bytes writable tag n r other)
          (λ x e. slot_seq (record { who = who; call = Post bytes writable tag; reply = Seq n } ∷ h) n x (slot_post n f d floors h who bytes writable tag k.counts ∙ e))
          (λ x e. cc)
          (λ j x there e. let found : slot_of h n ≡ Some x = found_some at (slot_of h) k.holds n j x there e in cc);
      count = rw (outstanding_post h who bytes writable n tag (k.counts.none_taken n (omega arith))) (let g = k.count in omega arith);
      legal = (post_seq size n f d floors h tag k.counts unclosed (let g = k.count in omega arith), refl, (few, short), k.legal);
      most = omega (arith, a, b, more, most);
      reserved = omega (arith, a, b, more, fits);
    }

pub keeps_post : (size n f d : ℕ) (floors : Option (List ℕ)) (at now : ℕ → Option Slot) (held held_now : ℕ) (log log_later : Kept RingEntry) (who : ℕ) (bytes : List ℕ) (writable : ℕ) (tag : Tag) (key : ℕ)
    → Keeps size n f d floors at held log → floors ≡ None → who < 26 → writable ≤ 256 → held < size / 2
    → Changes at now key (Some record { seq = n; bytes = bytes; writable = writable; tag = tag; completion = None }) → at key ≡ None → held_now ≡ held + 1
    → log_later.entries ≡ record { who = who; call = Post bytes writable tag; reply = Seq n } ∷ log.entries
    → length log.entries + (owed n f d (held) + 4) ≤ log_later.room → length log.entries + (owed n f d (held) + 4) ≤ 2 ^ 62
    → Keeps size (n + 1) f d floors now held_now log_later
keeps_post size n f d floors at now held held_now log log_later who bytes writable tag key k unclosed few short free up vacant more e fits most =
    subst (λ (es : List RingEntry). Keeps size (n + 1) f d floors now held_now (record { entries = es; room = log_later.room })) (sym e)
    (kept_post size n f d floors at now held held_now log who bytes writable tag key log_later.room k unclosed few short free up vacant more fits most)

-- the same slots under the same keys
pub keeps_alike : (size n f d : ℕ) (floors : Option (List ℕ)) (at now : ℕ → Option Slot) (held held_now : ℕ) (log : Kept RingEntry) → ((key : ℕ) → now key ≡ at key) → held_now ≡ held → Keeps size n f d floors at held log → Keeps size n f d floors now held_now log
keeps_alike size n f d floors at now held held_now log alike same k = record {
  counts = k.counts;
  holds = record {
    sound = λ key x there. k.holds.sound key x (sym (alike key) ∙ there);
    complete = λ s x found. let there = k.holds.complete s x found in (there.0, alike there.0 ∙ there.1);
    distinct = λ key other x y there others. k.holds.distinct key other x y (sym (alike key) ∙ there) (sym (alike other) ∙ others);
  };
  count = same ∙ k.count;
  legal = k.legal;
  most = let a = k.most in omega (arith, a, same);
  reserved = let a = k.reserved in omega (arith, a, same);
}

-- Pop

pub record IsFetching (n f d : ℕ) (floors : Option (List ℕ)) (h : List RingEntry) : Type 0 where
  pub idle : f ≤ d
  pub near : f < n
  pub next : Slot
  pub gives : pop_answer h ≡ Fetched f next.bytes next.writable next.tag

fetching_by : (n f d : ℕ) (floors : Option (List ℕ)) (h : List RingEntry) → AreCounts n f d floors h → is_quiet_reply (pop_answer h) ≡ false → f ≤ d → pop_answer h ≡ fetched_answer (slot_of h f)
    → (o : Option Slot) → slot_of h f ≡ o → IsFetching n f d floors h
fetching_by n f d floors h c loud idle next None e = let no : true ≡ false = sym (ap is_quiet_reply (next ∙ ap fetched_answer e)) ∙ loud in cc
fetching_by n f d floors h c loud idle next (Some x) e = record {
  idle = idle;
  near = inside_number n f d floors h f x c e;
  next = x;
  gives = next ∙ ap fetched_answer e ∙ ap (λ s. Fetched s x.bytes x.writable x.tag) (slot_seq h f x e);
}

fetching_at : (n f d : ℕ) (floors : Option (List ℕ)) (h : List RingEntry) → AreCounts n f d floors h → is_quiet_reply (pop_answer h) ≡ false → (g : Option (List ℕ)) → floors ≡ g → IsFetching n f d floors h
fetching_at n f d floors h c loud (Some told) e =
    let k : is_closed h ≡ true = shut_some n f d floors h c told e in
    let no : true ≡ false = simp k at loud in cc
fetching_at n f d floors h c loud None e = elim (cases_lt d f) [
  | inl busy ↦ let no : true ≡ false = sym (ap is_quiet_reply (pop_serving n f d floors h c e busy)) ∙ loud in cc
  | inr idle ↦ fetching_by n f d floors h c loud idle (pop_next n f d floors h c e idle) (slot_of h f) refl
]

-- a Pop that isn't quiet fetches
pub fetching : (n f d : ℕ) (floors : Option (List ℕ)) (h : List RingEntry) → AreCounts n f d floors h → is_quiet_reply (pop_answer h) ≡ false → IsFetching n f d floors h
fetching n f d floors h c loud = fetching_at n f d floors h c loud floors refl

pub pop_room : (size n f d : ℕ) (floors : Option (List ℕ)) (at : ℕ → Option Slot) (held : ℕ) (log : Kept RingEntry) → Keeps size n f d floors at held log → is_quiet_reply (pop_answer log.entries) ≡ false
    → (length log.entries < log.room) × (length log.entries < 2 ^ 62)
pop_room size n f d floors at held log k loud =
    let i = fetching n f d floors log.entries k.counts loud in
    let a = i.near in
    let b = k.most in
    let g = k.reserved in
    (omega (arith, a, g), omega (arith, a, b))

kept_pop : (size n f d : ℕ) (floors : Option (List ℕ)) (at : ℕ → Option Slot) (held : ℕ) (log : Kept RingEntry) (who room : ℕ) (x : Slot)
    → Keeps size n f d floors at held log → who < 26 → f ≤ d → f < n → pop_answer log.entries ≡ Fetched f x.bytes x.writable x.tag → log.room ≤ room
    → Keeps size n (f + 1) d floors at held (record { entries = record { who = who; call = Pop; reply = Fetched f x.bytes x.writable x.tag } ∷ log.entries; room = room })
kept_pop size n f d floors at held log who room x k few idle near gives wide = record {
  counts = counts_pop n f d floors log.entries who x.bytes x.writable x.tag k.counts idle near;
  holds = record {
    sound = λ key y there. slots_alike log.entries who x f (command log.entries y.seq) ∙ k.holds.sound key y there;
    complete = λ s y found. k.holds.complete s y (sym (slots_alike log.entries who x f (command log.entries s)) ∙ found);
    distinct = k.holds.distinct;
  };
  count = k.count;
  legal = (sym gives, refl, few, k.legal);
  most = let a = k.most in omega (arith, a);
  reserved = let a = k.reserved in omega (arith, a);
}
  where
    slots_alike : (h : List RingEntry) (who : ℕ) (x : Slot) (f : ℕ) (o : Option Posted) → slot_of_command (record { who = who; call = Pop; reply = Fetched f x.bytes x.writable x.tag } ∷ h) o ≡ slot_of_command h o
    slots_alike h who x f None = refl
    slots_alike h who x f (Some p) = refl

pub keeps_pop : (size n f d : ℕ) (floors : Option (List ℕ)) (at : ℕ → Option Slot) (held : ℕ) (log log_later : Kept RingEntry) (who : ℕ) (reply : RingReply)
    → Keeps size n f d floors at held log → who < 26 → reply ≡ pop_answer log.entries → is_quiet_reply reply ≡ false
    → log_later.entries ≡ record { who = who; call = Pop; reply = reply } ∷ log.entries → log.room ≤ log_later.room
    → Keeps size n (f + 1) d floors at held log_later
keeps_pop size n f d floors at held log log_later who reply k few is loud e wide =
    let i = fetching n f d floors log.entries k.counts (ap is_quiet_reply (sym is) ∙ loud) in
    subst (λ (es : List RingEntry). Keeps size n (f + 1) d floors at held (record { entries = es; room = log_later.room }))
    (sym (e ∙ ap (λ (r : RingReply). record { who = who; call = Pop; reply = r } ∷ log.entries) (is ∙ i.gives)))
    (kept_pop size n f d floors at held log who log_later.room i.next k few i.idle i.near i.gives wide)

-- Complete

serving_by : (n f d : ℕ) (floors : Option (List ℕ)) (h : List RingEntry) → AreCounts n f d floors h → floors ≡ None → is_some (command h d) ≡ true → slot_of h d ≡ None → (o : Option Posted) → command h d ≡ o → ⊥
serving_by n f d floors h c unclosed there none None e = let no : false ≡ true = simp e at there in cc
serving_by n f d floors h c unclosed there none (Some p) e =
    let q : (p.seq == d) ≡ true = earliest_passes (λ p. p.seq == d) (posted h) p e in
    let t : is_taken h p.seq ≡ false = c.none_lost unclosed p.seq (grind (arith, nat_tests, q)) in
    let no : Some (slot_with h p) ≡ None = simp (e, t) at none in cc

-- what is in service is outstanding
pub serving_there : (n f d : ℕ) (floors : Option (List ℕ)) (h : List RingEntry) → AreCounts n f d floors h → floors ≡ None → d < f → slot_of h d ≡ None → ⊥
serving_there n f d floors h c unclosed busy none =
    serving_by n f d floors h c unclosed (earliest_there (posted h) d c.numbered (let a = c.posts in let b = c.fetched_first in omega arith)) none (command h d) refl

completes : (n f d : ℕ) (floors : Option (List ℕ)) (h : List RingEntry) → AreCounts n f d floors h → floors ≡ None → d < f → Completed ≡ complete_answer h d
completes n f d floors h c unclosed busy =
    let e : is_closed h ≡ false = open_none n f d floors h c unclosed in
    let a : is_fetched h d ≡ true = c.fetches d ∙ grind (arith, nat_tests, busy) in
    let b : is_some (completion h d) ≡ false = c.completions d ∙ grind (arith, nat_tests) in
    rw (e, a, b) refl

kept_complete : (size n f d : ℕ) (floors : Option (List ℕ)) (at now : ℕ → Option Slot) (held held_now : ℕ) (log : Kept RingEntry) (who room : ℕ) (bytes : List ℕ) (floor key : ℕ) (x : Slot)
    → Keeps size n f d floors at held log → floors ≡ None → who < 26 → d < f → at key ≡ Some x → x.seq ≡ d
    → Changes at now key (Some (completed x bytes floor)) → held_now ≡ held → log.room ≤ room
    → Keeps size n f (d + 1) floors now held_now (record { entries = record { who = who; call = Complete d bytes floor; reply = Completed } ∷ log.entries; room = room })
kept_complete size n f d floors at now held held_now log who room bytes floor key x k unclosed few busy there seq up alike wide =
    let h : List RingEntry = log.entries in
    let found : slot_of h d ≡ Some x = found_some at (slot_of h) k.holds d key x there seq in
    let after = slot_complete h who bytes floor d x found in
    let a = k.counts.fetched_first in
    record {
      counts = counts_complete n f d floors h who bytes floor k.counts busy;
      holds = holds_after at now (slot_of h) (slot_of (record { who = who; call = Complete d bytes floor; reply = Completed } ∷ h)) key d
          (Some (completed x bytes floor)) k.holds (slot_seq h) up.changed up.others after
          (λ r other. slots_complete h who bytes floor d r other)
          (λ y e. slot_seq (record { who = who; call = Complete d bytes floor; reply = Completed } ∷ h) d y (after ∙ e))
          (λ y e. let both : Some x ≡ Some y = sym there ∙ e in let one : x ≡ y = cc in ap (λ (z : Slot). z.seq) (sym one) ∙ seq)
          (λ j y e s. k.holds.distinct j key y x e there (s ∙ sym seq));
      count = alike ∙ k.count;
      legal = (completes n f d floors h k.counts unclosed busy, refl, few, k.legal);
      most = let g = k.most in omega (arith, a, g, alike);
      reserved = let g = k.reserved in omega (arith, a, g, alike);
    }

pub keeps_complete : (size n f d : ℕ) (floors : Option (List ℕ)) (at now : ℕ → Option Slot) (held held_now : ℕ) (log log_later : Kept RingEntry) (who : ℕ) (seq : ℕ) (bytes : List ℕ) (floor key : ℕ) (x : Slot)
    → Keeps size n f d floors at held log → floors ≡ None → who < 26 → seq ≡ d → d < f → at key ≡ Some x → x.seq ≡ seq
    → Changes at now key (Some (completed x bytes floor)) → held_now ≡ held
    → log_later.entries ≡ record { who = who; call = Complete seq bytes floor; reply = Completed } ∷ log.entries → log.room ≤ log_later.room
    → Keeps size n f (seq + 1) floors now held_now log_later
keeps_complete size n f d floors at now held held_now log log_later who seq bytes floor key x k unclosed few is busy there named up alike e wide =
    subst (λ (t : ℕ). Keeps size n f (t + 1) floors now held_now log_later) (sym is)
    (subst (λ (es : List RingEntry). Keeps size n f (d + 1) floors now held_now (record { entries = es; room = log_later.room }))
    (sym (e ∙ ap (λ (t : ℕ). record { who = who; call = Complete t bytes floor; reply = Completed } ∷ log.entries) is))
    (kept_complete size n f d floors at now held held_now log who log_later.room bytes floor key x k unclosed few busy there (named ∙ is) up alike wide))

-- Take

completion_if : (h : List RingEntry) (p : Posted) (x : Slot) → slot_if h p ≡ Some x → (b : Bool) → is_taken h p.seq ≡ b → x.completion ≡ kept_bytes p.writable (completion h p.seq)
completion_if h p x found true e = let n : None ≡ Some x = simp e at found in cc
completion_if h p x found false e = let n : Some (slot_with h p) ≡ Some x = simp e at found in let same : slot_with h p ≡ x = cc in ap (λ (y : Slot). y.completion) (sym same)

kept_some : (writable : ℕ) (o : Option (List ℕ × ℕ)) → is_some (kept_bytes writable o) ≡ is_some o
kept_some writable None = refl
kept_some writable (Some c) = refl

completion_by : (h : List RingEntry) (s : ℕ) (x : Slot) → slot_of h s ≡ Some x → (o : Option Posted) → command h s ≡ o → is_some x.completion ≡ is_some (completion h s)
completion_by h s x found None e = let n : None ≡ Some x = simp e at found in cc
completion_by h s x found (Some p) e =
    let n : slot_if h p ≡ Some x = simp e at found in
    let q : (p.seq == s) ≡ true = earliest_passes (λ p. p.seq == s) (posted h) p e in
    let same : p.seq ≡ s = grind (arith, nat_tests, q) in
    ap is_some (completion_if h p x n (is_taken h p.seq) refl) ∙ kept_some p.writable (completion h p.seq) ∙ ap (λ (t : ℕ). is_some (completion h t)) same

done_by : (x : Slot) (o : Option (List ℕ × ℕ)) → x.completion ≡ o → is_quiet_reply (taken_answer None (Some x)) ≡ false → is_some x.completion ≡ true
done_by x None e loud = let no : true ≡ false = simp e at loud in cc
done_by x (Some c) e loud = rw e refl

-- what is taken while the queue is open was completed
pub taken_done : (n f d : ℕ) (floors : Option (List ℕ)) (h : List RingEntry) (s : ℕ) (x : Slot) → AreCounts n f d floors h → AgesAlike h → slot_of h s ≡ Some x → is_quiet_reply (take_answer h s) ≡ false → floors ≡ None → s < d
taken_done n f d floors h s x c ages found loud unclosed =
    let gives : take_answer h s ≡ taken_answer None (Some x) = take_from n f d floors h s c ages ∙ ap (λ (g : Option (List ℕ)). taken_answer g (slot_of h s)) unclosed ∙ ap (taken_answer None) found in
    let done = done_by x x.completion refl (ap is_quiet_reply (sym gives) ∙ loud) in
    let at : nat_lt s d ≡ true = sym (c.completions s) ∙ sym (completion_by h s x found (command h s) refl) ∙ done in
    grind (arith, nat_tests, at)

kept_take : (size n f d : ℕ) (floors : Option (List ℕ)) (at now : ℕ → Option Slot) (held held_now : ℕ) (log : Kept RingEntry) (who room s key : ℕ) (x : Slot) (reply : RingReply)
    → Keeps size n f d floors at held log → who < 26 → reply ≡ take_answer log.entries s → is_quiet_reply reply ≡ false → at key ≡ Some x → x.seq ≡ s
    → Changes at now key None → held_now + 1 ≡ held → log.room ≤ room
    → Keeps size n f d floors now held_now (record { entries = record { who = who; call = Take s; reply = reply } ∷ log.entries; room = room })
kept_take size n f d floors at now held held_now log who room s key x reply k few is loud there seq up less wide =
    let h : List RingEntry = log.entries in
    let found : slot_of h s ≡ Some x = found_some at (slot_of h) k.holds s key x there seq in
    record {
      counts = counts_take n f d floors h who s reply k.counts (inside_number n f d floors h s x k.counts found) (taken_done n f d floors h s x k.counts (old_closed size h k.legal) found (ap is_quiet_reply (sym is) ∙ loud));
      holds = holds_after at now (slot_of h) (slot_of (record { who = who; call = Take s; reply = reply } ∷ h)) key s
          None k.holds (slot_seq h) up.changed up.others (slot_take h who s reply)
          (λ r other. slots_take h who s reply r other)
          (λ y e. cc)
          (λ y e. let both : Some x ≡ Some y = sym there ∙ e in let one : x ≡ y = cc in ap (λ (z : Slot). z.seq) (sym one) ∙ seq)
          (λ j y e q. k.holds.distinct j key y x e there (q ∙ sym seq));
      count = let a = count_take n f d floors h who s reply x k.counts found in let g = k.count in omega (arith, a, g, less);
      legal = (is, loud, few, k.legal);
      most = let g = k.most in omega (arith, g, less);
      reserved = let g = k.reserved in omega (arith, g, less);
    }

pub keeps_take : (size n f d : ℕ) (floors : Option (List ℕ)) (at now : ℕ → Option Slot) (held held_now : ℕ) (log log_later : Kept RingEntry) (who s key : ℕ) (x : Slot) (reply : RingReply)
    → Keeps size n f d floors at held log → who < 26 → reply ≡ take_answer log.entries s → is_quiet_reply reply ≡ false → at key ≡ Some x → x.seq ≡ s
    → Changes at now key None → held_now + 1 ≡ held
    → log_later.entries ≡ record { who = who; call = Take s; reply = reply } ∷ log.entries → log.room ≤ log_later.room
    → Keeps size n f d floors now held_now log_later
keeps_take size n f d floors at now held held_now log log_later who s key x reply k few is loud there seq up less e wide =
    subst (λ (es : List RingEntry). Keeps size n f d floors now held_now (record { entries = es; room = log_later.room })) (sym e)
    (kept_take size n f d floors at now held held_now log who log_later.room s key x reply k few is loud there seq up less wide)

-- what a Take is answered, from what is kept
pub take_kept : (size n f d : ℕ) (floors : Option (List ℕ)) (at : ℕ → Option Slot) (held : ℕ) (log : Kept RingEntry) (s : ℕ) → Keeps size n f d floors at held log → take_answer log.entries s ≡ taken_answer floors (slot_of log.entries s)
take_kept size n f d floors at held log s k = take_from n f d floors log.entries s k.counts (old_closed size log.entries k.legal)

pub take_none : (size n f d : ℕ) (floors : Option (List ℕ)) (at : ℕ → Option Slot) (held : ℕ) (log : Kept RingEntry) (s : ℕ) → Keeps size n f d floors at held log → slot_of log.entries s ≡ None → is_quiet_reply (take_answer log.entries s) ≡ true
take_none size n f d floors at held log s k none = ap is_quiet_reply (take_kept size n f d floors at held log s k ∙ ap (taken_answer floors) none)

-- Reset

kept_reset : (size n f d : ℕ) (floors : Option (List ℕ)) (at : ℕ → Option Slot) (held : ℕ) (log : Kept RingEntry) (who room : ℕ) (told : List ℕ)
    → Keeps size n f d floors at held log → who < 26
    → length log.entries + (owed n f d (held) + 1) ≤ room → length log.entries + (owed n f d (held) + 1) ≤ 2 ^ 62
    → Keeps size n f d (Some told) at held (record { entries = record { who = who; call = Reset told; reply = ResetDone } ∷ log.entries; room = room })
kept_reset size n f d floors at held log who room told k few fits most = record {
  counts = counts_reset n f d floors log.entries who told k.counts;
  holds = record {
    sound = λ key y there. slots_alike log.entries who told (command log.entries y.seq) ∙ k.holds.sound key y there;
    complete = λ s y found. k.holds.complete s y (sym (slots_alike log.entries who told (command log.entries s)) ∙ found);
    distinct = k.holds.distinct;
  };
  count = k.count;
  legal = (refl, refl, few, k.legal);
  most = omega (arith, most);
  reserved = omega (arith, fits);
}
  where
    slots_alike : (h : List RingEntry) (who : ℕ) (told : List ℕ) (o : Option Posted) → slot_of_command (record { who = who; call = Reset told; reply = ResetDone } ∷ h) o ≡ slot_of_command h o
    slots_alike h who told None = refl
    slots_alike h who told (Some p) = refl

pub keeps_reset : (size n f d : ℕ) (floors : Option (List ℕ)) (at : ℕ → Option Slot) (held : ℕ) (log log_later : Kept RingEntry) (who : ℕ) (told : List ℕ)
    → Keeps size n f d floors at held log → who < 26
    → log_later.entries ≡ record { who = who; call = Reset told; reply = ResetDone } ∷ log.entries
    → length log.entries + (owed n f d (held) + 1) ≤ log_later.room → length log.entries + (owed n f d (held) + 1) ≤ 2 ^ 62
    → Keeps size n f d (Some told) at held log_later
keeps_reset size n f d floors at held log log_later who told k few e fits most =
    subst (λ (es : List RingEntry). Keeps size n f d (Some told) at held (record { entries = es; room = log_later.room })) (sym e)
    (kept_reset size n f d floors at held log who log_later.room told k few fits most)
