-- What is kept after one entry more.
use Rattle.std.proofs.Common.{◌≡◌, ◌≢◌, ℕ, ◌+◌, ◌<◌, ◌≤◌, inl, inr, Bool, true, false, List, ◌∷◌, length, Some, None, Option, arith, refl, sym, ap, ◌∙◌, subst}
use Rattle.std.specs.Prelude.{◌==◌, nat_lt, is_some, if◌then◌else◌}
use Rattle.std.proofs.lemmas.Bool.Decides.{nat_tests}
use Rattle.std.proofs.lemmas.Bool.{cases_eq}
use Rattle.group_calls.specs.declared.queue.Tag.{Tag}
use Rattle.group_calls.specs.declared.queue.RingCall.TheVariants.{Post, Pop, Complete, Take, Reset}
use Rattle.group_calls.specs.declared.queue.RingReply.{RingReply}
use Rattle.group_calls.specs.declared.queue.RingReply.TheVariants.{Seq, Fetched, Completed, ResetDone}
use Rattle.history.specs.Look.{or_else}
use Rattle.group_calls.specs.Queue.{RingEntry, Posted, posted, completion, is_taken, command, outstanding, is_outstanding}
use Rattle.group_calls.proofs.Numbers.{earliest_passes, earliest_past, one_less}
use Rattle.group_calls.proofs.Outstanding.{outstanding_take}
use Rattle.admin_ring.specs.Slots.{Slot}
use Rattle.admin_ring.specs.Finding.{completed}
use Rattle.admin_ring.specs.Kept.{slot_with, slot_if, slot_of, slot_of_command, Holds, AreCounts}

-- the table after a change at one key, which changes what one number has
pub holds_after : (at now of of_now : ℕ → Option Slot) (key s : ℕ) (o : Option Slot) → Holds at of
    → ((r : ℕ) (x : Slot) → of r ≡ Some x → x.seq ≡ r)
    → now key ≡ o → ((j : ℕ) → j ≢ key → now j ≡ at j)
    → of_now s ≡ o → ((r : ℕ) → r ≢ s → of_now r ≡ of r)
    → ((x : Slot) → o ≡ Some x → x.seq ≡ s)
    → ((x : Slot) → at key ≡ Some x → x.seq ≡ s)
    → ((j : ℕ) (x : Slot) → at j ≡ Some x → x.seq ≡ s → j ≡ key)
    → Holds now of_now
holds_after at now of of_now key s o holds named here others new rest named_o was only = record {
  sound = λ j x there. elim (cases_eq j key) [
    | inl same ↦
        let e : o ≡ Some x = sym here ∙ ap now (sym same) ∙ there in
        subst (λ (t : ℕ). of_now t ≡ Some x) (sym (named_o x e)) (new ∙ e)
    | inr other ↦
        let before : at j ≡ Some x = sym (others j other) ∙ there in
        rest x.seq (λ q. other (only j x before q)) ∙ holds.sound j x before
  ];
  complete = λ r x there. elim (cases_eq r s) [
    | inl same ↦ (key, here ∙ sym new ∙ ap of_now (sym same) ∙ there)
    | inr other ↦
        let before : of r ≡ Some x = sym (rest r other) ∙ there in
        let place = holds.complete r x before in
        (place.0, others place.0 (λ q. other (sym (named r x before) ∙ was x (ap at (sym q) ∙ place.1))) ∙ place.1)
  ];
  distinct = λ j k x y there too same. elim (cases_eq j key) [
    | inl a ↦ elim (cases_eq k key) [
      | inl b ↦ a ∙ sym b
      | inr b ↦
          let e : o ≡ Some x = sym here ∙ ap now (sym a) ∙ there in
          absurd (b (only k y (sym (others k b) ∙ too) (sym same ∙ named_o x e)))
    ]
    | inr a ↦ elim (cases_eq k key) [
      | inl b ↦
          let e : o ≡ Some y = sym here ∙ ap now (sym b) ∙ too in
          absurd (a (only j x (sym (others j a) ∙ there) (same ∙ named_o y e)))
      | inr b ↦ holds.distinct j k x y (sym (others j a) ∙ there) (sym (others k b) ∙ too) same
    ]
  ];
}

none_of : {X : Type 0} (o : Option X) → is_some o ≡ false → o ≡ None
none_of None e = refl
none_of (Some x) e = cc

or_none : {X : Type 0} (o : Option X) → or_else o None ≡ o
or_none None = refl
or_none (Some x) = refl

-- Post

pub counts_post : (n f d : ℕ) (floors : Option (List ℕ)) (h : List RingEntry) (who : ℕ) (bytes : List ℕ) (writable : ℕ) (tag : Tag) → AreCounts n f d floors h
    → AreCounts (n + 1) f d floors (record { who = who; call = Post bytes writable tag; reply = Seq n } ∷ h)
counts_post n f d floors h who bytes writable tag c = record {
  numbered = (c.posts, c.numbered);
  posts = let a = c.posts in omega arith;
  fetches = λ s. c.fetches s;
  completions = λ s. c.completions s;
  completed_first = c.completed_first;
  one_in_service = c.one_in_service;
  fetched_first = let a = c.fetched_first in omega arith;
  shut = c.shut;
  told = c.told;
  none_taken = λ s far. c.none_taken s (omega arith);
  none_lost = λ e s far. c.none_lost e s far;
  few = let a = c.few in omega arith;
}

post_other : (h : List RingEntry) (who : ℕ) (bytes : List ℕ) (writable : ℕ) (tag : Tag) (n : ℕ) → (o : Option Posted)
    → slot_of_command (record { who = who; call = Post bytes writable tag; reply = Seq n } ∷ h) o ≡ slot_of_command h o
post_other h who bytes writable tag n None = refl
post_other h who bytes writable tag n (Some p) = refl

pub slots_post : (h : List RingEntry) (who : ℕ) (bytes : List ℕ) (writable : ℕ) (tag : Tag) (n s : ℕ) → s ≢ n
    → slot_of (record { who = who; call = Post bytes writable tag; reply = Seq n } ∷ h) s ≡ slot_of h s
slots_post h who bytes writable tag n s other =
    let e : (n == s) ≡ false = grind (arith, nat_tests, other) in
    rw e (ap (slot_of_command (record { who = who; call = Post bytes writable tag; reply = Seq n } ∷ h)) (or_none (command h s)) ∙ post_other h who bytes writable tag n (command h s))

pub slot_post : (n f d : ℕ) (floors : Option (List ℕ)) (h : List RingEntry) (who : ℕ) (bytes : List ℕ) (writable : ℕ) (tag : Tag) → AreCounts n f d floors h
    → slot_of (record { who = who; call = Post bytes writable tag; reply = Seq n } ∷ h) n ≡ Some record { seq = n; bytes = bytes; writable = writable; tag = tag; completion = None }
slot_post n f d floors h who bytes writable tag c =
    let none : command h n ≡ None = earliest_past (posted h) n c.numbered (let a = c.posts in omega arith) in
    let same : (n == n) ≡ true = grind (arith, nat_tests) in
    let free : is_taken h n ≡ false = c.none_taken n (omega arith) in
    let fresh : completion h n ≡ None = none_of (completion h n) (c.completions n ∙ (let a = c.completed_first in let b = c.fetched_first in grind (arith, nat_tests, a, b))) in
    rw (none, same, free, fresh) refl

-- Pop

pub counts_pop : (n f d : ℕ) (floors : Option (List ℕ)) (h : List RingEntry) (who : ℕ) (bytes : List ℕ) (writable : ℕ) (tag : Tag) → AreCounts n f d floors h → f ≤ d → f < n
    → AreCounts n (f + 1) d floors (record { who = who; call = Pop; reply = Fetched f bytes writable tag } ∷ h)
counts_pop n f d floors h who bytes writable tag c idle near = record {
  numbered = c.numbered;
  posts = c.posts;
  fetches = λ s. rw (c.fetches s) (grind (arith, nat_tests));
  completions = λ s. c.completions s;
  completed_first = let a = c.completed_first in omega arith;
  one_in_service = let a = c.one_in_service in omega arith;
  fetched_first = omega arith;
  shut = c.shut;
  told = c.told;
  none_taken = λ s far. c.none_taken s far;
  none_lost = λ e s far. c.none_lost e s far;
  few = let a = c.few in omega arith;
}

-- Complete

completed_by_one : (o : Option (List ℕ × ℕ)) (x : List ℕ × ℕ) (d s : ℕ) → is_some o ≡ nat_lt s d → (b : Bool) → (d == s) ≡ b → is_some (or_else (if (d == s) then Some x else None) o) ≡ nat_lt s (d + 1)
completed_by_one o x d s e true same = rw same (grind (arith, nat_tests, same))
completed_by_one o x d s e false same = rw (same, e) (grind (arith, nat_tests, same))

pub counts_complete : (n f d : ℕ) (floors : Option (List ℕ)) (h : List RingEntry) (who : ℕ) (bytes : List ℕ) (floor : ℕ) → AreCounts n f d floors h → d < f
    → AreCounts n f (d + 1) floors (record { who = who; call = Complete d bytes floor; reply = Completed } ∷ h)
counts_complete n f d floors h who bytes floor c busy = record {
  numbered = c.numbered;
  posts = c.posts;
  fetches = λ s. c.fetches s;
  completions = λ s. completed_by_one (completion h s) (bytes, floor) d s (c.completions s) (d == s) refl;
  completed_first = omega arith;
  one_in_service = let a = c.one_in_service in omega arith;
  fetched_first = c.fetched_first;
  shut = c.shut;
  told = c.told;
  none_taken = λ s far. c.none_taken s far;
  none_lost = λ e s far. c.none_lost e s (omega arith);
  few = let a = c.few in omega arith;
}

complete_other : (h : List RingEntry) (who : ℕ) (bytes : List ℕ) (floor d : ℕ) → (o : Option Posted) → ((p : Posted) → o ≡ Some p → (d == p.seq) ≡ false)
    → slot_of_command (record { who = who; call = Complete d bytes floor; reply = Completed } ∷ h) o ≡ slot_of_command h o
complete_other h who bytes floor d None off = refl
complete_other h who bytes floor d (Some p) off = let e : (d == p.seq) ≡ false = off p refl in rw e refl

pub slots_complete : (h : List RingEntry) (who : ℕ) (bytes : List ℕ) (floor d s : ℕ) → s ≢ d
    → slot_of (record { who = who; call = Complete d bytes floor; reply = Completed } ∷ h) s ≡ slot_of h s
slots_complete h who bytes floor d s other = complete_other h who bytes floor d (command h s) (λ p k. let q : (p.seq == s) ≡ true = earliest_passes (λ p. p.seq == s) (posted h) p k in grind (arith, nat_tests, q, other))

complete_if : (h : List RingEntry) (who : ℕ) (bytes : List ℕ) (floor d : ℕ) (x : Slot) (p : Posted) → (d == p.seq) ≡ true → slot_if h p ≡ Some x → (b : Bool) → is_taken h p.seq ≡ b
    → slot_if (record { who = who; call = Complete d bytes floor; reply = Completed } ∷ h) p ≡ Some (completed x bytes floor)
complete_if h who bytes floor d x p q found true t = let no : None ≡ Some x = simp t at found in cc
complete_if h who bytes floor d x p q found false t =
    let yes : Some (slot_with h p) ≡ Some x = simp t at found in
    let same : slot_with h p ≡ x = cc in
    rw (t, q) (ap (λ (y : Slot). Some (completed y bytes floor)) same)

complete_it : (h : List RingEntry) (who : ℕ) (bytes : List ℕ) (floor d : ℕ) (x : Slot) → (o : Option Posted) → ((p : Posted) → o ≡ Some p → (d == p.seq) ≡ true) → slot_of_command h o ≡ Some x
    → slot_of_command (record { who = who; call = Complete d bytes floor; reply = Completed } ∷ h) o ≡ Some (completed x bytes floor)
complete_it h who bytes floor d x None on found = cc
complete_it h who bytes floor d x (Some p) on found = complete_if h who bytes floor d x p (on p refl) found (is_taken h p.seq) refl

pub slot_complete : (h : List RingEntry) (who : ℕ) (bytes : List ℕ) (floor d : ℕ) (x : Slot) → slot_of h d ≡ Some x
    → slot_of (record { who = who; call = Complete d bytes floor; reply = Completed } ∷ h) d ≡ Some (completed x bytes floor)
slot_complete h who bytes floor d x found = complete_it h who bytes floor d x (command h d) (λ p k. let q : (p.seq == d) ≡ true = earliest_passes (λ p. p.seq == d) (posted h) p k in grind (arith, nat_tests, q)) found

-- Take

pub counts_take : (n f d : ℕ) (floors : Option (List ℕ)) (h : List RingEntry) (who s : ℕ) (reply : RingReply) → AreCounts n f d floors h → s < n → (floors ≡ None → s < d)
    → AreCounts n f d floors (record { who = who; call = Take s; reply = reply } ∷ h)
counts_take n f d floors h who s reply c near past = record {
  numbered = c.numbered;
  posts = c.posts;
  fetches = λ t. c.fetches t;
  completions = λ t. c.completions t;
  completed_first = c.completed_first;
  one_in_service = c.one_in_service;
  fetched_first = c.fetched_first;
  shut = c.shut;
  told = c.told;
  none_taken = λ t far. let e : (s == t) ≡ false = grind (arith, nat_tests, near, far) in rw e (c.none_taken t far);
  none_lost = λ k t far. let m = past k in let e : (s == t) ≡ false = grind (arith, nat_tests, m, far) in rw e (c.none_lost k t far);
  few = let a = c.few in omega arith;
}

take_other : (h : List RingEntry) (who s : ℕ) (reply : RingReply) → (o : Option Posted) → ((p : Posted) → o ≡ Some p → (s == p.seq) ≡ false)
    → slot_of_command (record { who = who; call = Take s; reply = reply } ∷ h) o ≡ slot_of_command h o
take_other h who s reply None off = refl
take_other h who s reply (Some p) off = let e : (s == p.seq) ≡ false = off p refl in rw e refl

pub slots_take : (h : List RingEntry) (who s : ℕ) (reply : RingReply) (r : ℕ) → r ≢ s → slot_of (record { who = who; call = Take s; reply = reply } ∷ h) r ≡ slot_of h r
slots_take h who s reply r other = take_other h who s reply (command h r) (λ p k. let q : (p.seq == r) ≡ true = earliest_passes (λ p. p.seq == r) (posted h) p k in grind (arith, nat_tests, q, other))

take_it : (h : List RingEntry) (who s : ℕ) (reply : RingReply) → (o : Option Posted) → ((p : Posted) → o ≡ Some p → (s == p.seq) ≡ true) → slot_of_command (record { who = who; call = Take s; reply = reply } ∷ h) o ≡ None
take_it h who s reply None on = refl
take_it h who s reply (Some p) on = let e : (s == p.seq) ≡ true = on p refl in rw e refl

pub slot_take : (h : List RingEntry) (who s : ℕ) (reply : RingReply) → slot_of (record { who = who; call = Take s; reply = reply } ∷ h) s ≡ None
slot_take h who s reply = take_it h who s reply (command h s) (λ p k. let q : (p.seq == s) ≡ true = earliest_passes (λ p. p.seq == s) (posted h) p k in grind (arith, nat_tests, q))

kept_by : (h : List RingEntry) (x : Slot) (p : Posted) → slot_if h p ≡ Some x → (b : Bool) → is_taken h p.seq ≡ b → is_outstanding h p ≡ true
kept_by h x p found true t = let no : None ≡ Some x = simp t at found in cc
kept_by h x p found false t = rw t refl

fewer : (n f d : ℕ) (floors : Option (List ℕ)) (h : List RingEntry) (who s : ℕ) (reply : RingReply) (x : Slot) → AreCounts n f d floors h → slot_of h s ≡ Some x → (o : Option Posted) → command h s ≡ o
    → length (outstanding (record { who = who; call = Take s; reply = reply } ∷ h)) + 1 ≡ length (outstanding h)
fewer n f d floors h who s reply x c found None k = let no : None ≡ Some x = simp k at found in cc
fewer n f d floors h who s reply x c found (Some p) k =
    let there : slot_if h p ≡ Some x = simp k at found in
    rw (outstanding_take h who s reply) (one_less (posted h) (is_outstanding h) s p c.numbered k (kept_by h x p there (is_taken h p.seq) refl))

pub count_take : (n f d : ℕ) (floors : Option (List ℕ)) (h : List RingEntry) (who s : ℕ) (reply : RingReply) (x : Slot) → AreCounts n f d floors h → slot_of h s ≡ Some x
    → length (outstanding (record { who = who; call = Take s; reply = reply } ∷ h)) + 1 ≡ length (outstanding h)
count_take n f d floors h who s reply x c found = fewer n f d floors h who s reply x c found (command h s) refl

-- Reset

pub counts_reset : (n f d : ℕ) (floors : Option (List ℕ)) (h : List RingEntry) (who : ℕ) (told : List ℕ) → AreCounts n f d floors h
    → AreCounts n f d (Some told) (record { who = who; call = Reset told; reply = ResetDone } ∷ h)
counts_reset n f d floors h who told c = record {
  numbered = c.numbered;
  posts = c.posts;
  fetches = λ t. c.fetches t;
  completions = λ t. c.completions t;
  completed_first = c.completed_first;
  one_in_service = c.one_in_service;
  fetched_first = c.fetched_first;
  shut = refl;
  told = refl;
  none_taken = λ t far. c.none_taken t far;
  none_lost = λ k t far. cc;
  few = let a = c.few in omega arith;
}
