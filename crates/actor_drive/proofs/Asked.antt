-- What a try of an ask tells, and what it leaves in the cells.
use Rattle.std.proofs.Common.{◌≡◌, ◌≢◌, ℕ, zero, suc, ◌+◌, ◌-◌, ◌≤◌, inl, inr, Bool, true, false, MatchBool, List, [], ◌∷◌, ◌++◌, length, map, Option, None, Some, slice_get, sym, refl, ap, ◌∙◌, subst, arith, eq-eqb, ne_eqb, length-append}
use Rattle.std.specs.Prelude.{if◌then◌else◌, slice_set}
use Rattle.std.proofs.lemmas.Bool.{cases_eq}
use Rattle.std.proofs.lemmas.Option.{slice_get_within}
use Rattle.std.proofs.lemmas.Bool.Decides.{nat_tests}
use Rattle.std.proofs.lemmas.List.{length-map}
use Rattle.history.specs.declared.entry.Entry.{Entry}
use Rattle.history.specs.declared.entry.Placed.{Placed}
use Rattle.history.specs.Places.{before, calls_of, entry_at, IsEarlier}
use Rattle.history.specs.Legal.{IsLegal, never_quiet}
use Rattle.history.specs.Limits.{history_limit}
use Rattle.history.proofs.LegalLemmas.{legal_earlier, before_earlier}
use Rattle.turn_cell.specs.Passes.{entry}
use Rattle.group_calls.specs.declared.ask.Ask.{Ask}
use Rattle.group_calls.specs.declared.ask.Ask.TheVariants.{Owner, Queue, Member}
use Rattle.group_calls.specs.declared.ask.Told.{Told}
use Rattle.group_calls.specs.declared.ask.Told.TheVariants.{Owner as FromOwner, Queue as FromQueue, Member as FromMember, NoMemory}
use Rattle.group_calls.specs.declared.queue.RingCall.{RingCall}
use Rattle.group_calls.specs.declared.queue.RingReply.{RingReply}
use Rattle.group_calls.specs.declared.member.MemberMade.{MemberMade}
use Rattle.group_calls.specs.declared.member.MemberCall.{MemberCall}
use Rattle.group_calls.specs.declared.member.MemberReply.{MemberReply}
use Rattle.group_calls.specs.Asks.{Exchange, AnswersAsk, IsReplyOver}
use Rattle.group_calls.specs.Owner.{OwnerEntry, owner_answer, owner_may, IsLegalOwner}
use Rattle.group_calls.specs.Queue.{RingEntry, queue_answer, queue_may, is_quiet_reply, IsLegalQueue}
use Rattle.group_calls.specs.MemberEntries.{MemberEntry}
use Rattle.group_calls.specs.Member.{member_answer, member_may, IsLegalMember}
use Rattle.board_script.specs.Script.{Whole}
use Rattle.board_script.specs.Bounds.{IsScript}
use Rattle.group_cells.specs.declared.asked.Asked.{Asked}
use Rattle.group_cells.specs.declared.asked.Asked.TheVariants as told
use Rattle.group_cells.specs.Cells.{Seen, Sight, QueueSeen, MemberSeen, IsSoundSight, IsSoundQueue, IsSoundMember, IsTold, owner_reply, shows, IsQueueAsked, IsMemberAsked}
use Rattle.journal.specs.Lines.{members_of, made_of}
use Rattle.journal.specs.Cells.{left_in_queue, left_in_member, entry_left}
use Rattle.journal.specs.Journals.{Journal, AreLegal, IsGuestOf}
use Rattle.world_laws.proofs.Actors.{is_made}
use Rattle.actor_drive.specs.Shown.{shown_of, least_of, queue_shown, member_shown, shown_journal, frame_of, queue_least, member_least, AreCellsOf}
use Rattle.actor_drive.specs.Told.{MayAsk, IsTried, and_left, IsLonger, AreLonger, AreSeenOn, IsLeft, IsToldOver, IsToldBy}

-- ---- a list of cells of which one is shown further

pub same_some : {X : Type 0} (a b : X) → Some a ≡ Some b → a ≡ b
same_some a b e = cc

module _ {M C R : Type 0} where
  set_frame : (xs : List (Seen M C R)) (k : ℕ) (c : Seen M C R) (h : List (Entry C R)) → slice_get xs k ≡ Some c → map (shows []) (slice_set xs k (shows h c)) ≡ map (shows []) xs
  set_frame [] k c h at = absurd (cc)
  set_frame (x ∷ xs) zero c h at = let same : x ≡ c = cc in ap (λ (y : Seen M C R). shows [] y ∷ map (shows []) xs) (sym same)
  set_frame (x ∷ xs) (suc k) c h at = ap (λ l. shows [] x ∷ l) (set_frame xs k c h at)

  set_at : (xs : List (Seen M C R)) (k : ℕ) (c y : Seen M C R) → slice_get xs k ≡ Some c → slice_get (slice_set xs k y) k ≡ Some y
  set_at [] k c y at = absurd (cc)
  set_at (x ∷ xs) zero c y at = refl
  set_at (x ∷ xs) (suc k) c y at = set_at xs k c y at

  set_other : (xs : List (Seen M C R)) (k i : ℕ) (y : Seen M C R) → i ≢ k → slice_get (slice_set xs k y) i ≡ slice_get xs i
  set_other [] k i y other = refl
  set_other (x ∷ xs) zero zero y other = absurd (other refl)
  set_other (x ∷ xs) zero (suc i) y other = refl
  set_other (x ∷ xs) (suc k) zero y other = refl
  set_other (x ∷ xs) (suc k) (suc i) y other = set_other xs k i y (λ same. other (ap suc same))

  -- cells with one frame
  pub same_cell : (xs ys : List (Seen M C R)) (k : ℕ) (c : Seen M C R) → map (shows []) ys ≡ map (shows []) xs → slice_get xs k ≡ Some c → (d : Seen M C R) × (slice_get ys k ≡ Some d) × (d.made ≡ c.made) × (d.least ≡ c.least)
  same_cell [] ys k c e at = absurd (cc)
  same_cell (x ∷ xs) [] k c e at = absurd (cc)
  same_cell (x ∷ xs) (y ∷ ys) zero c e at =
      let head : shows [] y ≡ shows [] x = cc in
      let same : x ≡ c = cc in
      (y, refl, ap (λ (z : Seen M C R). z.made) head ∙ ap (λ (z : Seen M C R). z.made) same, ap (λ (z : Seen M C R). z.least) head ∙ ap (λ (z : Seen M C R). z.least) same)
  same_cell (x ∷ xs) (y ∷ ys) (suc k) c e at = let rest : map (shows []) ys ≡ map (shows []) xs = cc in same_cell xs ys k c rest at

  framed : (xs : List (Seen M C R)) (k : ℕ) (c : Seen M C R) → slice_get xs k ≡ Some c → slice_get (map (shows []) xs) k ≡ Some (shows [] c)
  framed [] k c at = absurd (cc)
  framed (x ∷ xs) zero c at = let same : x ≡ c = cc in ap (λ (y : Seen M C R). Some (shows [] y)) same
  framed (x ∷ xs) (suc k) c at = framed xs k c at

  pub there : (xs : List (Seen M C R)) (k : ℕ) → k + 1 ≤ length xs → (c : Seen M C R) × (slice_get xs k ≡ Some c)
  there [] k low = absurd (omega (arith, low))
  there (x ∷ xs) zero low = (x, refl)
  there (x ∷ xs) (suc k) low = there xs k (omega (arith, low))

-- ---- the frame

queue_frame : (s : Sight) (index : ℕ) (asked : Asked RingReply) (call : RingCall) (t : Sight) → IsQueueAsked s index 0 call asked t → frame_of t ≡ frame_of s
queue_frame s index asked call t a = ap frame_of a.after ∙ ap (λ qs. record { who = s.who; owner = shows [] s.owner; queues = qs; members = map (shows []) s.members }) (set_frame s.queues index a.cell a.shown a.here)

member_frame : (s : Sight) (id floor : ℕ) (asked : Asked MemberReply) (call : MemberCall) (t : Sight) → IsMemberAsked s id floor call asked t → frame_of t ≡ frame_of s
member_frame s id floor asked call t a = ap frame_of a.after ∙ ap (λ ms. record { who = s.who; owner = shows [] s.owner; queues = map (shows []) s.queues; members = ms }) (set_frame s.members (id - 1) a.cell a.shown a.here)

pub tried_frame : (s : Sight) (ask : Ask) (o : Option Told) (t : Sight) → IsTried s ask o t → frame_of t ≡ frame_of s
tried_frame s (Owner call) (Some (FromOwner p)) t a = ap frame_of a.after
tried_frame s (Owner call) (Some NoMemory) t a = ap frame_of a.after
tried_frame s (Owner call) (Some (FromQueue p)) t a = absurd a
tried_frame s (Owner call) (Some (FromMember p)) t a = absurd a
tried_frame s (Owner call) None t a = ap frame_of a.1.after
tried_frame s (Queue index call) (Some (FromQueue p)) t a = queue_frame s index (told.Placed p) call t a
tried_frame s (Queue index call) (Some NoMemory) t a = queue_frame s index told.NoMemory call t a.0
tried_frame s (Queue index call) (Some (FromOwner p)) t a = absurd a
tried_frame s (Queue index call) (Some (FromMember p)) t a = absurd a
tried_frame s (Queue index call) None t a = queue_frame s index (told.Busy a.0) call t a.1
tried_frame s (Member id floor call) (Some (FromMember p)) t a = member_frame s id floor (told.Placed p) call t a
tried_frame s (Member id floor call) (Some NoMemory) t a = member_frame s id floor told.NoMemory call t a
tried_frame s (Member id floor call) (Some (FromOwner p)) t a = absurd a
tried_frame s (Member id floor call) (Some (FromQueue p)) t a = absurd a
tried_frame s (Member id floor call) None t a = member_frame s id floor (told.Busy a.0) call t a.1

-- what may be asked of cells may be asked of cells with their frame
pub may_still : (s t : Sight) (ask : Ask) → frame_of t ≡ frame_of s → MayAsk s ask → MayAsk t ask
may_still s t (Owner call) e may = subst (λ (p : ℕ × ℕ). owner_may p.0 p.1 call) (λ i. (sym (ap (λ (f : Sight). f.owner.made) e) i, sym (ap (λ (f : Sight). f.who) e) i)) may
may_still s t (Queue index call) e may =
    let d = same_cell s.queues t.queues index may.0 (ap (λ (f : Sight). f.queues) e) may.1 in
    (d.0, d.1, subst (λ (p : ℕ × ℕ). queue_may p.0 p.1 call) (λ i. (sym d.2 i, sym (ap (λ (f : Sight). f.who) e) i)) may.2)
may_still s t (Member id floor call) e may =
    let d = same_cell s.members t.members (id - 1) may.1.0 (ap (λ (f : Sight). f.members) e) may.1.1 in
    (may.0, (d.0, d.1, subst (λ (w : ℕ). member_may d.0.made w call) (sym (ap (λ (f : Sight). f.who) e)) may.1.2))

-- ---- what is left

module _ {C R : Type 0} where
  still : (who : ℕ) (h : List (Entry C R)) → IsLonger who None h h
  still who h = record { grows = ([], refl); own = refl }

-- one queue was asked
queue_longer : (s : Sight) (k : ℕ) (c : QueueSeen) (h : List RingEntry) (q : ℕ → Option (ℕ × RingEntry)) → slice_get s.queues k ≡ Some c → IsLonger s.who (q k) c.shown h → ((i : ℕ) → i ≢ k → q i ≡ None)
    → (i : ℕ) → IsLonger s.who (q i) (queue_shown s i) (shown_of (slice_get (slice_set s.queues k (shows h c)) i))
queue_longer s k c h q here longer none i = elim (cases_eq i k) [
  | inl same ↦ subst (λ (n : ℕ). IsLonger s.who (q n) (queue_shown s n) (shown_of (slice_get (slice_set s.queues k (shows h c)) n))) (sym same)
      (subst (λ (l : List RingEntry). IsLonger s.who (q k) l (shown_of (slice_get (slice_set s.queues k (shows h c)) k))) (sym (ap shown_of here)) (subst (λ (l : List RingEntry). IsLonger s.who (q k) c.shown l) (sym (ap shown_of (set_at s.queues k c (shows h c) here))) longer))
  | inr other ↦ subst (λ (o : Option (ℕ × RingEntry)). IsLonger s.who o (queue_shown s i) (shown_of (slice_get (slice_set s.queues k (shows h c)) i))) (sym (none i other))
      (subst (λ (l : List RingEntry). IsLonger s.who None (queue_shown s i) l) (sym (ap shown_of (set_other s.queues k i (shows h c) other))) (still s.who (queue_shown s i)))
]

member_longer : (s : Sight) (k : ℕ) (c : MemberSeen) (h : List MemberEntry) (m : ℕ → Option (ℕ × MemberEntry)) → slice_get s.members k ≡ Some c → IsLonger s.who (m (k + 1)) c.shown h → ((i : ℕ) → i ≢ k + 1 → m i ≡ None)
    → (i : ℕ) → IsLonger s.who (m i) (member_shown s i) (member_shown record { who = s.who; owner = s.owner; queues = s.queues; members = slice_set s.members k (shows h c) } i)
member_longer s k c h m here longer none zero = subst (λ (o : Option (ℕ × MemberEntry)). IsLonger s.who o [] []) (sym (none 0 (omega arith))) (still s.who [])
member_longer s k c h m here longer none (suc i) = elim (cases_eq i k) [
  | inl same ↦ subst (λ (n : ℕ). IsLonger s.who (m (suc n)) (shown_of (slice_get s.members n)) (shown_of (slice_get (slice_set s.members k (shows h c)) n))) (sym same)
      (subst (λ (l : List MemberEntry). IsLonger s.who (m (suc k)) l (shown_of (slice_get (slice_set s.members k (shows h c)) k))) (sym (ap shown_of here))
      (subst (λ (l : List MemberEntry). IsLonger s.who (m (suc k)) c.shown l) (sym (ap shown_of (set_at s.members k c (shows h c) here))) (let e : k + 1 ≡ suc k = omega arith in subst (λ (n : ℕ). IsLonger s.who (m n) c.shown h) e longer)))
  | inr other ↦ subst (λ (o : Option (ℕ × MemberEntry)). IsLonger s.who o (shown_of (slice_get s.members i)) (shown_of (slice_get (slice_set s.members k (shows h c)) i))) (sym (none (suc i) (λ e. other (omega (arith, e)))))
      (subst (λ (l : List MemberEntry). IsLonger s.who None (shown_of (slice_get s.members i)) l) (sym (ap shown_of (set_other s.members k i (shows h c) other))) (still s.who (shown_of (slice_get s.members i))))
]

owner_left : (s : Sight) (h : List OwnerEntry) (o : Option (ℕ × OwnerEntry)) (t : Sight) → t ≡ record { who = s.who; owner = shows h s.owner; queues = s.queues; members = s.members } → IsLonger s.who o s.owner.shown h → AreLonger s.who o (λ i. None) (λ i. None) (shown_journal s) (shown_journal t)
owner_left s h o t after longer = subst (λ (u : Sight). AreLonger s.who o (λ i. None) (λ i. None) (shown_journal s) (shown_journal u)) (sym after) record { owner = longer; queue = λ i. still s.who (queue_shown s i); member = λ i. still s.who (member_shown s i) }

queue_left : (s : Sight) (k : ℕ) (c : QueueSeen) (h : List RingEntry) (q : ℕ → Option (ℕ × RingEntry)) (t : Sight) → t ≡ record { who = s.who; owner = s.owner; queues = slice_set s.queues k (shows h c); members = s.members } → slice_get s.queues k ≡ Some c
    → IsLonger s.who (q k) c.shown h → ((i : ℕ) → i ≢ k → q i ≡ None) → AreLonger s.who None q (λ i. None) (shown_journal s) (shown_journal t)
queue_left s k c h q t after here longer none = subst (λ (u : Sight). AreLonger s.who None q (λ i. None) (shown_journal s) (shown_journal u)) (sym after) record { owner = still s.who s.owner.shown; queue = queue_longer s k c h q here longer none; member = λ i. still s.who (member_shown s i) }

member_left : (s : Sight) (k : ℕ) (c : MemberSeen) (h : List MemberEntry) (m : ℕ → Option (ℕ × MemberEntry)) (t : Sight) → t ≡ record { who = s.who; owner = s.owner; queues = s.queues; members = slice_set s.members k (shows h c) } → slice_get s.members k ≡ Some c
    → IsLonger s.who (m (k + 1)) c.shown h → ((i : ℕ) → i ≢ k + 1 → m i ≡ None) → AreLonger s.who None (λ i. None) m (shown_journal s) (shown_journal t)
member_left s k c h m t after here longer none = subst (λ (u : Sight). AreLonger s.who None (λ i. None) m (shown_journal s) (shown_journal u)) (sym after) record { owner = still s.who s.owner.shown; queue = λ i. still s.who (queue_shown s i); member = member_longer s k c h m here longer none }

-- a busy cell is seen further
pub tried_on : (s : Sight) (ask : Ask) (t : Sight) → MayAsk s ask → IsTried s ask None t → AreSeenOn s.who (shown_journal s) (shown_journal t)
tried_on s (Owner call) t may (word, a) = owner_left s a.shown None t a.after record { grows = a.grows; own = a.tells }
tried_on s (Queue index call) t may (word, a) = queue_left s index a.cell a.shown (λ i. None) t a.after a.here record { grows = a.grows; own = a.tells } (λ i other. refl)
tried_on s (Member id floor call) t may (word, a) = member_left s (id - 1) a.cell a.shown (λ i. None) t a.after a.here record { grows = a.grows; own = a.tells } (λ i other. refl)

loud : {C R : Type 0} (b : Bool) (x : ℕ × Entry C R) (more : List (ℕ × Entry C R)) → (if b then more else x ∷ more) ≡ and_left (if b then None else Some x) more
loud true x more = refl
loud false x more = refl

-- what was told stands in its cell
pub tried_left : (s : Sight) (ask : Ask) (told : Told) (t : Sight) → MayAsk s ask → IsTried s ask (Some told) t → IsLeft s.who ask told (shown_journal s) (shown_journal t)
tried_left s (Owner call) (FromOwner p) t may a = owner_left s a.shown (Some (entry_left s.who call p)) t a.after record { grows = a.grows; own = a.tells.own }
tried_left s (Owner call) NoMemory t may a = owner_left s a.shown None t a.after record { grows = a.grows; own = a.tells }
tried_left s (Owner call) (FromQueue p) t may a = absurd a
tried_left s (Owner call) (FromMember p) t may a = absurd a
tried_left s (Queue index call) (FromQueue p) t may a =
    let x : Exchange = (Queue index call, FromQueue p) in
    let here : left_in_queue s.who index x ≡ (if is_quiet_reply p.reply then None else Some (entry_left s.who call p)) = rw (eq-eqb index index refl) refl in
    queue_left s index a.cell a.shown (λ i. left_in_queue s.who i x) t a.after a.here
    (subst (λ (l : Option (ℕ × RingEntry)). IsLonger s.who l a.cell.shown a.shown) (sym here) record { grows = a.grows; own = a.tells.own ∙ loud (is_quiet_reply p.reply) (entry_left s.who call p) (calls_of s.who a.cell.shown) })
    (λ i other. rw (ne_eqb index i (λ e. other (sym e))) refl)
tried_left s (Queue index call) NoMemory t may (a, some) = queue_left s index a.cell a.shown (λ i. None) t a.after a.here record { grows = a.grows; own = a.tells } (λ i other. refl)
tried_left s (Queue index call) (FromOwner p) t may a = absurd a
tried_left s (Queue index call) (FromMember p) t may a = absurd a
tried_left s (Member id floor call) (FromMember p) t may a =
    let low = may.0 in
    let back : id ≡ id - 1 + 1 = omega (arith, low) in
    let x : Exchange = (Member id floor call, FromMember p) in
    let here : left_in_member s.who (id - 1 + 1) x ≡ Some (entry_left s.who call p) = rw (eq-eqb id (id - 1 + 1) back) refl in
    member_left s (id - 1) a.cell a.shown (λ i. left_in_member s.who i x) t a.after a.here
    (subst (λ (l : Option (ℕ × MemberEntry)). IsLonger s.who l a.cell.shown a.shown) (sym here) record { grows = a.grows; own = a.tells.own })
    (λ i other. rw (ne_eqb id i (λ e. other (omega (arith, e, low)))) refl)
tried_left s (Member id floor call) NoMemory t may a = member_left s (id - 1) a.cell a.shown (λ i. None) t a.after a.here record { grows = a.grows; own = a.tells } (λ i other. refl)
tried_left s (Member id floor call) (FromOwner p) t may a = absurd a
tried_left s (Member id floor call) (FromQueue p) t may a = absurd a

-- ---- what is told

module _ {M C R : Type 0} (answer : M → List (Entry C R) → C → R) (quiet : R → Bool) where
  longer_by : (more old : List (Entry C R)) (n : ℕ) → n + 1 ≡ length (more ++ old) → (more ≡ [] → ⊥) → length old ≤ n
  longer_by [] old n is some = absurd (some refl)
  longer_by (x ∷ more) old n is some = let l = length-append more old in omega (arith, is, l)

  -- an entry of the caller's is new, so the history is longer
  not_same : (who at : ℕ) (e : Entry C R) (old now more : List (Entry C R)) → now ≡ more ++ old → calls_of who now ≡ (at, e) ∷ calls_of who old → more ≡ [] → ⊥
  not_same who at e old now more is own none =
      let same : now ≡ old = is ∙ ap (λ l. l ++ old) none in
      let n : length (calls_of who old) ≡ length (calls_of who old) + 1 = ap length (ap (calls_of who) (sym same) ∙ own) ∙ plus (length (calls_of who old)) in
      absurd (omega (arith, n))
    where
      plus : (n : ℕ) → suc n ≡ n + 1
      plus n = omega arith

  told_by : (q : Bool) (who : ℕ) (c : Seen M C R) (floor : ℕ) (call : C) (p : Placed R) (now : List (Entry C R)) → IsEarlier c.shown now → p.reply ≡ answer c.made (before p.at now) call
      → calls_of who now ≡ (if q then calls_of who c.shown else (p.at, entry who call p.reply) ∷ calls_of who c.shown) → MatchBool q (p.at ≡ length now) ((p.at + 1 ≡ length now) × (entry_at p.at now ≡ Some (entry who call p.reply)))
      → floor ≤ p.at → c.least ≤ p.at → IsToldOver (answer c.made) c.shown now c.least floor call p
  told_by true who c floor call p now grows answered own stands late high = record {
    exists = omega (arith, stands);
    answered = answered;
    behind = (let l = length-append grows.0 c.shown in let n = ap length grows.1 in omega (arith, stands, l, n));
    late = late;
    high = high;
  }
  told_by false who c floor call p now grows answered own stands late high = record {
    exists = (let e = stands.0 in omega (arith, e));
    answered = answered;
    behind = longer_by grows.0 c.shown p.at (stands.0 ∙ ap length grows.1) (not_same who p.at (entry who call p.reply) c.shown now grows.0 grows.1 own);
    late = late;
    high = high;
  }

  told_over : (who : ℕ) (c : Seen M C R) (floor : ℕ) (call : C) (p : Placed R) (now : List (Entry C R)) → IsEarlier c.shown now → IsTold answer quiet who c floor call p.at p.reply now → IsToldOver (answer c.made) c.shown now c.least floor call p
  told_over who c floor call p now grows t = told_by (quiet p.reply) who c floor call p now grows t.answered t.own t.stands t.late t.high

module _ (w : Whole) where
  pub tried_told : (s : Sight) (ask : Ask) (told : Told) (t : Sight) → AreCellsOf w (frame_of s) → MayAsk s ask → IsTried s ask (Some told) t → IsToldBy w (frame_of s) (shown_journal s) (shown_journal t) ask told
  tried_told s (Owner call) (FromOwner p) t cells may a =
      subst (λ (u : Sight). IsToldBy w (frame_of s) (shown_journal s) (shown_journal u) (Owner call) (FromOwner p)) (sym a.after) (told_over owner_reply never_quiet s.who s.owner 0 call p a.shown a.grows a.tells)
  tried_told s (Owner call) NoMemory t cells may a = tt
  tried_told s (Owner call) (FromQueue p) t cells may a = absurd a
  tried_told s (Owner call) (FromMember p) t cells may a = absurd a
  tried_told s (Queue k call) (FromQueue p) t cells may a =
      let c = a.cell in
      let made : c.made ≡ w.board.queue_size = cells.queues k (shows [] c) (framed s.queues k c a.here) in
      let x : IsToldOver (queue_answer c.made) c.shown a.shown c.least 0 call p = told_over queue_answer is_quiet_reply s.who c 0 call p a.shown a.grows a.tells in
      let old : queue_shown s k ≡ c.shown = ap shown_of a.here in
      let least : queue_least (frame_of s) k ≡ c.least = ap least_of (framed s.queues k c a.here) in
      let new : queue_shown t k ≡ a.shown = ap (λ (u : Sight). queue_shown u k) a.after ∙ ap shown_of (set_at s.queues k c (shows a.shown c) a.here) in
      over_as made (sym old) (sym new) (sym least) x
    where
      over_as : {call : RingCall} {p : Placed RingReply} {m n l l' : ℕ} {h h' g g' : List RingEntry} → m ≡ n → h ≡ h' → g ≡ g' → l ≡ l' → IsToldOver (queue_answer m) h g l 0 call p → IsToldOver (queue_answer n) h' g' l' 0 call p
      over_as {call} {p} a b c d x = subst (λ (z : ℕ × List RingEntry × List RingEntry × ℕ). IsToldOver (queue_answer z.0) z.1 z.2 z.3 0 call p) (λ i. (a i, b i, c i, d i)) x
  tried_told s (Queue k call) NoMemory t cells may a = tt
  tried_told s (Queue k call) (FromOwner p) t cells may a = absurd a
  tried_told s (Queue k call) (FromMember p) t cells may a = absurd a
  tried_told s (Member zero floor call) (FromMember p) t cells may a = absurd (let low = may.0 in omega (arith, low))
  tried_told s (Member (suc m) floor call) (FromMember p) t cells may a =
      let c = a.cell in
      let back : suc m - 1 ≡ m = omega arith in
      let here : slice_get s.members m ≡ Some c = ap (slice_get s.members) (sym back) ∙ a.here in
      let next : m + 1 ≡ suc m = omega arith in
      let made : c.made ≡ made_of w (suc m) = cells.members m (shows [] c) (framed s.members m c here) ∙ ap (made_of w) next in
      let x : IsToldOver (member_answer c.made) c.shown a.shown c.least floor call p = told_over member_answer never_quiet s.who c floor call p a.shown a.grows a.tells in
      let old : member_shown s (suc m) ≡ c.shown = ap shown_of here in
      let least : member_least (frame_of s) (suc m) ≡ c.least = ap least_of (framed s.members m c here) in
      let new : member_shown t (suc m) ≡ a.shown = ap (λ (u : Sight). member_shown u (suc m)) a.after ∙ (ap (λ (k : ℕ). shown_of (slice_get (slice_set s.members k (shows a.shown c)) m)) back ∙ ap shown_of (set_at s.members m c (shows a.shown c) here)) in
      subst (λ (z : MemberMade × List MemberEntry × List MemberEntry × ℕ). IsToldOver (member_answer z.0) z.1 z.2 z.3 floor call p) (λ i. (made i, sym old i, sym new i, sym least i)) x
  tried_told s (Member m floor call) NoMemory t cells may a = tt
  tried_told s (Member m floor call) (FromOwner p) t cells may a = absurd a
  tried_told s (Member m floor call) (FromQueue p) t cells may a = absurd a

  -- ---- the cells' histories are legal

  few : IsScript w → members_of w ≤ 16
  few script = script.few_guests

  legal_queues : (qs : List QueueSeen) (k : ℕ) → ((c : QueueSeen) → slice_get qs k ≡ Some c → IsSoundQueue c) → ((c : QueueSeen) → slice_get (map (shows []) qs) k ≡ Some c → c.made ≡ w.board.queue_size)
      → IsLegalQueue w.board.queue_size (shown_of (slice_get qs k)) × (length (shown_of (slice_get qs k)) ≤ history_limit)
  legal_queues qs k sound made = go (slice_get qs k) refl
    where
      go : (o : Option QueueSeen) → slice_get qs k ≡ o → IsLegalQueue w.board.queue_size (shown_of o) × (length (shown_of o) ≤ history_limit)
      go None is = (tt, omega arith)
      go (Some c) is = let x = sound c is in (subst (λ (n : ℕ). IsLegalQueue n c.shown) (made (shows [] c) (framed qs k c is)) x.legal, x.most)

  legal_members : (ms : List MemberSeen) (k : ℕ) → ((c : MemberSeen) → slice_get ms k ≡ Some c → IsSoundMember c) → ((c : MemberSeen) → slice_get (map (shows []) ms) k ≡ Some c → c.made ≡ made_of w (k + 1))
      → IsLegalMember (made_of w (suc k)) (shown_of (slice_get ms k)) × (length (shown_of (slice_get ms k)) ≤ history_limit)
  legal_members ms k sound made = go (slice_get ms k) refl
    where
      next : k + 1 ≡ suc k
      next = omega arith

      go : (o : Option MemberSeen) → slice_get ms k ≡ o → IsLegalMember (made_of w (suc k)) (shown_of o) × (length (shown_of o) ≤ history_limit)
      go None is = (tt, omega arith)
      go (Some c) is = let x = sound c is in (subst (λ (n : MemberMade). IsLegalMember n c.shown) (made (shows [] c) (framed ms k c is) ∙ ap (made_of w) next) x.legal, x.most)

  member_legal : (t : Sight) (m : ℕ) → AreCellsOf w (frame_of t) → IsSoundSight t → IsLegalMember (made_of w m) (member_shown t m) × (length (member_shown t m) ≤ history_limit)
  member_legal t zero cells sound = (tt, omega arith)
  member_legal t (suc m) cells sound = legal_members t.members m (sound.members m) (cells.members m)

  pub all_legal : (t : Sight) → AreCellsOf w (frame_of t) → IsSoundSight t → AreLegal w (shown_journal t)
  all_legal t cells sound = record {
    owner = subst (λ (n : ℕ). IsLegalOwner n t.owner.shown) cells.owner sound.owner.legal;
    queue = λ k. (legal_queues t.queues k (sound.queues k) (cells.queues k)).0;
    member = λ m. (member_legal t m cells sound).0;
  }

  -- ---- answers

  before_length : {E : Type 0} (h : List E) (p : ℕ) → p ≤ length h → length (before p h) ≡ p
  before_length [] p low = omega arith
  before_length (e ∷ past) p low = let r = before_length past p in grind (arith, nat_tests, r, low)

  reply_over : {C R : Type 0} (answer : List (Entry C R) → C → R) (quiet : R → Bool) (may : ℕ → C → Type 0) (old now : List (Entry C R)) (least floor : ℕ) (call : C) (p : Placed R) → IsLegal answer quiet may now → length now ≤ history_limit → IsToldOver answer old now least floor call p
      → IsReplyOver answer (IsLegal answer quiet may) call p
  reply_over answer quiet may old now least floor call p legal most t =
      let e = before_earlier now p.at in
      let low = t.exists in
      record {
        history = before p.at now;
        legal = legal_earlier answer quiet may e.0 (before p.at now) (subst (IsLegal answer quiet may) e.1 legal);
        place = sym (before_length now p.at low);
        most = omega (arith, low, most);
        reply = t.answered;
      }

  pub tried_answers : (script : IsScript w) (s : Sight) (ask : Ask) (told : Told) (t : Sight) → AreCellsOf w (frame_of s) → MayAsk s ask → IsTried s ask (Some told) t → IsSoundSight t → AnswersAsk ask told
  tried_answers script s ask told t cells may a sound =
      let still : AreCellsOf w (frame_of t) = subst (AreCellsOf w) (sym (tried_frame s ask (Some told) t a)) cells in
      go ask told may (tried_told s ask told t cells may a) (all_legal t still sound) still a
    where
      member_there : (id : ℕ) → (1 ≤ id) × ((c : MemberSeen) × (slice_get s.members (id - 1) ≡ Some c) × Unit {0}) → IsGuestOf w id
      member_there id may = let low = may.0 in let n = slice_get_within s.members (id - 1) may.1.0 may.1.1 in let all = cells.as_many_members in let len = length-map s.members (shows {M = MemberMade} {C = MemberCall} {R = MemberReply} []) in (low, omega (arith, low, n, all, len))

      go : (ask : Ask) (told : Told) → MayAsk s ask → IsToldBy w (frame_of s) (shown_journal s) (shown_journal t) ask told → AreLegal w (shown_journal t) → AreCellsOf w (frame_of t) → IsTried s ask (Some told) t → AnswersAsk ask told
      go (Owner call) (FromOwner p) may t1 legal still a = (members_of w, reply_over owner_answer never_quiet (owner_may (members_of w)) s.owner.shown t.owner.shown s.owner.least 0 call p legal.owner sound.owner.most t1)
      go (Owner call) NoMemory may t1 legal still a = tt
      go (Owner call) (FromQueue p) may t1 legal still a = absurd a
      go (Owner call) (FromMember p) may t1 legal still a = absurd a
      go (Queue k call) (FromQueue p) may t1 legal still a = (w.board.queue_size, script.board.queue_size, reply_over (queue_answer w.board.queue_size) is_quiet_reply (queue_may w.board.queue_size) (queue_shown s k) (queue_shown t k) (queue_least (frame_of s) k) 0 call p (legal.queue k) (legal_queues t.queues k (sound.queues k) (still.queues k)).1 t1)
      go (Queue k call) NoMemory may t1 legal still a = a.1
      go (Queue k call) (FromOwner p) may t1 legal still a = absurd a
      go (Queue k call) (FromMember p) may t1 legal still a = absurd a
      go (Member m floor call) (FromMember p) may t1 legal still a = (made_of w m, is_made w script m (member_there m (may.0, (may.1.0, may.1.1, tt))), reply_over (member_answer (made_of w m)) never_quiet (member_may (made_of w m)) (member_shown s m) (member_shown t m) (member_least (frame_of s) m) floor call p (legal.member m) (member_legal t m still sound).1 t1)
      go (Member m floor call) NoMemory may t1 legal still a = tt
      go (Member m floor call) (FromOwner p) may t1 legal still a = absurd a
      go (Member m floor call) (FromQueue p) may t1 legal still a = absurd a

-- ---- one try after another

module _ {C R : Type 0} where
  assoc : (xs ys zs : List (Entry C R)) → xs ++ (ys ++ zs) ≡ (xs ++ ys) ++ zs
  assoc [] ys zs = refl
  assoc (x ∷ xs) ys zs = ap (λ l. x ∷ l) (assoc xs ys zs)

  pub earlier_then : (a b c : List (Entry C R)) → IsEarlier a b → IsEarlier b c → IsEarlier a c
  earlier_then a b c (xs, p) (ys, r) = (ys ++ xs, r ∙ (ap (λ l. ys ++ l) p ∙ assoc ys xs a))

  longer_then : (who : ℕ) (left : Option (ℕ × Entry C R)) (a b c : List (Entry C R)) → IsLonger who None a b → IsLonger who left b c → IsLonger who left a c
  longer_then who left a b c x y = record { grows = earlier_then a b c x.grows y.grows; own = y.own ∙ ap (and_left left) x.own }

  pub no_shorter : (a b : List (Entry C R)) → IsEarlier a b → length a ≤ length b
  no_shorter a b (more, is) = let l = length-append more a in let n = ap length is in omega (arith, l, n)

pub seen_then : (who : ℕ) (o : Option (ℕ × OwnerEntry)) (q : ℕ → Option (ℕ × RingEntry)) (m : ℕ → Option (ℕ × MemberEntry)) (i j k : Journal) → AreSeenOn who i j → AreLonger who o q m j k → AreLonger who o q m i k
seen_then who o q m i j k a b = record {
  owner = longer_then who o i.owner j.owner k.owner a.owner b.owner;
  queue = λ n. longer_then who (q n) (i.queue n) (j.queue n) (k.queue n) (a.queue n) (b.queue n);
  member = λ n. longer_then who (m n) (i.member n) (j.member n) (k.member n) (a.member n) (b.member n);
}

pub not_yet : (who : ℕ) (j : Journal) → AreSeenOn who j j
not_yet who j = record { owner = still who j.owner; queue = λ k. still who (j.queue k); member = λ m. still who (j.member m) }

over_then : {C R : Type 0} (answer : List (Entry C R) → C → R) (a b c : List (Entry C R)) (least floor : ℕ) (call : C) (p : Placed R) → IsEarlier a b → IsToldOver answer b c least floor call p → IsToldOver answer a c least floor call p
over_then answer a b c least floor call p e t = record { exists = t.exists; answered = t.answered; behind = (let n = no_shorter a b e in let h = t.behind in omega (arith, n, h)); late = t.late; high = t.high }

pub told_then : (w : Whole) (f : Sight) (who : ℕ) (i j k : Journal) (ask : Ask) (told : Told) → AreSeenOn who i j → IsToldBy w f j k ask told → IsToldBy w f i k ask told
told_then w f who i j k (Owner call) (FromOwner p) a t = over_then owner_answer i.owner j.owner k.owner f.owner.least 0 call p a.owner.grows t
told_then w f who i j k (Owner call) (FromQueue p) a t = tt
told_then w f who i j k (Owner call) (FromMember p) a t = tt
told_then w f who i j k (Owner call) NoMemory a t = tt
told_then w f who i j k (Queue n call) (FromQueue p) a t = over_then (queue_answer w.board.queue_size) (i.queue n) (j.queue n) (k.queue n) (queue_least f n) 0 call p (a.queue n).grows t
told_then w f who i j k (Queue n call) (FromOwner p) a t = tt
told_then w f who i j k (Queue n call) (FromMember p) a t = tt
told_then w f who i j k (Queue n call) NoMemory a t = tt
told_then w f who i j k (Member m floor call) (FromMember p) a t = over_then (member_answer (made_of w m)) (i.member m) (j.member m) (k.member m) (member_least f m) floor call p (a.member m).grows t
told_then w f who i j k (Member m floor call) (FromOwner p) a t = tt
told_then w f who i j k (Member m floor call) (FromQueue p) a t = tt
told_then w f who i j k (Member m floor call) NoMemory a t = tt
