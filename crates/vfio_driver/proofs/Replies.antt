-- Which answers come to a Notify, a Post and a Take.
use Rattle.std.proofs.Common.{◌≡◌, ℕ, ◌/◌, Bool, true, false, List, length, Option, Some, None, sym, subst, if◌then◌else◌}
use Rattle.std.specs.Prelude.{IsSome, nat_le}
use Rattle.group_calls.specs.declared.ask.Ask.TheVariants.{Queue, Member}
use Rattle.group_calls.specs.declared.ask.Told.{Told}
use Rattle.group_calls.specs.declared.ask.Told.TheVariants.{Owner as FromOwner, Queue as FromQueue, Member as FromMember, NoMemory}
use Rattle.group_calls.specs.declared.queue.Tag.{Tag}
use Rattle.group_calls.specs.declared.queue.RingCall.TheVariants.{Post, Take}
use Rattle.group_calls.specs.declared.queue.RingReply.{RingReply}
use Rattle.group_calls.specs.declared.queue.RingReply.TheVariants.{Seq, Full, Closed, Ready, NotYet, Lost, Stale}
use Rattle.group_calls.specs.declared.member.MemberCall.{MemberCall}
use Rattle.group_calls.specs.Asks.{AnswersAsk}
use Rattle.group_calls.specs.Queue.{RingEntry, Posted, posted, outstanding, is_closed, is_old, closing_floor, is_taken, completion, command, post_answer, take_completed, take_posted, take_answer}

pub some_same : {A : Type 0} (x y : A) → Some x ≡ Some y → x ≡ y
some_same x y e = cc

pub is_some_next : {A : Type 0} (o : Option A) (y : A) → o ≡ Some y → IsSome o
is_some_next o y e = subst IsSome (sym e) (search)

-- both branches have it
pub either : {A : Type 0} (P : A → Type 0) (b : Bool) (x y : A) → P x → P y → P (if b then x else y)
either P true x y here there = here
either P false x y here there = there

-- ---- to a Notify

abbrev pub IsNotifyTold : Told → Type 0
IsNotifyTold (FromMember placed) = Unit {0}
IsNotifyTold NoMemory = Unit {0}
IsNotifyTold _ = ⊥

pub notify_told : (guest floor : ℕ) (call : MemberCall) (told : Told) → AnswersAsk (Member guest floor call) told → IsNotifyTold told
notify_told guest floor call (FromMember placed) answers = tt
notify_told guest floor call NoMemory answers = tt
notify_told guest floor call (FromOwner placed) answers = absurd answers
notify_told guest floor call (FromQueue placed) answers = absurd answers

-- ---- to a Post

abbrev pub IsPostReply : RingReply → Type 0
IsPostReply (Seq seq) = Unit {0}
IsPostReply Full = Unit {0}
IsPostReply (Closed floor) = Unit {0}
IsPostReply _ = ⊥

abbrev pub IsPostTold : Told → Type 0
IsPostTold (FromQueue placed) = IsPostReply placed.reply
IsPostTold NoMemory = Unit {0}
IsPostTold _ = ⊥

post_kind : (size : ℕ) (h : List RingEntry) (tag : Tag) → IsPostReply (post_answer size h tag)
post_kind size h tag =
    let last = if nat_le (size / 2) (length (outstanding h)) then Full else Seq (length (posted h)) in
    either IsPostReply (is_closed h) (Closed (closing_floor h tag.guest)) last tt
    (either IsPostReply (nat_le (size / 2) (length (outstanding h))) Full (Seq (length (posted h))) tt tt)

pub post_told : (queue : ℕ) (bytes : List ℕ) (writable : ℕ) (tag : Tag) (told : Told) → AnswersAsk (Queue queue (Post bytes writable tag)) told → IsPostTold told
post_told queue bytes writable tag (FromQueue placed) answers =
    let over = answers.2 in
    subst IsPostReply (sym over.reply) (post_kind answers.0 over.history tag)
post_told queue bytes writable tag NoMemory answers = tt
post_told queue bytes writable tag (FromOwner placed) answers = absurd answers
post_told queue bytes writable tag (FromMember placed) answers = absurd answers

-- ---- to a Take

abbrev pub IsTakeReply : RingReply → Type 0
IsTakeReply (Ready bytes floor) = Unit {0}
IsTakeReply (Lost floor) = Unit {0}
IsTakeReply NotYet = Unit {0}
IsTakeReply Stale = Unit {0}
IsTakeReply _ = ⊥

abbrev pub IsTakeTold : Told → Type 0
IsTakeTold (FromQueue placed) = IsTakeReply placed.reply
IsTakeTold _ = ⊥

completed_kind : (h : List RingEntry) (p : Posted) (o : Option (List ℕ × ℕ)) → IsTakeReply (take_completed h p o)
completed_kind h p (Some c) = tt
completed_kind h p None = either IsTakeReply (is_old h p.seq) (Lost (closing_floor h p.tag.guest)) NotYet tt tt

posted_kind : (h : List RingEntry) (o : Option Posted) → IsTakeReply (take_posted h o)
posted_kind h None = tt
posted_kind h (Some p) = either IsTakeReply (is_taken h p.seq) Stale (take_completed h p (completion h p.seq)) tt (completed_kind h p (completion h p.seq))

take_kind : (h : List RingEntry) (seq : ℕ) → IsTakeReply (take_answer h seq)
take_kind h seq = posted_kind h (command h seq)

pub take_told : (queue seq : ℕ) (told : Told) → AnswersAsk (Queue queue (Take seq)) told → IsTakeTold told
take_told queue seq (FromQueue placed) answers =
    let over = answers.2 in
    subst IsTakeReply (sym over.reply) (take_kind over.history seq)
take_told queue seq NoMemory answers = absurd (cc)
take_told queue seq (FromOwner placed) answers = absurd answers
take_told queue seq (FromMember placed) answers = absurd answers
