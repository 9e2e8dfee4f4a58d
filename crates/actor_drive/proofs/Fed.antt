-- One ask more, and its answer.
use Rattle.std.proofs.Common.{◌≡◌, ◌==◌, ℕ, ◌≤◌, ◌<◌, Bool, true, false, List, [], ◌∷◌, ◌++◌, length, Option, None, Some, IfSome, sym, refl, ap, ◌∙◌, subst, arith, length-append, All, append_assoc}
use Rattle.std.specs.Prelude.{filter_map, if◌then◌else◌}
use Rattle.std.proofs.lemmas.Bool.Decides.{nat_tests}
use Rattle.std.proofs.lemmas.List.Elements.{All-nil, All-cons, All-append}
use Rattle.history.specs.declared.entry.Entry.{Entry}
use Rattle.history.specs.declared.entry.Placed.{Placed}
use Rattle.history.specs.Places.{before, calls_of, IsEarlier}
use Rattle.history.specs.Legal.{IsLegal, never_quiet}
use Rattle.history.proofs.LegalLemmas.{legal_earlier, before_earlier, before-skip}
use Rattle.group_calls.specs.declared.ask.Ask.{Ask}
use Rattle.group_calls.specs.declared.ask.Ask.TheVariants.{Owner, Queue, Member}
use Rattle.group_calls.specs.declared.ask.Told.{Told}
use Rattle.group_calls.specs.declared.ask.Told.TheVariants.{Owner as FromOwner, Queue as FromQueue, Member as FromMember, NoMemory}
use Rattle.group_calls.specs.declared.queue.RingCall.{RingCall}
use Rattle.group_calls.specs.declared.queue.RingReply.{RingReply}
use Rattle.group_calls.specs.Asks.{Exchange, AnswersAsk}
use Rattle.group_calls.specs.Owner.{owner_answer, owner_may}
use Rattle.group_calls.specs.Queue.{RingEntry, queue_answer, queue_may, is_quiet_reply}
use Rattle.board_script.specs.Script.{Whole}
use Rattle.group_cells.specs.Cells.{Sight}
use Rattle.journal.specs.Lines.{members_of}
use Rattle.journal.specs.Cells.{left_in_owner, left_in_queue, left_in_member, left_if_loud, queue_part, entry_left}
use Rattle.journal.specs.Journals.{Journal, AreLegal, IsHeard, IsPlaced}
use Rattle.world_laws.proofs.Left.{places_below}
use Rattle.actor_core.specs.Kept.{is_answer}
use Rattle.actor_drive.specs.Bounds.{ToldNear}
use Rattle.actor_drive.specs.Shown.{queue_least, member_least}
use Rattle.actor_drive.specs.Told.{and_left, IsLonger, IsLeft, IsToldOver, IsToldBy}
use Rattle.actor_drive.specs.Driven.{AreLeft, AreHeard, IsAdded}
use Rattle.actor_drive.proofs.Bounds.{owner_tells, queue_tells}
use Rattle.actor_drive.proofs.Asked.{earlier_then, no_shorter}

-- ---- what an answer tells

module _ (w : Whole) where
  earlier_legal : {C R : Type 0} (answer : List (Entry C R) → C → R) (quiet : R → Bool) (may : ℕ → C → Type 0) (h : List (Entry C R)) (p : ℕ) → IsLegal answer quiet may h → IsLegal answer quiet may (before p h)
  earlier_legal answer quiet may h p legal = let e = before_earlier h p in legal_earlier answer quiet may e.0 (before p h) (subst (IsLegal answer quiet may) e.1 legal)

  pub told_near : (f : Sight) (j k : Journal) (ask : Ask) (told : Told) → AreLegal w k → AnswersAsk ask told → IsToldBy w f j k ask told → ToldNear w told
  told_near f j k (Owner call) (FromOwner p) legal a t = subst (λ r. ToldNear w (FromOwner record { at = p.at; reply = r })) (sym t.answered) (owner_tells w (before p.at k.owner) call (earlier_legal owner_answer never_quiet (owner_may (members_of w)) k.owner p.at legal.owner))
  told_near f j k (Owner call) (FromQueue p) legal a t = absurd a
  told_near f j k (Owner call) (FromMember p) legal a t = absurd a
  told_near f j k (Owner call) NoMemory legal a t = tt
  told_near f j k (Queue n call) (FromQueue p) legal a t = subst (λ r. ToldNear w (FromQueue record { at = p.at; reply = r })) (sym t.answered) (queue_tells w.board.queue_size (before p.at (k.queue n)) call (earlier_legal (queue_answer w.board.queue_size) is_quiet_reply (queue_may w.board.queue_size) (k.queue n) p.at (legal.queue n)))
  told_near f j k (Queue n call) (FromOwner p) legal a t = absurd a
  told_near f j k (Queue n call) (FromMember p) legal a t = absurd a
  told_near f j k (Queue n call) NoMemory legal a t = tt
  told_near f j k (Member m floor call) (FromMember p) legal a t = tt
  told_near f j k (Member m floor call) (FromOwner p) legal a t = absurd a
  told_near f j k (Member m floor call) (FromQueue p) legal a t = absurd a
  told_near f j k (Member m floor call) NoMemory legal a t = tt

  no_answer : {X : Type 0} → is_answer NoMemory ≡ true → X
  no_answer e = absurd (cc)

  pub told_placed : (f : Sight) (j k : Journal) (ask : Ask) (told : Told) → AnswersAsk ask told → is_answer told ≡ true → IsToldBy w f j k ask told → IsPlaced (ask, told)
  told_placed f j k (Owner call) (FromOwner p) a e t = tt
  told_placed f j k (Owner call) (FromQueue p) a e t = absurd a
  told_placed f j k (Owner call) (FromMember p) a e t = absurd a
  told_placed f j k (Owner call) NoMemory a e t = no_answer e
  told_placed f j k (Queue n call) (FromQueue p) a e t = tt
  told_placed f j k (Queue n call) (FromOwner p) a e t = absurd a
  told_placed f j k (Queue n call) (FromMember p) a e t = absurd a
  told_placed f j k (Queue n call) NoMemory a e t = no_answer e
  told_placed f j k (Member m floor call) (FromMember p) a e t = t.late
  told_placed f j k (Member m floor call) (FromOwner p) a e t = absurd a
  told_placed f j k (Member m floor call) (FromQueue p) a e t = absurd a
  told_placed f j k (Member m floor call) NoMemory a e t = no_answer e

-- ---- what the exchanges left

part_more : {C R : Type 0} (f : Exchange → Option (ℕ × Entry C R)) (x : Exchange) (asked : List Exchange) → and_left (f x) (filter_map f asked) ≡ filter_map f (x ∷ asked)
part_more {C} {R} f x asked = by (f x) refl
  where
    by : (o : Option (ℕ × Entry C R)) → f x ≡ o → and_left (f x) (filter_map f asked) ≡ filter_map f (x ∷ asked)
    by None e = rw e refl
    by (Some y) e = rw e refl

pub left_more : (who : ℕ) (ask : Ask) (told : Told) (asked : List Exchange) (j k : Journal) → IsLeft who ask told j k → AreLeft who asked j → AreLeft who ((ask, told) ∷ asked) k
left_more who ask told asked j k a l = record {
  owner = sym (part_more (left_in_owner who) (ask, told) asked) ∙ (ap (and_left (left_in_owner who (ask, told))) l.owner ∙ sym a.owner.own);
  queue = λ n. sym (part_more (left_in_queue who n) (ask, told) asked) ∙ (ap (and_left (left_in_queue who n (ask, told))) (l.queue n) ∙ sym (a.queue n).own);
  member = λ m. sym (part_more (left_in_member who m) (ask, told) asked) ∙ (ap (and_left (left_in_member who m (ask, told))) (l.member m) ∙ sym (a.member m).own);
}

-- ---- what was heard

before_on : {E : Type 0} (more old : List E) (p : ℕ) → p ≤ length old → before p (more ++ old) ≡ before p old
before_on [] old p low = refl
before_on (x ∷ more) old p low = before-skip x (more ++ old) p (let l = length-append more old in omega (arith, low, l)) ∙ before_on more old p low

before_still : {E : Type 0} (old new : List E) (p : ℕ) → IsEarlier old new → p ≤ length old → before p new ≡ before p old
before_still old new p (more, is) low = ap (before p) is ∙ before_on more old p low

module _ (w : Whole) (f : Sight) (who : ℕ) (ask : Ask) (told : Told) (asked : List Exchange) (j k : Journal) (left : IsLeft who ask told j k) (by : IsToldBy w f j k ask told) where
  -- the new entry, if any, stands behind all that was shown
  new_behind : (n : ℕ) → IfSome (left_in_queue who n (ask, told)) (λ e. length (j.queue n) ≤ e.0)
  new_behind n = go ask told by
    where
      loudly : (b : Bool) (e : ℕ × RingEntry) → length (j.queue n) ≤ e.0 → IfSome (if b then None else Some e) (λ e. length (j.queue n) ≤ e.0)
      loudly true e h = tt
      loudly false e h = h

      here : (i : ℕ) (b : Bool) (call : RingCall) (p : Placed RingReply) → (i == n) ≡ b → IsToldOver (queue_answer w.board.queue_size) (j.queue i) (k.queue i) (queue_least f i) 0 call p → IfSome (if b then left_if_loud who call p else None) (λ e. length (j.queue n) ≤ e.0)
      here i true call p is t = loudly (is_quiet_reply p.reply) (entry_left who call p) (let same : i ≡ n = grind (arith, nat_tests, is) in subst (λ (x : ℕ). length (j.queue x) ≤ p.at) same t.behind)
      here i false call p is t = tt

      go : (ask : Ask) (told : Told) → IsToldBy w f j k ask told → IfSome (left_in_queue who n (ask, told)) (λ e. length (j.queue n) ≤ e.0)
      go (Queue i call) (FromQueue p) t = here i (i == n) call p refl t
      go (Queue i call) (FromOwner p) t = tt
      go (Queue i call) (FromMember p) t = tt
      go (Queue i call) NoMemory t = tt
      go (Owner call) told t = tt
      go (Member m floor call) told t = tt

  all_more : (n at : ℕ) (later : List Exchange) → at ≤ length (j.queue n) → All (λ e. at ≤ e.0) (queue_part who n later) → All (λ e. at ≤ e.0) (queue_part who n ((ask, told) ∷ later))
  all_more n at later low all = subst (All (λ e. at ≤ e.0)) (part_more (left_in_queue who n) (ask, told) later) (go (left_in_queue who n (ask, told)) (new_behind n))
    where
      go : (o : Option (ℕ × RingEntry)) → IfSome o (λ e. length (j.queue n) ≤ e.0) → All (λ e. at ≤ e.0) (and_left o (queue_part who n later))
      go None h = all
      go (Some e) h = All-cons (λ (e : ℕ × RingEntry). at ≤ e.0) e (queue_part who n later) (omega (arith, low, h)) all

  heard_still : (n : ℕ) (call : RingCall) (p : Placed RingReply) (earlier later : List Exchange) → IsHeard w j n who call p earlier later → IsHeard w k n who call p earlier ((ask, told) ∷ later)
  heard_still n call p earlier later x =
      let grows = (left.queue n).grows in
      record {
        exists = (let l = no_shorter (j.queue n) (k.queue n) grows in let e = x.exists in omega (arith, l, e));
        reply = x.reply ∙ ap (λ (h : List RingEntry). queue_answer w.board.queue_size h call) (sym (before_still (j.queue n) (k.queue n) p.at grows x.exists));
        behind = x.behind;
        before_others = all_more n p.at later x.exists x.before_others;
      }

  heard_now : (recorded : (n : ℕ) → queue_part who n asked ≡ calls_of who (j.queue n)) (n : ℕ) (call : RingCall) (p : Placed RingReply) → ◌≡◌ {A = Exchange} (ask, told) (Queue n call, FromQueue p) → IsHeard w k n who call p asked []
  heard_now recorded n call p is =
      let t : IsToldOver (queue_answer w.board.queue_size) (j.queue n) (k.queue n) (queue_least f n) 0 call p = subst (λ (x : Exchange). IsToldBy w f j k x.0 x.1) is by in
      record {
        exists = t.exists;
        reply = t.answered;
        behind = subst (All (λ e. e.0 < p.at)) (sym (recorded n)) (places_below who (j.queue n) p.at t.behind);
        before_others = All-nil (λ (e : ℕ × RingEntry). p.at ≤ e.0);
      }

  pub heard_more : AreLeft who asked j → AreHeard w j who asked → AreHeard w k who ((ask, told) ∷ asked)
  heard_more recorded heard n call p [] earlier is =
      let head : ◌≡◌ {A = Exchange} (ask, told) (Queue n call, FromQueue p) = cc in
      let rest : asked ≡ earlier = cc in
      subst (λ (l : List Exchange). IsHeard w k n who call p l []) rest (heard_now recorded.queue n call p head)
  heard_more recorded heard n call p (z ∷ later) earlier is =
      let head : ◌≡◌ {A = Exchange} (ask, told) z = cc in
      let rest : asked ≡ later ++ (Queue n call, FromQueue p) ∷ earlier = cc in
      subst (λ (y : Exchange). IsHeard w k n who call p earlier (y ∷ later)) head (heard_still n call p earlier later (heard n call p later earlier rest))

-- ---- further on

module _ {C R : Type 0} where
  pub added_none : (who least : ℕ) (h : List (Entry C R)) → IsAdded who least h h
  added_none who least h = record { grows = ([], refl); news = []; own = refl; high = All-nil (λ (e : ℕ × Entry C R). least ≤ e.0) }

  pub added_then : (who least : ℕ) (a b c : List (Entry C R)) → IsAdded who least a b → IsAdded who least b c → IsAdded who least a c
  added_then who least a b c x y = record {
    grows = earlier_then a b c x.grows y.grows;
    news = y.news ++ x.news;
    own = y.own ∙ (ap (λ l. y.news ++ l) x.own ∙ sym (append_assoc y.news x.news (calls_of who a)));
    high = All-append (λ (e : ℕ × Entry C R). least ≤ e.0) y.news x.news y.high x.high;
  }

  added_one : (who least : ℕ) (left : Option (ℕ × Entry C R)) (a b : List (Entry C R)) → IsLonger who left a b → IfSome left (λ e. least ≤ e.0) → IsAdded who least a b
  added_one who least None a b x h = record { grows = x.grows; news = []; own = x.own; high = All-nil (λ (e : ℕ × Entry C R). least ≤ e.0) }
  added_one who least (Some e) a b x h = record { grows = x.grows; news = e ∷ []; own = x.own; high = All-cons (λ (e : ℕ × Entry C R). least ≤ e.0) e [] h (All-nil (λ (e : ℕ × Entry C R). least ≤ e.0)) }

module _ (w : Whole) (f : Sight) (who : ℕ) (j k : Journal) where
  owner_high : (ask : Ask) (told : Told) → IsToldBy w f j k ask told → IfSome (left_in_owner who (ask, told)) (λ e. f.owner.least ≤ e.0)
  owner_high (Owner call) (FromOwner p) t = t.high
  owner_high (Owner call) (FromQueue p) t = tt
  owner_high (Owner call) (FromMember p) t = tt
  owner_high (Owner call) NoMemory t = tt
  owner_high (Queue n call) told t = tt
  owner_high (Member m floor call) told t = tt

  queue_high : (n : ℕ) (ask : Ask) (told : Told) → IsToldBy w f j k ask told → IfSome (left_in_queue who n (ask, told)) (λ e. queue_least f n ≤ e.0)
  queue_high n (Queue i call) (FromQueue p) t = here (i == n) refl
    where
      loudly : (b : Bool) (e : ℕ × RingEntry) → queue_least f n ≤ e.0 → IfSome (if b then None else Some e) (λ e. queue_least f n ≤ e.0)
      loudly true e h = tt
      loudly false e h = h

      here : (b : Bool) → (i == n) ≡ b → IfSome (if b then left_if_loud who call p else None) (λ e. queue_least f n ≤ e.0)
      here true is = loudly (is_quiet_reply p.reply) (entry_left who call p) (let same : i ≡ n = grind (arith, nat_tests, is) in subst (λ (x : ℕ). queue_least f x ≤ p.at) same t.high)
      here false is = tt
  queue_high n (Queue i call) (FromOwner p) t = tt
  queue_high n (Queue i call) (FromMember p) t = tt
  queue_high n (Queue i call) NoMemory t = tt
  queue_high n (Owner call) told t = tt
  queue_high n (Member m floor call) told t = tt

  member_high : (n : ℕ) (ask : Ask) (told : Told) → IsToldBy w f j k ask told → IfSome (left_in_member who n (ask, told)) (λ e. member_least f n ≤ e.0)
  member_high n (Member m floor call) (FromMember p) t = here (m == n) refl
    where
      here : (b : Bool) → (m == n) ≡ b → IfSome (if b then Some (entry_left who call p) else None) (λ e. member_least f n ≤ e.0)
      here true is = let same : m ≡ n = grind (arith, nat_tests, is) in subst (λ (x : ℕ). member_least f x ≤ p.at) same t.high
      here false is = tt
  member_high n (Member m floor call) (FromOwner p) t = tt
  member_high n (Member m floor call) (FromQueue p) t = tt
  member_high n (Member m floor call) NoMemory t = tt
  member_high n (Owner call) told t = tt
  member_high n (Queue i call) told t = tt

  -- of one ask
  pub record AreAdded : Type 0 where
    pub owner : IsAdded who f.owner.least j.owner k.owner
    pub queue : (n : ℕ) → IsAdded who (queue_least f n) (j.queue n) (k.queue n)
    pub member : (n : ℕ) → IsAdded who (member_least f n) (j.member n) (k.member n)

  pub all_added : (ask : Ask) (told : Told) → IsLeft who ask told j k → IsToldBy w f j k ask told → AreAdded
  all_added ask told left t = record {
    owner = added_one who f.owner.least (left_in_owner who (ask, told)) j.owner k.owner left.owner (owner_high ask told t);
    queue = λ n. added_one who (queue_least f n) (left_in_queue who n (ask, told)) (j.queue n) (k.queue n) (left.queue n) (queue_high n ask told t);
    member = λ n. added_one who (member_least f n) (left_in_member who n (ask, told)) (j.member n) (k.member n) (left.member n) (member_high n ask told t);
  }
