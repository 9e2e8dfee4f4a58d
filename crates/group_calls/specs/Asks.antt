-- When an answer fits an ask. Of this project.
use Rattle.std.specs.Prelude.{◌≡◌, ℕ, ◌≤◌, false, List, [], ◌∷◌, length}
use Rattle.history.specs.declared.entry.Entry.{Entry}
use Rattle.history.specs.declared.entry.Placed.{Placed}
use Rattle.history.specs.Limits.{history_limit}
use Rattle.group_calls.specs.declared.owner.OwnerCall.{OwnerCall}
use Rattle.group_calls.specs.declared.owner.OwnerReply.{OwnerReply}
use Rattle.group_calls.specs.declared.queue.RingCall.{RingCall}
use Rattle.group_calls.specs.declared.queue.RingReply.{RingReply}
use Rattle.group_calls.specs.declared.member.MemberMade.{MemberMade}
use Rattle.group_calls.specs.declared.member.MemberCall.{MemberCall}
use Rattle.group_calls.specs.declared.member.MemberReply.{MemberReply}
use Rattle.group_calls.specs.declared.ask.Ask.{Ask}
use Rattle.group_calls.specs.declared.ask.Ask.TheVariants.{Owner, Queue, Member}
use Rattle.group_calls.specs.declared.ask.Told.{Told}
use Rattle.group_calls.specs.declared.ask.Told.TheVariants.{Owner as FromOwner, Queue as FromQueue, Member as FromMember, NoMemory}
use Rattle.group_calls.specs.Owner.{owner_answer, IsLegalOwner}
use Rattle.group_calls.specs.Queue.{queue_answer, IsQueueSize, IsLegalQueue, takes_none}
use Rattle.group_calls.specs.Member.{member_answer, IsMemberMade, IsLegalMember}

-- ---- replies

-- the reply to a call over some legal history of an object, at the history's end
pub record IsReplyOver {C R : Type 0} (answer : List (Entry C R) → C → R) (IsLegalHere : List (Entry C R) → Type 0) (call : C) (placed : Placed R) : Type 0 where
  pub history : List (Entry C R)
  pub legal : IsLegalHere history
  pub place : placed.at ≡ length history
  pub most : placed.at ≤ history_limit
  pub reply : placed.reply ≡ answer history call

-- of an owner that was made for so many members, of a queue of a size, and of a member
abbrev pub IsOwnerReply : ℕ → OwnerCall → Placed OwnerReply → Type 0
IsOwnerReply members call placed = IsReplyOver owner_answer (IsLegalOwner members) call placed

abbrev pub IsQueueReply : ℕ → RingCall → Placed RingReply → Type 0
IsQueueReply size call placed = IsReplyOver (queue_answer size) (IsLegalQueue size) call placed

abbrev pub IsMemberReply : MemberMade → MemberCall → Placed MemberReply → Type 0
IsMemberReply made call placed = IsReplyOver (member_answer made) (IsLegalMember made) call placed

-- ---- answers to asks

-- want of memory answers every ask but Pop, Complete and Take; else the answer is of the ask's kind, and some such cell gives it
abbrev pub AnswersAsk : Ask → Told → Type 0
AnswersAsk (Owner call) (FromOwner placed) = (members : ℕ) × IsOwnerReply members call placed
AnswersAsk (Queue index call) (FromQueue placed) = (size : ℕ) × IsQueueSize size × IsQueueReply size call placed
AnswersAsk (Member id floor call) (FromMember placed) = (made : MemberMade) × IsMemberMade made × IsMemberReply made call placed
AnswersAsk (Queue index call) NoMemory = takes_none call ≡ false
AnswersAsk (Owner call) NoMemory = Unit {0}
AnswersAsk (Member id floor call) NoMemory = Unit {0}
AnswersAsk ask told = ⊥

-- ---- exchanges

-- an ask and its answer
abbrev pub Exchange : Type 0
Exchange = Ask × Told

-- each ask of a list has an answer that fits it
abbrev pub AreAnswered : List Exchange → Type 0
AreAnswered [] = Unit {0}
AreAnswered (x ∷ past) = AnswersAsk x.0 x.1 × AreAnswered past
