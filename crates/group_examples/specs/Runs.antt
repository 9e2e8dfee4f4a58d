-- Examples: calls in order, each with the reply that is expected. Of this project.
use Rattle.std.specs.Prelude.{◌≡◌, ℕ, Bool, List, [], ◌∷◌, map, if◌then◌else◌}
use Rattle.history.specs.declared.entry.Entry.{Entry}
use Rattle.history.specs.Legal.{never_quiet}
use Rattle.group_calls.specs.declared.owner.OwnerCall.{OwnerCall}
use Rattle.group_calls.specs.declared.owner.OwnerReply.{OwnerReply}
use Rattle.group_calls.specs.declared.queue.RingCall.{RingCall}
use Rattle.group_calls.specs.declared.queue.RingReply.{RingReply}
use Rattle.group_calls.specs.declared.member.MemberMade.{MemberMade}
use Rattle.group_calls.specs.declared.member.MemberCall.{MemberCall}
use Rattle.group_calls.specs.declared.member.MemberReply.{MemberReply}
use Rattle.group_calls.specs.declared.lone.LoneEvent.{LoneEvent}
use Rattle.group_calls.specs.declared.lone.LoneReply.{LoneReply}
use Rattle.group_calls.specs.declared.lone.LoneItem.{LoneItem}
use Rattle.group_calls.specs.Owner.{owner_answer}
use Rattle.group_calls.specs.Queue.{queue_answer, is_quiet_reply}
use Rattle.group_calls.specs.Member.{member_answer}
use Rattle.group_calls.specs.Lone.{lone_reply}

-- what calls are answered, one after another, where each leaves its entry unless its reply is quiet
abbrev pub replies_after : {C R : Type 0} → (List (Entry C R) → C → R) → (R → Bool) → List (Entry C R) → List C → List R
replies_after answer is_quiet past [] = []
replies_after answer is_quiet past (c ∷ calls) =
    let r = answer past c in
    r ∷ replies_after answer is_quiet (if is_quiet r then past else record { who = 0; call = c; reply = r } ∷ past) calls

-- the first call of each pair is answered by the second of it
abbrev pub Answers : {C R : Type 0} → (List (Entry C R) → C → R) → (R → Bool) → List (C × R) → Type 0
Answers answer is_quiet example = replies_after answer is_quiet [] (map (λ x. x.0) example) ≡ map (λ x. x.1) example

abbrev pub OwnerAnswers : List (OwnerCall × OwnerReply) → Type 0
OwnerAnswers example = Answers owner_answer never_quiet example

-- a queue of so many entries
abbrev pub QueueAnswers : ℕ → List (RingCall × RingReply) → Type 0
QueueAnswers size example = Answers (queue_answer size) is_quiet_reply example

abbrev pub MemberAnswers : MemberMade → List (MemberCall × MemberReply) → Type 0
MemberAnswers made example = Answers (member_answer made) never_quiet example

-- several runs, each of a device of its own
abbrev pub EachAnswers : MemberMade → List (List (MemberCall × MemberReply)) → Type 0
EachAnswers made examples = map (λ example. replies_after (member_answer made) never_quiet [] (map (λ x. x.0) example)) examples ≡ map (λ example. map (λ x. x.1) example) examples

abbrev pub device_replies : MemberMade → List LoneItem → List LoneEvent → List LoneReply
device_replies made past [] = []
device_replies made past (e ∷ events) =
    let r = lone_reply made past e in
    r ∷ device_replies made (record { event = e; reply = r } ∷ past) events

-- a device that is attached directly
abbrev pub DeviceAnswers : MemberMade → List (LoneEvent × LoneReply) → Type 0
DeviceAnswers made example = device_replies made [] (map (λ x. x.0) example) ≡ map (λ x. x.1) example
