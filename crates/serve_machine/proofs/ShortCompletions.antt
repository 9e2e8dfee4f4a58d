-- Completions are short.
use Rattle.std.proofs.Common.{◌≡◌, ℕ, ◌≤◌, Bool, true, false, cond, List, [], ◌∷◌, length, subst, arith, lit≤, length-append}
use Rattle.std.specs.Prelude.{◌==◌}
use Rattle.std.proofs.lemmas.List.{length-take, length-replicate}
use Rattle.byte_fields.specs.Places.{bytes_of}
use Rattle.byte_fields.proofs.Places.{length-bytes_of}
use Rattle.admin_wire.specs.Numbers.{ok, enomem, einval, unqualified, invalid_field, invalid_member}
use Rattle.admin_wire.specs.Done.{done_of}
use Rattle.group_calls.specs.declared.ask.Ask.TheVariants.{Owner, Queue}
use Rattle.group_calls.specs.declared.ask.Told.{Told}
use Rattle.group_calls.specs.declared.ask.Told.TheVariants.{Owner as FromOwner, Queue as FromQueue, Member as FromMember, NoMemory}
use Rattle.group_calls.specs.declared.owner.OwnerCall.TheVariants.{Judge}
use Rattle.group_calls.specs.declared.owner.OwnerReply.{OwnerReply}
use Rattle.group_calls.specs.declared.owner.OwnerReply.TheVariants.{List as Listed, Used, Refused}
use Rattle.group_calls.specs.declared.queue.RingCall.TheVariants.{Complete}
use Rattle.group_calls.specs.declared.member.MemberReply.{MemberReply}
use Rattle.group_calls.specs.declared.member.MemberReply.TheVariants.{Data, Written, Info, Refused as RefusedIt, Gone}
use Rattle.group_calls.specs.Asks.{AnswersAsk, Exchange, AreAnswered}
use Rattle.group_calls.specs.Queue.{Posted}
use Rattle.serve_machine.specs.Completion.{info, owner_done, access_done, completed_with, completed_under}
use Rattle.serve_machine.specs.Grammar.{IsService, finds_nothing, is_decided, is_carried_out}
use Rattle.serve_machine.specs.Within.{IsShortReply, IsShort}
use Rattle.serve_machine.proofs.Short.{act_told}

-- ---- the bytes of a completion

result_short : (success : Bool) (payload : List ℕ) → length (cond success payload []) ≤ length payload
result_short true payload = omega arith
result_short false payload = omega arith

done_short : (status qualifier : ℕ) (payload : List ℕ) (writable : ℕ) → length payload ≤ 64 → length (done_of status qualifier payload writable) ≤ 72
done_short status qualifier payload writable few =
    let rest = result_short (status == ok) payload in
    simp (length-take, length-append, length-bytes_of, length-replicate) (omega (arith, rest, few))

owner_short : (writable : ℕ) (reply : OwnerReply) → length (owner_done writable reply) ≤ 72
owner_short writable (Listed bits) = done_short ok unqualified (bytes_of 8 bits) writable (simp length-bytes_of (lit≤ tt))
owner_short writable Used = done_short ok unqualified [] writable (lit≤ tt)
owner_short writable (Refused status qualifier floor) = done_short status qualifier [] writable (lit≤ tt)
owner_short writable _ = lit≤ tt

access_short : (writable : ℕ) (reply : MemberReply) → IsShortReply reply → length (access_done writable reply) ≤ 72
access_short writable (Data bytes) few = done_short ok unqualified bytes writable (omega (arith, few))
access_short writable Written few = done_short ok unqualified [] writable (lit≤ tt)
access_short writable Info few = done_short ok unqualified info writable (lit≤ tt)
access_short writable (RefusedIt why) few = done_short einval invalid_field [] writable (lit≤ tt)
access_short writable (Gone floor) few = done_short einval invalid_member [] writable (lit≤ tt)
access_short writable _ few = lit≤ tt

completed_short : (told : Told) (writable : ℕ) → IsShort told → length (completed_with told writable) ≤ 72
completed_short (FromOwner placed) writable few = owner_short writable placed.reply
completed_short (FromMember placed) writable few = access_short writable placed.reply few
completed_short NoMemory writable few = done_short enomem unqualified [] writable (lit≤ tt)
completed_short (FromQueue placed) writable few = lit≤ tt

-- ---- in a service

judge_told : (bytes : List ℕ) (writable : ℕ) (told : Told) → AnswersAsk (Owner (Judge bytes writable)) told → IsShort told
judge_told bytes writable (FromMember placed) answers = absurd answers
judge_told bytes writable _ answers = tt

-- the latest completes with few bytes, if it completes
abbrev EndsShort : ℕ → List Exchange → Type 0
EndsShort k [] = Unit {0}
EndsShort k (complete ∷ past) = (seq floor : ℕ) (bytes : List ℕ) → complete.0 ≡ Queue k (Complete seq bytes floor) → length bytes ≤ 72

completes_short : (k : ℕ) (p : Posted) (told : Told) (complete : Exchange) → IsShort told → complete.0 ≡ Queue k (Complete p.seq (completed_with told p.writable) (completed_under p.tag.floor told))
    → (seq floor : ℕ) (bytes : List ℕ) → complete.0 ≡ Queue k (Complete seq bytes floor) → length bytes ≤ 72
completes_short k p told complete few rule seq floor bytes is =
    let same : completed_with told p.writable ≡ bytes = cc in
    subst (λ (bs : List ℕ). length bs ≤ 72) same (completed_short told p.writable few)

service_short : (k : ℕ) (xs : List Exchange) → AreAnswered xs → IsService k xs → EndsShort k xs
service_short k _ answered (finds_nothing pop is_pop nothing) = λ seq floor bytes is. absurd (cc)
service_short k _ answered (is_decided p pop judge complete is_pop finds is_judge passed is_complete) =
    completes_short k p judge.1 complete (judge_told p.bytes p.writable judge.1 (subst (λ ask. AnswersAsk ask judge.1) is_judge answered.1.0)) is_complete
service_short k _ answered (is_carried_out p to pop judge act complete is_pop finds is_judge passed is_act is_complete) =
    completes_short k p act.1 complete (act_told to.0 is_act.0 to.1 act.1 (subst (λ ask. AnswersAsk ask act.1) is_act.1 answered.1.0)) is_complete

pub ends_short : (k seq floor : ℕ) (bytes : List ℕ) (complete : Exchange) (past : List Exchange) → AreAnswered (complete ∷ past) × IsService k (complete ∷ past) → complete.0 ≡ Queue k (Complete seq bytes floor) → length bytes ≤ 72
ends_short k seq floor bytes complete past is asks = service_short k (complete ∷ past) is.0 is.1 seq floor bytes asks
