-- Which replies come to a Pop, to a Judge and to an Act; a refusal has the status EINVAL.
use Rattle.std.proofs.Common.{◌≡◌, refl, ℕ, Bool, List, Option, Some, None, sym, subst, if◌then◌else◌}
use Rattle.std.specs.Prelude.{◌==◌, ◌&&◌, nat_lt, nat_le, not}
use Rattle.admin_wire.specs.Command.{command_of}
use Rattle.admin_wire.specs.declared.numbers.TheConstants.{SR_IOV, LEGACY_NOTIFY_INFO}
use Rattle.admin_wire.specs.declared.command.Body.{Body}
use Rattle.admin_wire.specs.declared.command.Body.TheVariants.{Query, Use, Legacy as ToMember, Unknown}
use Rattle.admin_wire.specs.declared.command.LegacyCmd.{LegacyCmd}
use Rattle.admin_wire.specs.declared.command.LegacyCmd.TheVariants.{CommonWrite, CommonRead, DevWrite, DevRead, Info as NotifyInfo}
use Rattle.legacy_regs.specs.declared.device.Kind.{Kind}
use Rattle.legacy_regs.specs.Registers.{Registers}
use Rattle.group_calls.specs.declared.ask.Ask.TheVariants.{Owner, Queue, Member}
use Rattle.group_calls.specs.declared.ask.Told.{Told}
use Rattle.group_calls.specs.declared.ask.Told.TheVariants.{Owner as FromOwner, Queue as FromQueue, Member as FromMember, NoMemory}
use Rattle.group_calls.specs.declared.owner.OwnerCall.TheVariants.{Judge}
use Rattle.group_calls.specs.declared.owner.OwnerReply.{OwnerReply}
use Rattle.group_calls.specs.declared.owner.OwnerReply.TheVariants.{Done, Used, Refused, Legacy}
use Rattle.group_calls.specs.declared.queue.RingCall.TheVariants.{Pop}
use Rattle.group_calls.specs.declared.queue.RingReply.{RingReply}
use Rattle.group_calls.specs.declared.queue.RingReply.TheVariants.{Fetched, Empty, InService}
use Rattle.group_calls.specs.declared.member.MemberMade.{MemberMade}
use Rattle.group_calls.specs.declared.member.MemberCall.TheVariants.{Act}
use Rattle.group_calls.specs.declared.member.MemberReply.{MemberReply}
use Rattle.group_calls.specs.declared.member.MemberReply.TheVariants.{Data, Written, Info, Refused as RefusedIt, Gone}
use Rattle.group_calls.specs.declared.member.Why.TheVariants.{Field}
use Rattle.group_calls.specs.Asks.{AnswersAsk}
use Rattle.group_calls.specs.Facts.{Facts, facts}
use Rattle.group_calls.specs.Member.{answer_by, access_answer, is_refused, is_memory_call, is_killed, gone_floor}
use Rattle.group_calls.specs.Storage.{memory_after, disk_after}
use Rattle.group_calls.specs.Owner.{OwnerEntry, einval, verdict, verdict_on, refused, supported_list, invalid_field, invalid_group, invalid_member, invalid_opcode, vf_count, is_away, is_used}
use Rattle.group_calls.specs.Queue.{RingEntry, Posted, posted, earliest, fetch, pop_or_fetch, pop_answer, is_closed, is_fetched, in_service}
use Rattle.serve_machine.proofs.Limits.{either}

-- ---- Pop

abbrev pub IsPopReply : RingReply → Type 0
IsPopReply Empty = Unit {0}
IsPopReply (InService seq) = Unit {0}
IsPopReply (Fetched seq bytes writable tag) = Unit {0}
IsPopReply _ = ⊥

fetch_kind : (o : Option Posted) → IsPopReply (fetch o)
fetch_kind None = tt
fetch_kind (Some p) = tt

pop_or_fetch_kind : (h : List RingEntry) (o : Option Posted) → IsPopReply (pop_or_fetch h o)
pop_or_fetch_kind h (Some p) = tt
pop_or_fetch_kind h None = fetch_kind (earliest (λ p. not (is_fetched h p.seq)) (posted h))

pop_kind : (h : List RingEntry) → IsPopReply (pop_answer h)
pop_kind h = either IsPopReply (is_closed h) Empty (pop_or_fetch h (earliest (λ p. in_service h p.seq) (posted h))) tt (pop_or_fetch_kind h (earliest (λ p. in_service h p.seq) (posted h)))

abbrev pub IsPopTold : Told → Type 0
IsPopTold (FromQueue placed) = IsPopReply placed.reply
IsPopTold _ = ⊥

pub pop_told : (queue : ℕ) (told : Told) → AnswersAsk (Queue queue Pop) told → IsPopTold told
pop_told queue (FromQueue placed) answers =
    let over = answers.2 in
    subst IsPopReply (sym over.reply) (pop_kind over.history)
pop_told queue (FromOwner placed) answers = answers
pop_told queue (FromMember placed) answers = answers
pop_told queue NoMemory answers = absurd (cc answers)

-- ---- Judge

abbrev pub IsVerdict : OwnerReply → Type 0
IsVerdict Done = ⊥
IsVerdict (Refused status qualifier floor) = status ≡ einval
IsVerdict _ = Unit {0}

verdict_on_kind : (h : List OwnerEntry) (m : ℕ) (body : Body) → IsVerdict (verdict_on h m body)
verdict_on_kind h m Query = tt
verdict_on_kind h m (Use bits) = either IsVerdict (nat_lt supported_list bits) (refused h m invalid_field) Used refl tt
verdict_on_kind h m (ToMember command) = either IsVerdict (nat_lt 0 m && nat_le m (vf_count h) && not (is_away h m)) (Legacy m command) (refused h m invalid_member) tt refl
verdict_on_kind h m Unknown = refl

verdict_kind : (h : List OwnerEntry) (bytes : List ℕ) (writable : ℕ) → IsVerdict (verdict h bytes writable)
verdict_kind h bytes writable =
    let c = command_of bytes writable in
    let known = nat_le c.opcode LEGACY_NOTIFY_INFO && is_used h c.opcode in
    let last = verdict_on h c.member c.body in
    let second = if not known then refused h c.member invalid_opcode else last in
    either IsVerdict (not (c.group_type == SR_IOV)) (refused h c.member invalid_group) second refl (
    either IsVerdict (not known) (refused h c.member invalid_opcode) last refl (
    verdict_on_kind h c.member c.body))

abbrev pub IsJudgeTold : Told → Type 0
IsJudgeTold (FromOwner placed) = IsVerdict placed.reply
IsJudgeTold NoMemory = Unit {0}
IsJudgeTold _ = ⊥

pub judge_told : (bytes : List ℕ) (writable : ℕ) (told : Told) → AnswersAsk (Owner (Judge bytes writable)) told → IsJudgeTold told
judge_told bytes writable (FromOwner placed) answers =
    let over = answers.1 in
    subst IsVerdict (sym over.reply) (verdict_kind over.history bytes writable)
judge_told bytes writable (FromQueue placed) answers = answers
judge_told bytes writable (FromMember placed) answers = answers
judge_told bytes writable NoMemory answers = tt

-- ---- Act

abbrev pub IsActReply : MemberReply → Type 0
IsActReply (Data bytes) = Unit {0}
IsActReply Written = Unit {0}
IsActReply Info = Unit {0}
IsActReply (RefusedIt why) = Unit {0}
IsActReply (Gone floor) = Unit {0}
IsActReply _ = ⊥

access_kind : (kind : Kind) (r : Registers) (access : LegacyCmd) → IsActReply (access_answer kind r access)
access_kind kind r (CommonWrite offset bytes) = tt
access_kind kind r (CommonRead offset count) = tt
access_kind kind r (DevWrite offset bytes) = tt
access_kind kind r (DevRead offset count) = tt
access_kind kind r NotifyInfo = tt

act_kind : (made : MemberMade) (is_gone : Bool) (floor : ℕ) (f : Facts) (memory disk : List ℕ) (access : LegacyCmd) → IsActReply (answer_by made is_gone floor f memory disk (Act access))
act_kind made is_gone floor f memory disk access =
    either IsActReply (is_gone && not (is_memory_call (Act access))) (Gone floor) _ tt (
    either IsActReply (is_refused made.kind f.registers.msix access) (RefusedIt Field) (access_answer made.kind f.registers access) tt (access_kind made.kind f.registers access))

abbrev pub IsMemberTold : Told → Type 0
IsMemberTold (FromMember placed) = IsActReply placed.reply
IsMemberTold NoMemory = Unit {0}
IsMemberTold _ = ⊥

pub act_answered : (member floor : ℕ) (access : LegacyCmd) (told : Told) → AnswersAsk (Member member floor (Act access)) told → IsMemberTold told
act_answered member floor access (FromMember placed) answers =
    let over = answers.2 in
    subst IsActReply (sym over.reply) (act_kind answers.0 (is_killed over.history) (gone_floor over.history) (facts answers.0 over.history) (memory_after answers.0 over.history) (disk_after answers.0 over.history) access)
act_answered member floor access (FromOwner placed) answers = answers
act_answered member floor access (FromQueue placed) answers = answers
act_answered member floor access NoMemory answers = tt
