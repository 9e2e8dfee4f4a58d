-- What a transitional device that is attached directly answers, by looking back through its events and replies: VIRTIO 1.3, 4.1.4.10 (legacy interfaces). It is a member to which BAR accesses come as register accesses.
use Rattle.std.specs.Prelude.{ℕ, ◌-◌, nat_lt, List, [], ◌∷◌, if◌then◌else◌}
use Rattle.admin_wire.specs.declared.command.LegacyCmd.TheVariants.{CommonWrite, CommonRead, DevWrite, DevRead}
use Rattle.legacy_regs.specs.Fields.{common_size}
use Rattle.group_calls.specs.declared.member.MemberMade.{MemberMade}
use Rattle.group_calls.specs.declared.member.MemberCall.{MemberCall}
use Rattle.group_calls.specs.declared.member.MemberCall.TheVariants.{Act}
use Rattle.group_calls.specs.declared.member.MemberReply.{MemberReply}
use Rattle.group_calls.specs.declared.member.MemberReply.TheVariants.{Data as Bytes, Written}
use Rattle.group_calls.specs.declared.lone.LoneEvent.{LoneEvent}
use Rattle.group_calls.specs.declared.lone.LoneEvent.TheVariants.{Read, Write, Other as Called}
use Rattle.group_calls.specs.declared.lone.LoneReply.{LoneReply}
use Rattle.group_calls.specs.declared.lone.LoneReply.TheVariants.{Data, Ignored, Ones, Other}
use Rattle.group_calls.specs.declared.lone.LoneItem.{LoneItem}
use Rattle.group_calls.specs.MemberEntries.{MemberEntry}
use Rattle.group_calls.specs.MemberRegisters.{is_msix}
use Rattle.group_calls.specs.Member.{member_answer}

-- where the device's own registers begin: behind the common ones, which end with the two vectors where MSI-X is on
abbrev pub device_base : List MemberEntry → ℕ
device_base h = common_size (is_msix h)

-- the register access that a BAR access is
abbrev pub access_of : ℕ → LoneEvent → MemberCall
access_of base (Read offset count) = if nat_lt offset base then Act (CommonRead offset count) else Act (DevRead (offset - base) count)
access_of base (Write offset bytes) = if nat_lt offset base then Act (CommonWrite offset bytes) else Act (DevWrite (offset - base) bytes)
access_of base (Called call) = call

-- the reply that a member gives where the device gives this one: a BAR access is done where a member carries it out
abbrev pub reply_of : MemberMade → List MemberEntry → LoneEvent → LoneReply → MemberReply
reply_of made h (Called call) (Other reply) = reply
reply_of made h (Called call) _ = Written
reply_of made h event _ = member_answer made h (access_of (device_base h) event)

-- the events as a member's history
abbrev pub as_history : MemberMade → List LoneItem → List MemberEntry
as_history made [] = []
as_history made (item ∷ past) =
    let h : List MemberEntry = as_history made past in
    record { who = 0; call = access_of (device_base h) item.event; reply = reply_of made h item.event item.reply } ∷ h

-- a read that isn't answered by bytes reads all ones
abbrev pub read_reply : MemberReply → LoneReply
read_reply (Bytes bytes) = Data bytes
read_reply _ = Ones

-- a guest sees no reply to a write
abbrev pub device_reply : LoneEvent → MemberReply → LoneReply
device_reply (Read offset count) reply = read_reply reply
device_reply (Write offset bytes) reply = Ignored
device_reply (Called call) reply = Other reply

-- over a member's history
abbrev pub lone_over : MemberMade → List MemberEntry → LoneEvent → LoneReply
lone_over made h event = device_reply event (member_answer made h (access_of (device_base h) event))

-- what the device answers
abbrev pub lone_reply : MemberMade → List LoneItem → LoneEvent → LoneReply
lone_reply made past event = lone_over made (as_history made past) event
