-- Replies that take no memory. The code's own.
use Rattle.std.specs.Prelude.{Bool, true, false}
use Rattle.group_calls.specs.declared.member.MemberReply.{MemberReply}
use Rattle.group_calls.specs.declared.member.MemberReply.TheVariants.{Written, Refused, Gone, Irqs, Arrived, BacklogFull, Killed}

-- the replies of the calls that give no bytes
abbrev pub has_no_bytes : MemberReply → Bool
has_no_bytes Written = true
has_no_bytes (Refused why) = true
has_no_bytes (Gone floor) = true
has_no_bytes (Irqs mask) = true
has_no_bytes Arrived = true
has_no_bytes BacklogFull = true
has_no_bytes Killed = true
has_no_bytes _ = false
