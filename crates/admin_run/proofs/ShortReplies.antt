-- What a member tells of a register access is short.
use Rattle.std.proofs.Common.{◌≡◌, Option, None, Some, subst}
use Rattle.admin_wire.specs.declared.command.LegacyCmd.{LegacyCmd}
use Rattle.group_calls.specs.declared.member.MemberCall.TheVariants.{Act}
use Rattle.group_calls.specs.declared.member.MemberReply.{MemberReply}
use Rattle.serve_machine.specs.Within.{IsShortReply}
use Rattle.serve_machine.proofs.Short.{member_short}
use Rattle.admin_run.specs.Group.{MemberCell, reply_of}
use Rattle.admin_run.specs.Kept.{reply_at}

pub acted_short : (access : LegacyCmd) (member : Option MemberCell) (reply : MemberReply) → reply_at (Act access) member ≡ Some reply → IsShortReply reply
acted_short access None reply is = absurd (cc)
acted_short access (Some m) reply is =
    let same : reply_of (Act access) m ≡ reply = cc in
    subst IsShortReply same (member_short m.made m.history access)
