-- What a command is completed with (VIRTIO 1.3, 2.12.1, group administration commands).
use Rattle.std.specs.Prelude.{ℕ, List, [], Option, None, Some}
use Rattle.admin_wire.specs.declared.command.LegacyCmd.{LegacyCmd}
use Rattle.serve_machine.specs.Completion.{owner_done, access_done}
use Rattle.group_calls.specs.declared.owner.OwnerCall.TheVariants.{Judge}
use Rattle.group_calls.specs.declared.owner.OwnerReply.{OwnerReply}
use Rattle.group_calls.specs.declared.owner.OwnerReply.TheVariants.{Legacy}
use Rattle.group_calls.specs.declared.member.MemberCall.TheVariants.{Act}
use Rattle.group_calls.specs.Owner.{owner_answer}
use Rattle.admin_run.specs.Group.{MemberCell, Group, reply_of, member_of}

-- the owner names only members that there are
abbrev pub member_done : ℕ → LegacyCmd → Option MemberCell → List ℕ
member_done writable command None = []
member_done writable command (Some m) = access_done writable (reply_of (Act command) m)

-- by the owner's reply: a register access that it lets through is for its member to answer
abbrev pub verdict_done : Group → ℕ → OwnerReply → List ℕ
verdict_done g writable (Legacy number command) = member_done writable command (member_of g number)
verdict_done g writable reply = owner_done writable reply

abbrev pub completion : Group → ℕ → List ℕ → List ℕ
completion g writable bytes = verdict_done g writable (owner_answer g.owner (Judge bytes writable))
