-- What the code keeps of a group, and what its functions do. Of this project.
use Rattle.std.specs.Prelude.{◌≡◌, ℕ, ◌≤◌, List, [], Option, None, Some, length}
use Rattle.byte_fields.specs.Sizes.{guest_limit}
use Rattle.group_calls.specs.declared.owner.OwnerReply.{OwnerReply}
use Rattle.group_calls.specs.declared.member.MemberCall.{MemberCall}
use Rattle.group_calls.specs.declared.member.MemberReply.{MemberReply}
use Rattle.admin_run.specs.Group.{MemberCell, reply_of, acted}
use Rattle.admin_run.specs.Completion.{verdict_done}

-- the owner was made for as many members as a group has at most, and there are no more
pub record IsWhole (owner_made : ℕ) (members : List MemberCell) : Type 0 where
  pub made_for : owner_made ≡ guest_limit
  pub few : length members ≤ guest_limit

-- a member was called, if it is there
abbrev pub reply_at : MemberCall → Option MemberCell → Option MemberReply
reply_at call None = None
reply_at call (Some m) = Some (reply_of call m)

-- what a verdict makes of the members, and what it is completed with
abbrev pub acted_on : List MemberCell → OwnerReply → List MemberCell
acted_on members verdict = acted (record { owner = []; members = members }) verdict

abbrev pub done_for : List MemberCell → ℕ → OwnerReply → List ℕ
done_for members writable verdict = verdict_done (record { owner = []; members = members }) writable verdict
