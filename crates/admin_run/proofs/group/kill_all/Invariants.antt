use Rattle.std.proofs.Common.{◌≡◌, ◌++◌, map, take, drop}
use Rattle.group_calls.specs.declared.member.MemberCall.TheVariants.{Kill}
use Rattle.admin_run.specs.Group.{called, floor_after_kill}
use Rattle.admin_run.proofs.group.kill_all.Given as goal

-- the members before the place are killed
abbrev pub invariant-members : goal.invariant-members
invariant-members l = record {
  killed : l.members.items ≡ map (called Kill) (take l.index l.fn.members.items) ++ drop l.index l.fn.members.items;
  floors : l.floors ≡ map floor_after_kill (take l.index l.fn.members.items);
}
