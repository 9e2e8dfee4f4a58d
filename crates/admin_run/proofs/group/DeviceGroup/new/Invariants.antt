use Rattle.std.proofs.Common.{◌≡◌}
use Rattle.admin_run.specs.Group.{fresh_members}
use Rattle.admin_run.proofs.group.DeviceGroup.new.Given as goal

-- the members so far are fresh
abbrev pub invariant-members : goal.invariant-members
invariant-members l = l.members.items ≡ fresh_members l.before
