-- What holds of the parts of a device. The code's own.
use Rattle.std.specs.Prelude.{◌≡◌, false, [], length}
use Rattle.group_calls.specs.MemberQueues.{receives}
use Rattle.group_calls.specs.Storage.{memory_length, disk_length}
use Rattle.group_calls.specs.Member.{IsMemberMade}
use Rattle.member_device.specs.declared.device.Device.TheInside.{Inside}

-- the registers are of the member's kind, memory and disk have the sizes that it was made with, and a member that receives no frames keeps none
pub record IsKept (d : Inside) : Type 0 where
  pub kind : d.regs.kind ≡ d.made.kind
  pub few : IsMemberMade d.made
  pub pages : length d.memory ≡ memory_length d.made
  pub sectors : length d.disk ≡ disk_length d.made
  pub frames : receives d.made.kind 0 ≡ false → d.backlog ≡ []
