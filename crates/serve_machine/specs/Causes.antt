-- Why a command is completed with its status: VIRTIO 1.3, 2.12.1 (group administration commands).
use Rattle.std.specs.Prelude.{◌≡◌, ◌↔◌, ℕ}
use Rattle.admin_wire.specs.Numbers.{ok, enomem, einval}
use Rattle.group_calls.specs.declared.ask.Told.{Told}
use Rattle.group_calls.specs.declared.ask.Told.TheVariants.{Owner as FromOwner, Member as FromMember, NoMemory}
use Rattle.group_calls.specs.declared.owner.OwnerReply.TheVariants.{List as Listed, Used, Refused}
use Rattle.group_calls.specs.declared.member.MemberReply.TheVariants.{Data, Written, Info, Refused as RefusedIt, Gone}

-- the owner performed the command, or the member the access
abbrev pub IsPerformed : Told → Type 0
IsPerformed (FromOwner placed) = elim placed.reply [ Listed bits ↦ Unit {0} | Used ↦ Unit {0} | _ ↦ ⊥ ]
IsPerformed (FromMember placed) = elim placed.reply [ Data bytes ↦ Unit {0} | Written ↦ Unit {0} | Info ↦ Unit {0} | _ ↦ ⊥ ]
IsPerformed _ = ⊥

-- the owner refused the command, or the member the access, or the member is gone
abbrev pub IsRefused : Told → Type 0
IsRefused (FromOwner placed) = elim placed.reply [ Refused status qualifier floor ↦ Unit {0} | _ ↦ ⊥ ]
IsRefused (FromMember placed) = elim placed.reply [ RefusedIt why ↦ Unit {0} | Gone floor ↦ Unit {0} | _ ↦ ⊥ ]
IsRefused _ = ⊥

-- ENOMEM exactly after want of memory, OK exactly where it was performed, EINVAL exactly where it was refused
abbrev pub HasItsCause : ℕ → Told → Type 0
HasItsCause status told = ((status ≡ enomem) ↔ (told ≡ NoMemory)) × ((status ≡ ok) ↔ IsPerformed told) × ((status ≡ einval) ↔ IsRefused told)
