-- The completion rule: what a command is completed with (VIRTIO 1.3, 2.12.1, group administration commands). Floors are of this project.
use Rattle.std.specs.Prelude.{ℕ, ◌+◌, max, List, [], ◌∷◌, replicate}
use Rattle.byte_fields.specs.Places.{bytes_of}
use Rattle.admin_wire.specs.Numbers.{ok, enomem, einval, unqualified, invalid_field, invalid_member}
use Rattle.admin_wire.specs.Done.{done_of}
use Rattle.group_calls.specs.declared.ask.Told.{Told}
use Rattle.group_calls.specs.declared.ask.Told.TheVariants.{Owner as FromOwner, Queue as FromQueue, Member as FromMember, NoMemory}
use Rattle.group_calls.specs.declared.owner.OwnerReply.{OwnerReply}
use Rattle.group_calls.specs.declared.owner.OwnerReply.TheVariants.{List as Listed, Used, Refused}
use Rattle.group_calls.specs.declared.member.MemberReply.{MemberReply}
use Rattle.group_calls.specs.declared.member.MemberReply.TheVariants.{Data, Written, Info, Refused as RefusedIt, Gone}

-- ---- the bytes, where so many are writable

-- the notify information: 4 entries of 16 bytes, of which the first names the member itself, and its BAR 2, from 0 on; its flags are 2, which is the member device, and the others are empty
abbrev pub info : List ℕ
info = 2 ∷ 2 ∷ replicate 62 0

-- for the owner's reply to the command, where that decides it
abbrev pub owner_done : ℕ → OwnerReply → List ℕ
owner_done writable (Listed bits) = done_of ok unqualified (bytes_of 8 bits) writable
owner_done writable Used = done_of ok unqualified [] writable
owner_done writable (Refused status qualifier floor) = done_of status qualifier [] writable
owner_done writable _ = []

-- of a register access, for the member's reply; no other reply comes to an access
abbrev pub access_done : ℕ → MemberReply → List ℕ
access_done writable (Data bytes) = done_of ok unqualified bytes writable
access_done writable Written = done_of ok unqualified [] writable
access_done writable Info = done_of ok unqualified info writable
access_done writable (RefusedIt why) = done_of einval invalid_field [] writable
access_done writable (Gone floor) = done_of einval invalid_member [] writable
access_done writable _ = []

-- for what the owner or the member answers, or where there was no memory. A queue decides no command
abbrev pub completed_with : Told → ℕ → List ℕ
completed_with (FromOwner placed) writable = owner_done writable placed.reply
completed_with (FromMember placed) writable = access_done writable placed.reply
completed_with NoMemory writable = done_of enomem unqualified [] writable
completed_with (FromQueue placed) writable = []

-- ---- the floor

-- the floor in the owner's refusal
abbrev pub refusal : Told → ℕ
refusal (FromOwner placed) = elim placed.reply [ Refused status qualifier floor ↦ floor | _ ↦ 0 ]
refusal _ = 0

-- the member's place behind the access
abbrev pub behind : Told → ℕ
behind (FromMember placed) = placed.at + 1
behind _ = 0

-- the largest of the floor in the command's tag, the place behind the access and the refusal's floor
abbrev pub completed_under : ℕ → Told → ℕ
completed_under floor told = max floor (max (behind told) (refusal told))
