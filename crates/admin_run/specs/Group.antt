-- The group that the input of `admin` works on: an owner for 16 members, and the members (VIRTIO 1.3, 2.12, device groups). What the members are is of this project.
use Rattle.std.specs.Prelude.{ℕ, zero, suc, ◌++◌, ◌+◌, ◌-◌, ◌==◌, ◌%◌, false, List, [], ◌∷◌, Option, None, Some, map, slice_set, if◌then◌else◌, length}
use Rattle.std.specs.List.{slice_get}
use Rattle.byte_fields.specs.Sizes.{guest_limit}
use Rattle.legacy_regs.specs.declared.device.Kind.{Kind}
use Rattle.legacy_regs.specs.declared.device.Kind.TheVariants.{Block, Net}
use Rattle.history.specs.Legal.{Cell}
use Rattle.group_calls.specs.declared.owner.OwnerCall.{OwnerCall}
use Rattle.group_calls.specs.declared.owner.OwnerCall.TheVariants.{SetVfs, Judge, Reset as ResetOwner}
use Rattle.group_calls.specs.declared.owner.OwnerReply.{OwnerReply}
use Rattle.group_calls.specs.declared.owner.OwnerReply.TheVariants.{Legacy}
use Rattle.group_calls.specs.declared.member.MemberMade.{MemberMade}
use Rattle.group_calls.specs.declared.member.MemberCall.{MemberCall}
use Rattle.group_calls.specs.declared.member.MemberCall.TheVariants.{Act, Kill}
use Rattle.group_calls.specs.declared.member.MemberReply.{MemberReply}
use Rattle.group_calls.specs.Owner.{OwnerEntry, owner_answer}
use Rattle.group_calls.specs.Member.{member_answer}
use Rattle.admin_script.specs.declared.line.AdminLine.{AdminLine}
use Rattle.admin_script.specs.declared.line.AdminLine.TheVariants.{Vfs, Reset, Cmd}

-- what a member was made with, and its history
abbrev pub MemberCell : Type 0
MemberCell = Cell MemberMade MemberCall MemberReply

-- the owner's history, and the members from number 1 on
pub record Group : Type 0 where
  pub owner : List OwnerEntry
  pub members : List MemberCell

-- ---- at first

-- an odd one is a block device of 8 sectors, an even one a network device whose MAC ends with its number
abbrev pub kind_of : ℕ → Kind
kind_of number = if number % 2 == 1 then Block 8 false else Net (2 ∷ 0 ∷ 0 ∷ 0 ∷ 0 ∷ number ∷ [])

-- with 1 page of memory each
abbrev pub fresh_member : ℕ → MemberCell
fresh_member number = record { made = record { id = number; pages = 1; kind = kind_of number }; history = [] }

-- those from 1 to a number
abbrev pub fresh_members : ℕ → List MemberCell
fresh_members zero = []
fresh_members (suc before) = fresh_members before ++ fresh_member (before + 1) ∷ []

abbrev pub first_group : Group
first_group = record { owner = []; members = fresh_members guest_limit }

-- ---- calls. All are made by the actor 0

abbrev pub asked : OwnerCall → List OwnerEntry → List OwnerEntry
asked call owner = record { who = 0; call = call; reply = owner_answer owner call } ∷ owner

abbrev pub reply_of : MemberCall → MemberCell → MemberReply
reply_of call m = member_answer m.made m.history call

abbrev pub called : MemberCall → MemberCell → MemberCell
called call m = record m { history = record { who = 0; call = call; reply = reply_of call m } ∷ m.history }

-- the member at an index, if there is one, is called
abbrev pub called_at : MemberCall → ℕ → List MemberCell → Option MemberCell → List MemberCell
called_at call index members None = members
called_at call index members (Some m) = slice_set members index (called call m)

-- the member of a number
abbrev pub member_of : Group → ℕ → Option MemberCell
member_of g number = slice_get g.members (number - 1)

-- ---- lines

-- the floor that a Kill shows: its place and one
abbrev pub floor_after_kill : MemberCell → ℕ
floor_after_kill m = length m.history + 1

-- a register access that the owner lets through acts on its member
abbrev pub acted : Group → OwnerReply → List MemberCell
acted g (Legacy number command) = called_at (Act command) (number - 1) g.members (member_of g number)
acted g _ = g.members

-- the group after a line
abbrev pub after_line : Group → AdminLine → Group
after_line g (Vfs count) = record g { owner = asked (SetVfs count) g.owner }
after_line g Reset = record { owner = asked (ResetOwner (map floor_after_kill g.members)) g.owner; members = map (called Kill) g.members }
after_line g (Cmd writable bytes) = record { owner = asked (Judge bytes writable) g.owner; members = acted g (owner_answer g.owner (Judge bytes writable)) }
