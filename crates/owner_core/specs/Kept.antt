-- What the owner keeps, as equations over its history. The code's own.
use Rattle.std.specs.Prelude.{◌≡◌, ℕ, ◌-◌, ◌<◌, ◌≤◌, nat_lt, nat_le, ◌&&◌, Bool, false, List, length, slice_index, slice_index_or}
use Rattle.history.specs.Limits.{history_limit}
use Rattle.byte_fields.specs.Sizes.{guest_limit}
use Rattle.admin_wire.specs.declared.command.Body.{Body}
use Rattle.admin_wire.specs.declared.command.Body.TheVariants.{Use}
use Rattle.group_calls.specs.declared.owner.OwnerReply.{OwnerReply}
use Rattle.group_calls.specs.declared.owner.OwnerReply.TheVariants.{Used}
use Rattle.group_calls.specs.Owner.{OwnerEntry, vf_count, list_in_use, refusal_floor, is_away, IsLegalOwner}

-- the opcodes that a LIST_USE names, as bits
abbrev pub list_asked : Body → ℕ
list_asked (Use bits) = bits
list_asked _ = 0

-- the opcodes in use after a LIST_USE of these was answered, where those were in use
abbrev pub in_use_by : ℕ → OwnerReply → ℕ → ℕ
in_use_by bits Used in_use = bits
in_use_by bits _ in_use = in_use

-- the members of which something is kept: those that a group has at most
abbrev pub is_near : ℕ → Bool
is_near m = nat_lt 0 m && nat_le m guest_limit

-- the floor of each near member
abbrev pub AreFloors : List ℕ → List OwnerEntry → Type 0
AreFloors told h = (m : ℕ) → 0 < m → m ≤ guest_limit → slice_index told (m - 1) ≡ refusal_floor h m

-- which near members are away
abbrev pub AreAway : List Bool → List OwnerEntry → Type 0
AreAway away h = (m : ℕ) → 0 < m → m ≤ guest_limit → slice_index_or away (m - 1) false ≡ is_away h m

-- without strays no other member is away or has a floor
abbrev pub AreNear : Bool → List OwnerEntry → Type 0
AreNear strays h = strays ≡ false → (m : ℕ) → is_near m ≡ false → (refusal_floor h m ≡ 0) × (is_away h m ≡ false)

-- the registers are what the history says, and the history is legal
pub record Keeps (members count in_use : ℕ) (told : List ℕ) (away : List Bool) (strays : Bool) (h : List OwnerEntry) : Type 0 where
  pub count_is : count ≡ vf_count h
  pub in_use_is : in_use ≡ list_in_use h
  pub told_are : AreFloors told h
  pub away_are : AreAway away h
  pub strays_are : AreNear strays h
  pub legal : IsLegalOwner members h
  pub most : length h ≤ history_limit
