-- The room that the bytes of commands and answers have.
use Rattle.std.proofs.Common.{◌≡◌, ℕ, ◌≤◌, inl, inr, true, false, Option, Some, arith, sym, ap, ◌∙◌}
use Rattle.std.specs.Prelude.{nat_le}
use Rattle.std.proofs.lemmas.Bool.Decides.{nat_tests}
use Rattle.std.proofs.lemmas.Bool.{cases_eq, cases_lt}
use Rattle.slab.specs.Slab.{Slab, get, Updates}
use Rattle.admin_ring.specs.declared.table.Note.{Note}
use Rattle.admin_ring.specs.Room.{room_for}
use Rattle.admin_ring.specs.Bytes.{HasRooms}

-- what is taken is enough
pub room_fits : (most : ℕ) → most ≤ 256 → most ≤ room_for most
room_fits most few = elim (cases_lt 39 most) [
  | inl more ↦ let e : nat_le most 39 ≡ false = grind (arith, nat_tests, more) in rw e few
  | inr less ↦ let e : nat_le most 39 ≡ true = grind (arith, nat_tests, less) in rw e less
]

pub rooms_after : (f g key : ℕ) (table now : Slab Note) (o : Option Note) → Updates table now key o → ((x : Note) → o ≡ Some x → g ≤ x.seq → x.len ≤ x.command_room) → f ≤ g → HasRooms f table → HasRooms g now
rooms_after f g key table now o up new less old k x at late = elim (cases_eq k key) [
  | inl e ↦ new x (sym up.changed ∙ ap (get now) (sym e) ∙ at) late
  | inr off ↦ old k x (sym (up.others k off) ∙ at) (omega arith)
]
