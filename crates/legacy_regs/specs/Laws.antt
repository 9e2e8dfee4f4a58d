-- What writes do, in words of whole fields (of this project).
use Rattle.std.specs.Prelude.{◌≡◌, ℕ, ◌+◌, ◌-◌, ◌≤◌, ◌⊎◌, ◌&&◌, Bool, true, false, IsTrue, List, length}
use Rattle.std.specs.List.{All, list_any}
use Rattle.byte_fields.specs.Places.{overwrite}
use Rattle.legacy_regs.specs.declared.device.Kind.{Kind}
use Rattle.legacy_regs.specs.declared.device.Kind.TheVariants.{Block, Net}
use Rattle.legacy_regs.specs.declared.accesses.Space.{Space}
use Rattle.legacy_regs.specs.Fields.{Access, reads, writes, reads_and_writes, fields_of, is_inside, driver_features_field, queue_address_field, queue_select_field, mac_field}
use Rattle.legacy_regs.specs.Registers.{Registers}
use Rattle.legacy_regs.specs.Accesses.{bytes_put, write_structure}

-- a write inside a field, whose first byte stands at `place`, replaces just its own bytes
abbrev pub ReplacesItsBytes : Type 0
ReplacesItsBytes =
    (place offset : ℕ) (bytes field : List ℕ) → place ≤ offset → offset + length bytes ≤ place + length field
    → bytes_put place offset bytes field ≡ overwrite (offset - place) bytes field

-- a write that ends before a field, or begins after it, leaves it
abbrev pub LeavesOthers : Type 0
LeavesOthers =
    (place offset : ℕ) (bytes field : List ℕ) → (offset + length bytes ≤ place) ⊎ (place + length field ≤ offset)
    → bytes_put place offset bytes field ≡ field

abbrev pub mac_size : Kind → ℕ
mac_size (Block sectors read_only) = 0
mac_size (Net mac) = mac_field.size

-- each field of the registers has its bytes
pub record IsWhole (kind : Kind) (r : Registers) : Type 0 where
  pub features : length r.features ≡ driver_features_field.size
  pub addresses : All (λ address. length address ≡ queue_address_field.size) r.addresses
  pub select : length r.select ≡ queue_select_field.size
  pub mac : length r.mac ≡ mac_size kind

abbrev pub is_read_only : Access → Bool
is_read_only reads = true
is_read_only writes = false
is_read_only reads_and_writes = false

-- a write inside a field that a guest only reads
abbrev pub is_inside_read_only : Kind → Bool → Space → ℕ → ℕ → Bool
is_inside_read_only kind msix space offset count =
    list_any (λ field. is_read_only field.access && is_inside offset count field) (fields_of kind msix space)

-- it changes nothing
abbrev pub KeepsReadOnly : Type 0
KeepsReadOnly =
    (kind : Kind) (r : Registers) (space : Space) (offset : ℕ) (bytes : List ℕ)
    → IsWhole kind r → IsTrue (is_inside_read_only kind r.msix space offset (length bytes))
    → write_structure kind space offset bytes r ≡ r
