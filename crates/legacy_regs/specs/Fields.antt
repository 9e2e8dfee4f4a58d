-- The fields of the legacy structures, with VIRTIO 1.3 as the standard.
use Rattle.std.specs.Prelude.{ℕ, ◌+◌, nat_lt, nat_le, ◌&&◌, Bool, if◌then◌else◌, List, [], ◌∷◌}
use Rattle.std.specs.List.{list_any}
use Rattle.legacy_regs.specs.declared.device.Kind.{Kind}
use Rattle.legacy_regs.specs.declared.device.Kind.TheVariants.{Block, Net}
use Rattle.legacy_regs.specs.declared.accesses.Space.{Space}
use Rattle.legacy_regs.specs.declared.accesses.Space.TheVariants.{Common, Device}

-- what a guest may do with a field
pub data Access : Type 0 where
  reads : Access
  writes : Access
  reads_and_writes : Access

-- where a field stands: `size` bytes from `offset` on, counted from the start of its structure
pub record FieldPlace : Type 0 where
  pub offset : ℕ
  pub size : ℕ
  pub access : Access

-- ---- the common structure: 4.1.4.10, "Legacy Interfaces: A Note on PCI Device Layout"

abbrev pub device_features_field : FieldPlace
device_features_field = record { offset = 0; size = 4; access = reads }

abbrev pub driver_features_field : FieldPlace
driver_features_field = record { offset = 4; size = 4; access = reads_and_writes }

-- of the selected queue, a number of pages of 4,096 bytes
abbrev pub queue_address_field : FieldPlace
queue_address_field = record { offset = 8; size = 4; access = reads_and_writes }

-- of the selected queue
abbrev pub queue_size_field : FieldPlace
queue_size_field = record { offset = 12; size = 2; access = reads }

abbrev pub queue_select_field : FieldPlace
queue_select_field = record { offset = 14; size = 2; access = reads_and_writes }

abbrev pub queue_notify_field : FieldPlace
queue_notify_field = record { offset = 16; size = 2; access = writes }

abbrev pub device_status_field : FieldPlace
device_status_field = record { offset = 18; size = 1; access = reads_and_writes }

abbrev pub isr_field : FieldPlace
isr_field = record { offset = 19; size = 1; access = reads }

abbrev pub config_vector_field : FieldPlace
config_vector_field = record { offset = 20; size = 2; access = reads_and_writes }

-- of the selected queue
abbrev pub queue_vector_field : FieldPlace
queue_vector_field = record { offset = 22; size = 2; access = reads_and_writes }

-- the two vectors are there with MSI-X enabled alone
abbrev pub vector_fields : Bool → List FieldPlace
vector_fields msix = if msix then config_vector_field ∷ queue_vector_field ∷ [] else []

abbrev pub common_fields : Bool → List FieldPlace
common_fields msix =
    device_features_field ∷ driver_features_field ∷ queue_address_field ∷ queue_size_field ∷ queue_select_field
    ∷ queue_notify_field ∷ device_status_field ∷ isr_field ∷ vector_fields msix

-- ---- the structure of a block device: 5.2.4

-- in sectors of 512 bytes
abbrev pub capacity_field : FieldPlace
capacity_field = record { offset = 0; size = 8; access = reads }

-- size_max, seg_max and geometry, which read 0
abbrev pub limits_field : FieldPlace
limits_field = record { offset = 8; size = 12; access = reads }

-- in bytes
abbrev pub block_size_field : FieldPlace
block_size_field = record { offset = 20; size = 4; access = reads }

-- which reads 0
abbrev pub topology_field : FieldPlace
topology_field = record { offset = 24; size = 8; access = reads }

abbrev pub writeback_field : FieldPlace
writeback_field = record { offset = 32; size = 1; access = reads_and_writes }

-- ---- the structure of a network device: 5.1.4

abbrev pub mac_field : FieldPlace
mac_field = record { offset = 0; size = 6; access = reads_and_writes }

abbrev pub link_status_field : FieldPlace
link_status_field = record { offset = 6; size = 2; access = reads }

abbrev pub device_fields : Kind → List FieldPlace
device_fields (Block sectors read_only) = capacity_field ∷ limits_field ∷ block_size_field ∷ topology_field ∷ writeback_field ∷ []
device_fields (Net mac) = mac_field ∷ link_status_field ∷ []

-- the fields of a structure, by the kind of the device and whether MSI-X is enabled
abbrev pub fields_of : Kind → Bool → Space → List FieldPlace
fields_of kind msix Common = common_fields msix
fields_of kind msix Device = device_fields kind

-- ---- the bytes of a structure

abbrev pub common_size : Bool → ℕ
common_size msix = if msix then 24 else 20

abbrev pub device_size : Kind → ℕ
device_size (Block sectors read_only) = 33
device_size (Net mac) = 8

abbrev pub structure_size : Kind → Bool → Space → ℕ
structure_size kind msix Common = common_size msix
structure_size kind msix Device = device_size kind

-- ---- an access of `count` bytes from `offset` on (of this project)

abbrev pub is_inside : ℕ → ℕ → FieldPlace → Bool
is_inside offset count field = nat_le field.offset offset && nat_le (offset + count) (field.offset + field.size)

-- it has a byte, and lies inside one field
abbrev pub is_in_one_field : List FieldPlace → ℕ → ℕ → Bool
is_in_one_field fields offset count = nat_lt 0 count && list_any (is_inside offset count) fields

-- a byte of it is one of the field's
abbrev pub touches : FieldPlace → ℕ → ℕ → Bool
touches field offset count = nat_lt offset (field.offset + field.size) && nat_lt field.offset (offset + count)
