-- What the legacy registers of a device hold, and what a guest reads of them, with VIRTIO 1.3 as the standard.
use Rattle.std.specs.Prelude.{ℕ, ◌^◌, ◌==◌, nat_lt, Bool, false, if◌then◌else◌, List, [], ◌∷◌, ◌++◌, length, map, replicate, slice_index_or}
use Rattle.std.specs.Int.RustNames.{bit_and}
use Rattle.std.specs.List.{sum_by}
use Rattle.byte_fields.specs.Places.{le16, le32, bytes_of}
use Rattle.byte_fields.specs.Sizes.{sector_size}
use Rattle.legacy_regs.specs.declared.device.Kind.{Kind}
use Rattle.legacy_regs.specs.declared.device.Kind.TheVariants.{Block, Net}
use Rattle.legacy_regs.specs.declared.accesses.Space.{Space}
use Rattle.legacy_regs.specs.declared.accesses.Space.TheVariants.{Common, Device}

-- the fields that change; bytes stand in the order of the structure, the lowest first
pub record Registers : Type 0 where
  -- driver features, 4 bytes
  pub features : List ℕ
  -- of each queue its page number, 4 bytes
  pub addresses : List (List ℕ)
  -- queue select, 2 bytes
  pub select : List ℕ
  -- device status
  pub status : ℕ
  -- 0 or 1
  pub isr : ℕ
  pub config_vector : ℕ
  -- of each queue
  pub queue_vectors : List ℕ
  -- 0 or 1
  pub writeback : ℕ
  -- of a network device its 6 bytes, of another none
  pub mac : List ℕ
  -- whether MSI-X is enabled
  pub msix : Bool

-- the registers of one device, of this kind
pub record Bank : Type 0 where
  pub kind : Kind
  pub registers : Registers

-- VIRTIO_MSI_NO_VECTOR: 4.1.5.1.2
abbrev pub no_vector : ℕ
no_vector = 0xffff

-- a block device has its request queue (5.2.2), a network device its receive queue 0 and its transmit queue 1 (5.1.2)
abbrev pub queue_numbers : Kind → List ℕ
queue_numbers (Block sectors read_only) = 0 ∷ []
queue_numbers (Net mac) = 0 ∷ 1 ∷ []

abbrev pub queue_count : Kind → ℕ
queue_count kind = length (queue_numbers kind)

abbrev pub initial_mac : Kind → List ℕ
initial_mac (Block sectors read_only) = []
initial_mac (Net mac) = mac

-- ---- the registers of a new device, after a reset (2.4), and after a function level reset (of this project)

abbrev pub initial_registers : Kind → Registers
initial_registers kind = record {
  features = 0 ∷ 0 ∷ 0 ∷ 0 ∷ [];
  addresses = map (λ q. 0 ∷ 0 ∷ 0 ∷ 0 ∷ []) (queue_numbers kind);
  select = 0 ∷ 0 ∷ [];
  status = 0;
  isr = 0;
  config_vector = no_vector;
  queue_vectors = map (λ q. no_vector) (queue_numbers kind);
  writeback = 1;
  mac = initial_mac kind;
  msix = false;
}

-- MSI-X and the MAC stay (of this project)
abbrev pub reset_of : Kind → Registers → Registers
reset_of kind r = record (initial_registers kind) { mac = r.mac; msix = r.msix }

-- MSI-X stays
abbrev pub flr_of : Kind → Registers → Registers
flr_of kind r = record (initial_registers kind) { msix = r.msix }

-- ---- what a guest reads

-- INDIRECT_DESC, by which a chain may have a table of descriptors, and EVENT_IDX, by which either side names the
-- position that it wants to hear of: 6
abbrev pub indirect_bit : ℕ
indirect_bit = 28

abbrev pub event_bit : ℕ
event_bit = 29

-- the numbers of the feature bits that a device offers: 2.2, 5.2.3, 5.1.3, 6 and 6.3
abbrev pub offered_bits : Kind → List ℕ
-- RO 5, BLK_SIZE 6, FLUSH 9, CONFIG_WCE 11, ANY_LAYOUT 27
offered_bits (Block sectors read_only) = (if read_only then 5 ∷ [] else []) ++ 6 ∷ 9 ∷ 11 ∷ 27 ∷ indirect_bit ∷ event_bit ∷ []
-- MAC 5, STATUS 16, ANY_LAYOUT 27
offered_bits (Net mac) = 5 ∷ 16 ∷ 27 ∷ indirect_bit ∷ event_bit ∷ []

abbrev pub device_features : Kind → ℕ
device_features kind = sum_by (λ bit. 2 ^ bit) (offered_bits kind)

-- the driver's features, as a number: 4.1.4.10
abbrev pub driver_features : Registers → ℕ
driver_features r = le32 0 r.features

-- whether the driver has set a bit in them: 2.2
abbrev pub is_accepted : ℕ → Registers → Bool
is_accepted bit r = bit_and (driver_features r) (2 ^ bit) == 2 ^ bit

-- whether chains may have tables, and whether both sides name positions: 6
abbrev pub uses_tables : Registers → Bool
uses_tables r = is_accepted indirect_bit r

abbrev pub uses_events : Registers → Bool
uses_events r = is_accepted event_bit r

-- the number of the selected queue: 4.1.5.1.3.1
abbrev pub selected : Registers → ℕ
selected r = le16 0 r.select

-- the number of descriptors of each queue of a member (of this project)
abbrev pub member_ring_size : ℕ
member_ring_size = 16

-- a queue that doesn't exist has size 0 (4.1.5.1.3.1), address 0 and no vector (of this project)

abbrev pub queue_size : Kind → ℕ → ℕ
queue_size kind queue = if nat_lt queue (queue_count kind) then member_ring_size else 0

abbrev pub queue_address : Registers → ℕ → List ℕ
queue_address r queue = slice_index_or r.addresses queue (0 ∷ 0 ∷ 0 ∷ 0 ∷ [])

abbrev pub queue_vector : Registers → ℕ → ℕ
queue_vector r queue = slice_index_or r.queue_vectors queue no_vector

-- the page number of a queue, which is its address in pages: 4.1.5.1.3.1
abbrev pub page_number : Registers → ℕ → ℕ
page_number r queue = le32 0 (queue_address r queue)

abbrev pub vectors : Registers → List ℕ
vectors r = bytes_of 2 r.config_vector ++ bytes_of 2 (queue_vector r (selected r))

-- 24 bytes with MSI-X enabled, else 20: 4.1.4.10
abbrev pub common_structure : Kind → Registers → List ℕ
common_structure kind r =
    bytes_of 4 (device_features kind)
    ++ r.features
    ++ queue_address r (selected r)
    ++ bytes_of 2 (queue_size kind (selected r))
    ++ r.select
    ++ 0 ∷ 0 ∷ r.status ∷ r.isr ∷ (if r.msix then vectors r else [])

-- 33 bytes of a block device (5.2.4), 8 of a network device (5.1.4), whose link is up
abbrev pub device_structure : Kind → Registers → List ℕ
device_structure (Block sectors read_only) r = bytes_of 8 sectors ++ replicate 12 0 ++ bytes_of 4 sector_size ++ replicate 8 0 ++ r.writeback ∷ []
device_structure (Net mac) r = r.mac ++ 1 ∷ 0 ∷ []

abbrev pub structure : Kind → Registers → Space → List ℕ
structure kind r Common = common_structure kind r
structure kind r Device = device_structure kind r
