-- What is written to a disk, and what it holds then: VIRTIO 1.3, 5.2.6 (device operation of a block device).
use Rattle.std.specs.Prelude.{ℕ, ◌+◌, ◌*◌, ◌==◌, ◌&&◌, Bool, List, [], ◌∷◌, Option, None, Some, drop, length, if◌then◌else◌}
use Rattle.byte_fields.specs.Places.{le32, le64}
use Rattle.byte_fields.specs.Sizes.{sector_size}
use Rattle.ring_layout.specs.declared.layout.Layout.{Layout}
use Rattle.ring_layout.specs.declared.descriptor.Descriptor.{Descriptor}
use Rattle.ring_layout.specs.Layout.{legacy_layout}
use Rattle.ring_layout.specs.Chain.{Found, chain, found, readable_bytes, writable_part, total_length}
use Rattle.blk_engine.specs.Block.{status_of}
use Rattle.legacy_regs.specs.declared.device.Kind.{Kind}
use Rattle.legacy_regs.specs.declared.device.Kind.TheVariants.{Block, Net}
use Rattle.legacy_regs.specs.Registers.{member_ring_size, page_number, uses_tables}
use Rattle.legacy_regs.specs.Accesses.{byte_put}
use Rattle.history.specs.Look.{latest_or}
use Rattle.group_calls.specs.Facts.{Facts}

-- what an OUT writes: its data, from a sector on
pub record SectorWrite : Type 0 where
  pub sector : ℕ
  pub bytes : List ℕ

-- the write of a request with so many writable bytes, if it is an OUT with the status OK over this disk
abbrev pub write_of_request : Bool → List ℕ → List ℕ → ℕ → Option SectorWrite
write_of_request read_only disk request writable =
    if (le32 0 request == 1) && (status_of read_only disk request writable == 0)
    then Some record { sector = le64 8 request; bytes = drop 16 request }
    else None

-- ---- the request of a step

-- the descriptors of the chain that was found
abbrev pub found_chain : Found → List Descriptor
found_chain (chain ds) = ds
found_chain _ = []

-- those of the chain that a queue of this layout has next
abbrev pub next_chain : List ℕ → Facts → ℕ → Option Layout → List Descriptor
next_chain memory f q None = []
next_chain memory f q (Some l) = found_chain (found (uses_tables f.registers) memory l (f.position q))

abbrev pub write_of_chain : Kind → List ℕ → List ℕ → List Descriptor → Option SectorWrite
write_of_chain (Block sectors read_only) memory disk ds = write_of_request read_only disk (readable_bytes memory ds) (total_length (writable_part ds))
write_of_chain (Net mac) memory disk ds = None

-- the write that a service of a queue carries out
unfoldable pub write_of_service : Kind → List ℕ → List ℕ → Facts → ℕ → Option SectorWrite
write_of_service kind memory disk f q =
    write_of_chain kind memory disk (next_chain memory f q (legacy_layout (page_number f.registers q) member_ring_size (length memory)))

-- ---- the disk

-- the byte that a write puts at a place of the disk, if it covers the place
abbrev pub byte_of_write : ℕ → SectorWrite → Option ℕ
byte_of_write place w = byte_put place (sector_size * w.sector) w.bytes

-- the bytes of a disk from a place on, where the latest write stands first: each byte is that of the latest write that covers it, else what it was at first
abbrev pub disk_bytes : List SectorWrite → ℕ → List ℕ → List ℕ
disk_bytes writes place [] = []
disk_bytes writes place (byte ∷ rest) = latest_or byte (byte_of_write place) writes ∷ disk_bytes writes (place + 1) rest
