-- The configuration space of the emulated function, as a guest reads it. Identifiers are those of a transitional device: VIRTIO 1.3, 4.1.2.3, "Legacy Interfaces: A Note on PCI Device Discovery". The layout is PCI's; its length and all zeros are of this project.
use Rattle.std.specs.Prelude.{ℕ, ◌+◌, nat_lt, Bool, if◌then◌else◌, List, [], ◌∷◌, ◌++◌, replicate}
use Rattle.byte_fields.specs.Places.{bytes_at, bytes_of}
use Rattle.legacy_regs.specs.declared.device.Kind.{Kind}
use Rattle.legacy_regs.specs.declared.device.Kind.TheVariants.{Block, Net}

-- vendor and subsystem vendor
abbrev pub vendor_id : ℕ
vendor_id = 0x1af4

abbrev pub device_id : Kind → ℕ
device_id (Block sectors read_only) = 0x1001
device_id (Net mac) = 0x1000

-- the device type: 5
abbrev pub subsystem_id : Kind → ℕ
subsystem_id (Block sectors read_only) = 2
subsystem_id (Net mac) = 1

-- mass storage, or network
abbrev pub base_class : Kind → ℕ
base_class (Block sectors read_only) = 1
base_class (Net mac) = 2

-- bit 0 of the command register enables I/O
abbrev pub command_register : Bool → ℕ
command_register io = if io then 1 else 0

-- 64 bytes
abbrev pub configuration : Kind → Bool → List ℕ
configuration kind io =
    bytes_of 2 vendor_id  -- 0
    ++ bytes_of 2 (device_id kind)  -- 2
    ++ bytes_of 2 (command_register io)  -- 4
    ++ replicate 5 0  -- 6
    ++ base_class kind ∷ []  -- 11
    ++ replicate 4 0  -- 12
    ++ bytes_of 4 1  -- 16: BAR 0, for I/O
    ++ replicate 24 0  -- 20
    ++ bytes_of 2 vendor_id  -- 44
    ++ bytes_of 2 (subsystem_id kind)  -- 46
    ++ replicate 16 0  -- 48

-- a read that passes the 64 bytes gives all ones
abbrev pub configuration_read : Kind → Bool → ℕ → ℕ → List ℕ
configuration_read kind io offset count =
    if nat_lt 64 (offset + count) then replicate count 0xff else bytes_at offset count (configuration kind io)
