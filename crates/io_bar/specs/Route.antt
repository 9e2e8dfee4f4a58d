-- Where a guest's access to the emulated I/O BAR goes. The BAR is that of a transitional device: VIRTIO 1.3, 4.1.4.10, "Legacy Interfaces: A Note on PCI Device Layout".
use Rattle.std.specs.Prelude.{ℕ, ◌+◌, ◌-◌, ◌==◌, nat_lt, not, ◌&&◌, ◌||◌, Bool, if◌then◌else◌, List, length}
use Rattle.byte_fields.specs.Places.{le16}
use Rattle.admin_wire.specs.declared.command.LegacyCmd.{LegacyCmd}
use Rattle.admin_wire.specs.declared.command.LegacyCmd.TheVariants.{CommonWrite, CommonRead, DevWrite, DevRead}
use Rattle.legacy_regs.specs.declared.device.Kind.{Kind}
use Rattle.legacy_regs.specs.declared.device.Kind.TheVariants.{Block, Net}
use Rattle.legacy_regs.specs.Fields.{common_size, queue_notify_field}
use Rattle.io_bar.specs.declared.access.Access.{Access}
use Rattle.io_bar.specs.declared.access.Access.TheVariants.{Read, Write}
use Rattle.io_bar.specs.declared.access.Place.{Place}
use Rattle.io_bar.specs.declared.access.Place.TheVariants.{Outside, Common, Device}
use Rattle.io_bar.specs.declared.access.Route.{Route}
use Rattle.io_bar.specs.declared.access.Route.TheVariants.{Command, Doorbell, Local}

-- the first byte of an access, from the beginning of the BAR on, and how many bytes it has

abbrev pub offset_of : Access → ℕ
offset_of (Read offset count) = offset
offset_of (Write offset bytes) = offset

abbrev pub count_of : Access → ℕ
count_of (Read offset count) = count
count_of (Write offset bytes) = length bytes

-- a processor's access to I/O ports has 1, 2 or 4 bytes
abbrev pub is_port_width : ℕ → Bool
is_port_width count = count == 1 || count == 2 || count == 4

-- bytes of the BAR: of this project
abbrev pub bar_size : Kind → ℕ
bar_size (Block sectors read_only) = 64
bar_size (Net mac) = 32

-- it stays with the host where I/O is disabled, or where it passes the BAR: of this project
abbrev pub is_local : Kind → Bool → Access → Bool
is_local kind io access = not io || nat_lt (bar_size kind) (offset_of access + count_of access)

-- a write of the 2 bytes of queue notify: 4.1.5.2
abbrev pub rings_doorbell : ℕ → List ℕ → Bool
rings_doorbell offset bytes = (offset == queue_notify_field.offset) && (length bytes == queue_notify_field.size)

-- the device-specific structure begins behind the common one, which is longer with MSI-X enabled: 4.1.4.10
abbrev pub device_base : Bool → ℕ
device_base msix = common_size msix

-- where so many bytes from an offset on lie: with the host, or in a structure from an offset on

abbrev pub place_behind : ℕ → ℕ → Place
place_behind base offset = if nat_lt offset base then Common offset else Device (offset - base)

abbrev pub place_of : Kind → Bool → Bool → ℕ → ℕ → Place
place_of kind msix io offset count = if not io || nat_lt (bar_size kind) (offset + count) then Outside else place_behind (device_base msix) offset

-- the command for a read: one of the common structure where it begins there, else one of the device-specific structure
abbrev pub read_command : ℕ → ℕ → ℕ → LegacyCmd
read_command base offset count = if nat_lt offset base then CommonRead offset count else DevRead (offset - base) count

abbrev pub write_command : ℕ → ℕ → List ℕ → LegacyCmd
write_command base offset bytes = if nat_lt offset base then CommonWrite offset bytes else DevWrite (offset - base) bytes

-- of an access that doesn't stay with the host
abbrev pub passed_on : Bool → Access → Route
passed_on msix (Read offset count) = Command (read_command (device_base msix) offset count)
passed_on msix (Write offset bytes) = if rings_doorbell offset bytes then Doorbell (le16 0 bytes) else Command (write_command (device_base msix) offset bytes)

abbrev pub route_of : Kind → Bool → Bool → Access → Route
route_of kind msix io access = if is_local kind io access then Local else passed_on msix access
