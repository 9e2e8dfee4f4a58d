-- An access of 1, 2 or 4 bytes has a command that lies in a piece itself.
use Rattle.std.proofs.Common.{◌≡◌, ℕ, ◌≤◌, Bool, true, false, cond, List, length, subst, arith}
use Rattle.std.proofs.lemmas.Bool.Decides.{nat_tests}
use Rattle.std.specs.Prelude.{◌-◌, nat_lt}
use Rattle.byte_fields.specs.Places.{le16}
use Rattle.admin_wire.specs.declared.command.LegacyCmd.{LegacyCmd}
use Rattle.admin_wire.specs.declared.command.LegacyCmd.TheVariants.{CommonWrite, CommonRead, DevWrite, DevRead}
use Rattle.legacy_regs.specs.declared.device.Kind.{Kind}
use Rattle.io_bar.specs.declared.access.Access.{Access}
use Rattle.io_bar.specs.declared.access.Access.TheVariants.{Read, Write}
use Rattle.io_bar.specs.declared.access.Route.TheVariants.{Command, Doorbell, Local}
use Rattle.io_bar.specs.Route.{count_of, is_local, is_port_width, rings_doorbell, device_base, read_command, write_command, route_of}
use Rattle.vfio_driver.specs.Access.{FitsCommand}

few : (n : ℕ) → is_port_width n ≡ true → n ≤ 4
few n width = grind (arith, nat_tests, width)

read_fits : (base offset count : ℕ) → count ≤ 4 → FitsCommand (read_command base offset count)
read_fits base offset count small = go (nat_lt offset base)
  where
    go : (b : Bool) → FitsCommand (cond b (CommonRead offset count) (DevRead (offset - base) count))
    go true = (omega arith, omega arith)
    go false = (omega arith, omega arith)

write_fits : (base offset : ℕ) (bytes : List ℕ) → length bytes ≤ 4 → FitsCommand (write_command base offset bytes)
write_fits base offset bytes small = go (nat_lt offset base)
  where
    go : (b : Bool) → FitsCommand (cond b (CommonWrite offset bytes) (DevWrite (offset - base) bytes))
    go true = (omega arith, omega arith)
    go false = (omega arith, omega arith)

same_command : (a b : LegacyCmd) → Command a ≡ Command b → a ≡ b
same_command a b e = cc

pub routed_fits : (kind : Kind) (msix io : Bool) (access : Access) (command : LegacyCmd) → is_port_width (count_of access) ≡ true → route_of kind msix io access ≡ Command command → FitsCommand command
routed_fits kind msix io (Read offset count) command width goes = go (is_local kind io (Read offset count)) goes
  where
    go : (b : Bool) → cond b Local (Command (read_command (device_base msix) offset count)) ≡ Command command → FitsCommand command
    go true e = absurd cc
    go false e = subst FitsCommand (same_command _ command e) (read_fits (device_base msix) offset count (few count width))
routed_fits kind msix io (Write offset bytes) command width goes = go (is_local kind io (Write offset bytes)) (rings_doorbell offset bytes) goes
  where
    go : (b r : Bool) → cond b Local (cond r (Doorbell (le16 0 bytes)) (Command (write_command (device_base msix) offset bytes))) ≡ Command command → FitsCommand command
    go true r e = absurd cc
    go false true e = absurd cc
    go false false e = subst FitsCommand (same_command _ command e) (write_fits (device_base msix) offset bytes (few (length bytes) width))
