-- Register accesses by their structure. The code's own.
use Rattle.std.specs.Prelude.{ℕ, List}
use Rattle.admin_wire.specs.declared.command.LegacyCmd.{LegacyCmd}
use Rattle.admin_wire.specs.declared.command.LegacyCmd.TheVariants.{CommonWrite, CommonRead, DevWrite, DevRead}
use Rattle.legacy_regs.specs.declared.accesses.Space.{Space}
use Rattle.legacy_regs.specs.declared.accesses.Space.TheVariants.{Common, Device}

abbrev pub read_of : Space → ℕ → ℕ → LegacyCmd
read_of Common offset count = CommonRead offset count
read_of Device offset count = DevRead offset count

abbrev pub write_of : Space → ℕ → List ℕ → LegacyCmd
write_of Common offset bytes = CommonWrite offset bytes
write_of Device offset bytes = DevWrite offset bytes
