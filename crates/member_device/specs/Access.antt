-- Accesses by their structure, and what a write does to the frames that wait. The code's own.
use Rattle.std.specs.Prelude.{ℕ, List, []}
use Rattle.admin_wire.specs.declared.command.LegacyCmd.{LegacyCmd}
use Rattle.admin_wire.specs.declared.command.LegacyCmd.TheVariants.{CommonWrite, CommonRead, DevWrite, DevRead}
use Rattle.legacy_regs.specs.declared.accesses.Space.{Space}
use Rattle.legacy_regs.specs.declared.accesses.Space.TheVariants.{Common, Device}
use Rattle.legacy_regs.specs.declared.accesses.Effect.{Effect}
use Rattle.legacy_regs.specs.declared.accesses.Effect.TheVariants.{Reset}

abbrev pub read_command : Space → ℕ → ℕ → LegacyCmd
read_command Common offset count = CommonRead offset count
read_command Device offset count = DevRead offset count

abbrev pub write_command : Space → ℕ → List ℕ → LegacyCmd
write_command Common offset bytes = CommonWrite offset bytes
write_command Device offset bytes = DevWrite offset bytes

abbrev pub waiting_after : Effect → List (List ℕ) → List (List ℕ)
waiting_after Reset waiting = []
waiting_after _ waiting = waiting
