use Rattle.std.proofs.Common.{rules, ◌≡◌, ◌+◌, List, ℕ}
use Rattle.std.proofs.lemmas.Result.{IfOk-weaker}
use Rattle.byte_fields.specs.Places.{bytes_of}
use Rattle.admin_wire.specs.Command.{command_of}
use Rattle.admin_wire.specs.Numbers.{fixed_size}
use Rattle.admin_wire.specs.Writing.{fixed_part, legacy_bytes, legacy_command, result_length}
use Rattle.admin_wire.proofs.ReadAgain.{legacy_again}
use Rattle.admin_wire.proofs.writing.write_long_legacy.Goals as goal

pub returns-in-CommonWrite-clause-bytes : goal.returns-in-CommonWrite-clause-bytes
unfolding fixed_part bytes_of
returns-in-CommonWrite-clause-bytes c = search rules

pub returns-in-CommonWrite-clause-read_again : goal.returns-in-CommonWrite-clause-read_again
returns-in-CommonWrite-clause-read_again c =
    let member = c.args.member in
    let command = c.args.command.now in
    let again : (bytes : List ℕ) → bytes ≡ legacy_bytes member command → command_of bytes (fixed_size + result_length command) ≡ legacy_command member command =
    λ bytes is. rw is (legacy_again member command c.ranges.member.fits) in
    IfOk-weaker c.joined.result _ _ again (returns-in-CommonWrite-clause-bytes c)
