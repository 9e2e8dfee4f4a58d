use Rattle.std.proofs.Common.{rules, refl, arith, length, ◌≡◌}
use Rattle.byte_fields.specs.Places.{bytes_of}
use Rattle.admin_wire.proofs.ReadAgain.{use_again}
use Rattle.admin_wire.proofs.writing.write_use.Goals as goal

pub extend-requires : goal.extend-requires
extend-requires c = let size : length c.to_le_bytes.result ≡ 8 = rw c.to_le_bytes.ensures refl in omega arith

pub returns-clause-bytes : goal.returns-clause-bytes
unfolding bytes_of
returns-clause-bytes c = search rules

pub returns-clause-read_again : goal.returns-clause-read_again
returns-clause-read_again c writable = rw (returns-clause-bytes c) (use_again c.args.bits writable c.ranges.bits.fits)
