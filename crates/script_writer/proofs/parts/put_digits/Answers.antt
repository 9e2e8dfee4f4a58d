use Rattle.std.proofs.Common.{◌/◌, ◌%◌, slice_index, refl, arith}
use Rattle.hex.specs.Hex.{lower_digits}
use Rattle.script_writer.proofs.Left.{digits_left, no_digits_left}
use Rattle.script_writer.proofs.parts.put_digits.Goals as goal

pub loop-byte-preserved : goal.loop-byte-preserved
loop-byte-preserved c =
    let byte = slice_index c.args.bytes.now c.loop-byte.byte-index in
    rw (c.in_ok-push-2.ensures.ok, c.in_ok-push.ensures.ok)
    (digits_left _ c.loop-byte.text c.args.bytes.now c.loop-byte.byte-index (slice_index lower_digits (byte / 16)) (slice_index lower_digits (byte % 16)) (omega arith) refl refl c.loop-byte.invariant)

pub returns : goal.returns
returns c = no_digits_left _ c.loop-byte.text c.args.bytes.now c.loop-byte.byte-index (omega arith) c.loop-byte.invariant
