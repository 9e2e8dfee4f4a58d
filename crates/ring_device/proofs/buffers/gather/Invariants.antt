use Rattle.std.proofs.Common.{◌≡◌, ◌++◌, drop}
use Rattle.ring_layout.specs.Chain.{readable_bytes}
use Rattle.ring_device.proofs.buffers.gather.Given as goal

abbrev pub invariant-loop-part : goal.invariant-loop-part
invariant-loop-part l = l.bytes.items ++ readable_bytes l.mem (drop l.part-index l.parts) ≡ readable_bytes l.mem l.parts
