-- The bytes so far are those of the written field, and the rest still stand as they were.
use Rattle.std.proofs.Common.{◌≡◌, ◌+◌, ◌++◌, take, drop}
use Rattle.legacy_regs.specs.Accesses.{bytes_put}
use Rattle.legacy_regs.proofs.bytes.put.Given as goal

abbrev pub invariant-loop-i : goal.invariant-loop-i
invariant-loop-i l =
    take l.i l.field ++ bytes_put (l.place + l.i) l.offset l.bytes (drop l.i l.field) ≡ bytes_put l.place l.offset l.bytes l.initial.field
