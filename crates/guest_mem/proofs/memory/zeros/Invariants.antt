use Rattle.std.proofs.Common.{◌≡◌, ◌*◌, replicate}
use Rattle.guest_mem.proofs.memory.zeros.Given as goal

-- one part of zeros for each turn
abbrev pub invariant-parts : goal.invariant-parts
invariant-parts l = l.bytes.items ≡ replicate (1024 * l._part) 0
