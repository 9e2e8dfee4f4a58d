use Rattle.std.proofs.Common.{List, ℕ, ap, ◌∙◌, lit≤}
use Rattle.byteorder.specs.Endian.{little_number}
use Rattle.byte_fields.proofs.Places.{number_read}
use Rattle.guest_mem.proofs.memory.GuestMem.u64_at.Goals as goal

pub returns : goal.returns
returns c = c.read_u64.ensures ∙ ap (λ (b : List ℕ). little_number 8 b) c.part.ensures.bytes ∙ number_read 8 c.args.addr 8 c.args.self.now (lit≤ tt)
