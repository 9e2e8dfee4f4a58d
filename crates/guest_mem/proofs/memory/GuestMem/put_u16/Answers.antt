use Rattle.std.proofs.Common.{List, ℕ, ap, ◌∙◌}
use Rattle.byte_fields.specs.Places.{overwrite, bytes_of}
use Rattle.guest_mem.proofs.memory.GuestMem.put_u16.Goals as goal

pub returns-clause-written : goal.returns-clause-written
unfolding bytes_of
returns-clause-written c = c.write.ensures.written ∙ ap (λ (b : List ℕ). overwrite c.args.addr b c.args.self.now) c.write_u16.ensures
