use Rattle.std.proofs.Common.{arith, sym, ◌∙◌, ap, length, ◌*◌}
use Rattle.byte_fields.proofs.Places.{vec_written}
use Rattle.blk_engine.proofs.disk.Disk.write.Goals as goal

pub returns-clause-written : goal.returns-clause-written
returns-clause-written c = rw (c.deref_mut.ensures.value, c.copy_from_slice.ensures.after, c.self.view_is) (vec_written c.args.self.now c.args.bytes.now c.self.inside.bytes.len (512 * c.args.sector) _ (sym c.deref_mut.ensures.len ∙ ap length (c.deref_mut.ensures.value ∙ c.self.view_is)) (omega arith) c.requires)
