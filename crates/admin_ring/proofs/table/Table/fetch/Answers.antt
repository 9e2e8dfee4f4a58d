use Rattle.std.proofs.Common.{refl, rules}
use Rattle.admin_ring.proofs.Indexing.{indexed_change}
use Rattle.admin_ring.proofs.table.Table.fetch.Goals as goal

pub invariant_of-self : goal.invariant_of-self
invariant_of-self c = indexed_change c.self.inside.notes c.self.inside.keys c.args.key c.index_mut-note.result.now _ (search rules) c.index_mut-note.ensures.value refl c.self.invariant
