use Rattle.std.proofs.Common.{arith}
use Rattle.ring_layout.proofs.Layouts.{table_lies}
use Rattle.ring_layout.proofs.table.Table.of_ring.Goals as goal

pub returns-clause-inside : goal.returns-clause-inside
returns-clause-inside c = table_lies _ c.args.layout.now c.new.result c.requires (omega arith) c.new.ensures
