-- What actors leave that shared the cells is a legal journal.
use Rattle.thread_laws.specs.Gathered.{GatheredIsLegal}
use Rattle.thread_laws.proofs.Heard.{recorded_whole, ends_well}
use Rattle.thread_laws.proofs.Framed.{whole_framed}
use Rattle.thread_laws.proofs.Up.{whole_well}

pub gathered_legal : GatheredIsLegal
gathered_legal s j script x = record {
  histories = x.histories;
  recorded = recorded_whole s j x;
  lines = λ who. (x.through who).lines;
  performed = λ who. (x.through who).performed;
  brought = whole_well s j x script;
  framed = whole_framed s j x;
  heard = λ who guest. ends_well s j x who;
}
