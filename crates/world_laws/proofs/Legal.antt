-- Runs on one thread are legal.
use Rattle.journal.specs.Laws.{WorldIsLegal}
use Rattle.journal.specs.Settling.{final}
use Rattle.world_laws.proofs.SoFar.{world_so_far}
use Rattle.world_laws.proofs.Finals.{final_so_far, final_well, legal_where_ended}
use Rattle.world_laws.proofs.Ended.{all_ended}
use Rattle.world_laws.proofs.Short.{short_run}

pub world_legal : WorldIsLegal
world_legal s turns script few =
    let short = short_run s turns script few in
    (world_so_far s script turns short, legal_where_ended s (final s turns) (final_so_far s script turns short) (all_ended s script turns short) (final_well s script turns short))
