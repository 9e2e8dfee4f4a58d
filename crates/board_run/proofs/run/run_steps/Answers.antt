use Rattle.std.proofs.Common.{sym, subst}
use Rattle.journal.specs.Worlds.{first}
use Rattle.board_run.specs.Standing.{HoldsJournal}
use Rattle.board_run.proofs.Beginning.{new_hold}
use Rattle.board_run.proofs.run.run_steps.Goals as goal

pub bring_up-requires-clause-cells : goal.bring_up-requires-clause-cells
bring_up-requires-clause-cells c = subst (HoldsJournal c.args.script.now first) (sym c.in_ok-cells.ensures) (new_hold c.args.script.now)
