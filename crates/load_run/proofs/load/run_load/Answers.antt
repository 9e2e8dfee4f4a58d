use Rattle.std.proofs.Common.{◌≡◌, subst}
use Rattle.std.specs.Prelude.{IfOk}
use Rattle.board_script.specs.Script.{Whole}
use Rattle.journal.specs.Settling.{final_of}
use Rattle.load_run.specs.Load.{load_summary}
use Rattle.load_run.proofs.load.run_load.Goals as goal

pub returns : goal.returns
returns c =
    subst (λ (s : Whole). IfOk c.summary.result (λ text. text ≡ load_summary s (final_of s))) c.in_ok-script.ensures
    (c.summary.ensures (final_of c.in_ok-script.script) c.in_ok-ran.ensures.run.cells_of)
