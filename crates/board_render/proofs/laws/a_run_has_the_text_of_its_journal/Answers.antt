use Rattle.board_render.proofs.RunTexts.{run_agrees}
use Rattle.board_render.proofs.laws.a_run_has_the_text_of_its_journal.Goals as goal

pub returns : goal.returns
returns c s j cells actors left is = run_agrees s j cells actors left is
