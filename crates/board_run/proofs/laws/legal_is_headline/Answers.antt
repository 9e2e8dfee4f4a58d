use Rattle.answer_laws.proofs.Heading.{legal_headline}
use Rattle.board_run.proofs.laws.legal_is_headline.Goals as goal

pub returns : goal.returns
returns c = legal_headline
