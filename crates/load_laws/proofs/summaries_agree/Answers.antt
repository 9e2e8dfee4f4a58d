use Rattle.load_laws.proofs.Summary.{same_summary}
use Rattle.load_laws.proofs.summaries_agree.Goals as goal

pub returns : goal.returns
returns c s j script legal summed = same_summary s j script legal summed
