use Rattle.history.proofs.LegalLemmas.{legal_at}
use Rattle.history.proofs.laws.each_entry_is_answered.Goals as goal

pub returns : goal.returns
returns g c = λ made h p e legal at. legal_at (g.S.Serial.answer made) g.S.Serial.is_quiet (g.S.Serial.may_call made) h p e legal at
