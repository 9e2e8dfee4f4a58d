use Rattle.std.proofs.Common.{subst}
use Rattle.history.specs.Legal.{IsLegal}
use Rattle.history.specs.Places.{before}
use Rattle.history.proofs.LegalLemmas.{legal_earlier, before_earlier}
use Rattle.history.proofs.laws.what_stood_before_is_legal.Goals as goal

pub returns : goal.returns
returns g c = λ made h p legal.
    let split = before_earlier h p in (
      legal_earlier (g.S.Serial.answer made) g.S.Serial.is_quiet (g.S.Serial.may_call made) split.0 (before p h)
          (subst (IsLegal (g.S.Serial.answer made) g.S.Serial.is_quiet (g.S.Serial.may_call made)) split.1 legal),
      split,
    )
