use Rattle.std.proofs.Common.{◌≡◌, ◌∷◌, ◌++◌, Some, sym, ap, ◌∙◌, subst}
use Rattle.std.specs.Prelude.{IsSomeAnd}
use Rattle.group_calls.specs.Asks.{AnswersAsk}
use Rattle.actor_core.specs.declared.performer.Performer.{Performer}
use Rattle.actor_core.specs.Actors.{IsHeard, and_asked}
use Rattle.actor_core.specs.Answered.{IsGuestNumber}
use Rattle.actor_core.specs.Performers.{asks_next}
use Rattle.actor_core.specs.Refused.{ends_refused}
use Rattle.actor_core.specs.Shown.{answers_text, ending_text}
use Rattle.actor_core.specs.Stands.{Stands}
use Rattle.actor_core.proofs.Standing.{stands_fed}
use Rattle.actor_core.proofs.Ending.{told_unrefused}
use Rattle.actor_core.proofs.actor.Actor.hear_other.Goals as goal

pub returns : goal.returns
returns c =
    let old = c.args.self.now in
    let p = old.performer in
    let ask = c.in-Some.ask in
    let told = c.args.told.now in
    let given = c.in-Some.is in
    let asked = (subst (λ o. IsSomeAnd o (λ a. (asks_next p ≡ Some a) × AnswersAsk a told)) given c.requires.given).0 in
    let heard = c.hear_other-ended.ensures in
    let shown = c.show_where.ensures in
    subst (λ o. IsSomeAnd o (λ a. IsHeard old c.show_where.new.self a told)) (sym given) (record {
      lines = shown.noted.lines;
      who = ap (λ q. q.who) shown.noted.performer ∙ heard.who;
      number = shown.noted.number;
      outside = shown.noted.outside;
      given = shown.given;
      trace = shown.noted.trace;
      left = shown.left;
      short = shown.noted.short;
      stands = λ s who performed past stands. subst (λ (q : Performer). Stands s who (and_asked ask told performed ∷ past) q) (sym shown.noted.performer)
          (stands_fed s who performed past p c.hear_other-ended.new.self ask told stands heard.who heard.io heard.driver (heard.fits s stands.fits) heard.own heard.others (heard.doing s stands.fits));
      answers = λ guest short. shown.answers (subst IsGuestNumber (sym heard.who) guest) short ∙ ap (λ e. answers_text old.kept.answers.items.items ++ ending_text old.number old.outside told e) heard.ending;
      refused = λ guest refused. absurd (told_unrefused c.hear_other-ended.result (ap ends_refused heard.ending ∙ refused));
    })
