use Rattle.std.proofs.Common.{◌≡◌, ◌∷◌, ◌++◌, Some, sym, ap, ◌∙◌, subst}
use Rattle.std.specs.Prelude.{IsSomeAnd, option_map, slice_index}
use Rattle.group_calls.specs.Asks.{AnswersAsk}
use Rattle.journal.specs.Doing.{Doing, raised, own_ask, after}
use Rattle.actor_core.specs.declared.performer.Performer.{Performer}
use Rattle.actor_core.specs.Actors.{IsHeard, and_asked}
use Rattle.actor_core.specs.Answered.{IsGuestNumber}
use Rattle.actor_core.specs.Performers.{LearnsOthers, asks_next, ending_by, known_by, now_doing}
use Rattle.actor_core.specs.Refused.{ends_refused}
use Rattle.actor_core.specs.Shown.{answers_text, ending_text}
use Rattle.actor_core.specs.Stands.{Stands}
use Rattle.actor_core.proofs.Standing.{stands_fed}
use Rattle.actor_core.proofs.Learning.{driver_learns_no_other}
use Rattle.actor_core.proofs.actor.Actor.hear_driver.Goals as goal

pub returns : goal.returns
returns c =
    let old = c.args.self.now in
    let p = old.performer in
    let ask = c.in-Some.ask in
    let told = c.args.told.now in
    let given = c.in-Some.is in
    let asked = (subst (λ o. IsSomeAnd o (λ a. (asks_next p ≡ Some a) × AnswersAsk a told)) given c.requires.given).0 in
    let heard = c.hear_driver.ensures in
    let shown = c.show.ensures in
    let by_driver = subst (λ (d : Doing). option_map (raised (known_by p)) (own_ask p.who p.driver.known d) ≡ Some ask) c.requires.doing asked in
    let others : LearnsOthers p c.hear_driver.new.self ask told = λ m known few other is. ap (λ floors. slice_index floors m) heard.floors ∙ sym is
    ∙ ap (λ k. k.floor) (driver_learns_no_other p.who m (known_by p) p.driver.known known p.driver.stage ask told other by_driver) in
    let ended : c.hear_driver.new.ending ≡ ending_by p.driver.known (now_doing p) ask told = heard.ending ∙ ap (λ d. ending_by p.driver.known d ask told) (sym c.requires.doing) in
    subst (λ o. IsSomeAnd o (λ a. IsHeard old c.show.new.self a told)) (sym given) (record {
      lines = shown.noted.lines;
      who = ap (λ q. q.who) shown.noted.performer ∙ heard.who;
      number = shown.noted.number;
      outside = shown.noted.outside;
      given = shown.given;
      trace = shown.noted.trace;
      left = shown.left;
      short = shown.noted.short;
      stands = λ s who performed past stands. subst (λ (q : Performer). Stands s who (and_asked ask told performed ∷ past) q) (sym shown.noted.performer)
          (stands_fed s who performed past p c.hear_driver.new.self ask told stands heard.who heard.io heard.driver (heard.fits s) (λ guest. heard.own) others
          (heard.doing s ∙ ap (λ d. after s p.driver.known d told) (sym c.requires.doing)));
      answers = λ guest short. shown.answers (subst IsGuestNumber (sym heard.who) guest) short ∙ ap (λ e. answers_text old.kept.answers.items.items ++ ending_text old.number old.outside told e) ended;
      refused = λ guest refused. shown.refused (subst IsGuestNumber (sym heard.who) guest) (ap ends_refused ended ∙ refused);
    })
