use Rattle.std.proofs.Common.{ap, ◌∙◌}
use Rattle.std.specs.Prelude.{option_map}
use Rattle.journal.specs.Doing.{raised}
use Rattle.actor_core.specs.Performers.{known_by}
use Rattle.actor_core.proofs.Standing.{asks_behind}
use Rattle.actor_core.proofs.performer.Performer.put_ask.Goals as goal

pub returns-clause-behind : goal.returns-clause-behind
returns-clause-behind c s who past stands near =
    c.raise.ensures ∙ ap (option_map (raised (known_by c.args.self.now))) c.in_ok-put_own_ask.ensures.ok ∙ asks_behind s who past c.args.self.now stands near
