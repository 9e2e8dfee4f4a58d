use Rattle.host_machine.proofs.RunGrammar.{whole, begun}
use Rattle.host_machine.proofs.laws.the_machine_asks_what_the_grammar_has.Goals as goal

pub returns : goal.returns
returns c = record { whole = whole; begun = begun }
