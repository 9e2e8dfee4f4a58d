use Rattle.vfio_driver.proofs.BringRunGrammar.{whole, begun}
use Rattle.vfio_driver.proofs.laws.bring_up_asks_what_the_grammar_has.Goals as goal

pub returns : goal.returns
returns c = record { whole = λ member xs. whole member xs; begun = λ member xs. begun member xs }
