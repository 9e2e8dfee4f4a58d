use Rattle.vfio_driver.proofs.HeardLaws.{whole, begun}
use Rattle.vfio_driver.proofs.laws.the_machine_asks_what_the_grammar_has.Goals as goal

pub returns : goal.returns
returns c = record { whole = λ guest queue known route heard. whole guest known queue route heard; begun = λ guest queue known route heard. begun guest known queue route heard }
