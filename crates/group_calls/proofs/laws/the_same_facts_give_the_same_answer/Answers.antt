use Rattle.group_calls.specs.Member.{answer_by}
use Rattle.group_calls.proofs.laws.the_same_facts_give_the_same_answer.Goals as goal

pub returns : goal.returns
returns c = λ made g h call killed floor same memory disk i. answer_by made (killed i) (floor i) (same i) (memory i) (disk i) call
