-- From what holds where a call succeeded.
use Rattle.std.proofs.Common.{Result, Ok, Err}
use Rattle.std.specs.Prelude.{OnOk}

pub OnOk-then : {T E P Q : Type 0} (r : Result T E) → OnOk r P → (P → Q) → OnOk r Q
OnOk-then (Ok value) holds then = then holds
OnOk-then (Err error) holds then = tt

-- three facts
pub three-then : {T E A B C Q : Type 0} (r : Result T E) → OnOk r A → OnOk r B → OnOk r C → (A → B → C → Q) → OnOk r Q
three-then (Ok value) a b c then = then a b c
three-then (Err error) a b c then = tt
