-- From what holds where a call succeeded.
use Rattle.std.proofs.Common.{Result, Ok, Err}
use Rattle.std.specs.Prelude.{IfOk, OnOk}

pub OnOk-then : {T E P Q : Type 0} (r : Result T E) → OnOk r P → (P → Q) → OnOk r Q
OnOk-then (Ok value) holds then = then holds
OnOk-then (Err error) holds then = tt

-- two facts, of which one is of the value
pub both-then : {T E O : Type 0} {P Q : T → Type 0} (r : Result T E) → IfOk r P → OnOk r O → ((value : T) → P value → O → Q value) → IfOk r Q
both-then (Ok value) holds also then = then value holds also
both-then (Err error) holds also then = tt
