-- One of two asks.
use Rattle.std.proofs.Common.{◌≡◌, true, false, Option, None, Some, refl}
use Rattle.std.specs.Prelude.{is_none}
use Rattle.history.specs.Look.{or_else}

pub none_first : {A : Type 0} (first second : Option A) → is_none first ≡ true → second ≡ or_else first second
none_first None second is = refl
none_first (Some ask) second is = absurd (cc)

pub some_first : {A : Type 0} (first second : Option A) → is_none first ≡ false → first ≡ or_else first second
some_first None second is = absurd (cc)
some_first (Some ask) second is = refl
