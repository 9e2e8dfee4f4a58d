-- Reading a source to its end.
use Rattle.std.specs.Prelude.{◌≡◌, ℕ, ◌<◌, ◌≤◌, List, length, IfSome, Option, Result, Ok, Err}
use Rattle.std.specs.Io.KnownBytes.{IsAtEnd}
use Rattle.group_board.specs.Limits.{text_limit}
use Rattle.group_board.specs.declared.reading.ReadFailure.{ReadFailure}
use Rattle.group_board.specs.declared.reading.ReadFailure.TheVariants.{TooLong, Fault, NoMemory}

-- Where what is left is told: all of it was read, or it is longer than the limit.
abbrev pub ReadsAll : Option (List ℕ) → Option (List ℕ) → Result (List ℕ) ReadFailure → Type 0
ReadsAll old new (Ok text) = IfSome old (λ all. (all ≡ text) × IsAtEnd new) × (length text ≤ text_limit)
ReadsAll old new (Err TooLong) = IfSome old (λ all. text_limit < length all)
ReadsAll old new (Err Fault) = Unit {0}
ReadsAll old new (Err NoMemory) = Unit {0}
