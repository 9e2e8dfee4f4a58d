-- What a word stands for where it must be a number or hex. Of this project.
use Rattle.std.specs.Prelude.{◌≡◌, ℕ, ◌==◌, ◌&&◌, ◌||◌, nat_le, nat_lt, if◌then◌else◌, Bool, List, length, Option, Some, None, Result, Ok, Err}
use Rattle.board_text.specs.Number.{number_of}
use Rattle.board_text.specs.Hex.{hex_bytes}
use Rattle.byte_fields.specs.Sizes.{is_queue_size}
use Rattle.script_words.specs.declared.cause.Cause.{Cause}
use Rattle.script_words.specs.declared.cause.Cause.TheVariants as cause
use Rattle.script_words.specs.declared.cause.Fault.{Fault}
use Rattle.script_words.specs.declared.cause.Fault.TheVariants as fault

-- The first cause counts.
infixl 10 ◌>>=◌
abbrev pub ◌>>=◌ : {A B : Type 0} → Result A Cause → (A → Result B Cause) → Result B Cause
(Ok x) >>= f = f x
(Err e) >>= f = Err e

-- What a function answered is what reading gives, unless memory ran out.
abbrev pub Gives : {A : Type 0} → Result A Fault → Result A Cause → Type 0
Gives (Ok found) read = read ≡ Ok found
Gives (Err (fault.Bad found)) read = read ≡ Err found
Gives (Err fault.NoMemory) read = Unit {0}

-- the same, of a function that takes no memory
abbrev pub GivesAlways : {A : Type 0} → Result A Fault → Result A Cause → Type 0
GivesAlways (Ok found) read = read ≡ Ok found
GivesAlways (Err (fault.Bad found)) read = read ≡ Err found
GivesAlways (Err fault.NoMemory) read = ⊥

-- the same as the first, of a function that changes what it was handed
abbrev pub Steps : {A U : Type 0} → Result U Fault → A → Result A Cause → Type 0
Steps (Ok done) new read = read ≡ Ok new
Steps (Err (fault.Bad found)) new read = read ≡ Err found
Steps (Err fault.NoMemory) new read = Unit {0}

abbrev pub when : {A : Type 0} → Bool → Cause → A → Result A Cause
when holds otherwise found = if holds then Ok found else Err otherwise

-- a number within bounds
abbrev pub within : ℕ → ℕ → Option ℕ → Result ℕ Cause
within low high None = Err cause.Number
within low high (Some n) = when (nat_le low n && nat_le n high) cause.Number n

abbrev pub number_in : ℕ → ℕ → List ℕ → Result ℕ Cause
number_in low high word = within low high (number_of word)

-- a number of any size
abbrev pub any_number : Option ℕ → Result ℕ Cause
any_number None = Err cause.Number
any_number (Some n) = Ok n

-- 1, 2 or 4
abbrev pub is_width : ℕ → Bool
is_width n = n == 1 || n == 2 || n == 4

abbrev pub width_at : Option ℕ → Result ℕ Cause
width_at None = Err cause.Number
width_at (Some n) = when (is_width n) cause.Number n

abbrev pub queue_size_at : Option ℕ → Result ℕ Cause
queue_size_at None = Err cause.Number
queue_size_at (Some n) = when (is_queue_size n) cause.Number n

-- bytes of any number
abbrev pub any_bytes : Option (List ℕ) → Result (List ℕ) Cause
any_bytes None = Err cause.Hex
any_bytes (Some bytes) = Ok bytes

-- bytes of a number within bounds
abbrev pub bytes_within : ℕ → ℕ → Option (List ℕ) → Result (List ℕ) Cause
bytes_within low high None = Err cause.Hex
bytes_within low high (Some bytes) = when (nat_le low (length bytes) && nat_le (length bytes) high) cause.Range bytes

abbrev pub bytes_in : ℕ → ℕ → List ℕ → Result (List ℕ) Cause
bytes_in low high word = bytes_within low high (hex_bytes word)

-- 1, 2 or 4 bytes
abbrev pub bytes_of_width : Option (List ℕ) → Result (List ℕ) Cause
bytes_of_width None = Err cause.Hex
bytes_of_width (Some bytes) = when (is_width (length bytes)) cause.Range bytes

-- one of those that exist
abbrev pub among : ℕ → ℕ → Option ℕ → Result ℕ Cause
among low end None = Err cause.Number
among low end (Some n) = when (nat_le low n && nat_lt n end) cause.Actor n
