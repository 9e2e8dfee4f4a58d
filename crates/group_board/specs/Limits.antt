-- Limits of this project.
use Rattle.std.specs.Prelude.{ℕ}

-- the longest input, in bytes
abbrev pub text_limit : ℕ
text_limit = 1048576

-- the longest piece that is read or put at once, in bytes
abbrev pub transfer_limit : ℕ
transfer_limit = 4096
