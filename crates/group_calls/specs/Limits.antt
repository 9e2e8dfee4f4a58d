-- How much a command takes. Of this project.
use Rattle.std.specs.Prelude.{ℕ}

-- the bytes that a command's device has to answer in at most
abbrev pub writable_limit : ℕ
writable_limit = 256
