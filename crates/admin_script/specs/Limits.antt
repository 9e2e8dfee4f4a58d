-- How large the things are that the input of `admin` names. Of this project.
use Rattle.std.specs.Prelude.{ℕ}

-- the most virtual functions
abbrev pub function_limit : ℕ
function_limit = 16

-- the most bytes of a command
abbrev pub command_limit : ℕ
command_limit = 256

-- the most bytes that a command leaves room for
abbrev pub room_limit : ℕ
room_limit = 256
