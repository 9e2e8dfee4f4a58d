-- For how many bytes of a piece there is room. Of this project.
use Rattle.std.specs.Prelude.{ℕ, nat_le, Option, Some, None, if◌then◌else◌}
use Rattle.board_text.specs.Limits.{piece_limit, place_limit}

-- without memory, or with some
abbrev pub room_with : {A : Type 0} → Option A → ℕ
room_with None = place_limit
room_with (Some spare) = piece_limit

-- the room that is taken for so many bytes
abbrev pub room_for : ℕ → ℕ
room_for most = if nat_le most place_limit then place_limit else piece_limit
