-- How long a history is, and how many actors there are. Of this project.
use Rattle.std.specs.Prelude.{ℕ, ◌^◌}

abbrev pub history_limit : ℕ
history_limit = 2 ^ 62

-- the board, 16 guests, 8 workers and the host
abbrev pub actor_limit : ℕ
actor_limit = 26
