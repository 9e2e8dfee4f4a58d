-- The bytes of a piece. Of this project.
use Rattle.std.specs.Prelude.{ℕ, ◌≤◌, List, length, take}
use Rattle.board_text.specs.Limits.{piece_limit, place_limit}
use Rattle.board_text.specs.declared.pieces.Near.{Near}
use Rattle.board_text.specs.declared.pieces.Kept.{Kept}
use Rattle.board_text.specs.declared.pieces.Kept.TheVariants.{Near as Here, Far}

-- those in the value itself
abbrev pub near_bytes : Near → List ℕ
near_bytes near = take near.count near.bytes

abbrev pub kept_bytes : Kept → List ℕ
kept_bytes (Here near) = near_bytes near
kept_bytes (Far bytes) = bytes.now

-- neither more in the value itself than there is room for, nor more than a piece has
abbrev pub FitsPiece : Kept → Type 0
FitsPiece (Here near) = near.count ≤ place_limit
FitsPiece (Far bytes) = length bytes.now ≤ piece_limit
