-- A line looked at byte by byte, without its words. The code's own.
use Rattle.std.specs.Prelude.{ℕ, ◌==◌, ◌&&◌, ◌||◌, nat_le, not, Bool, List, [], ◌∷◌}

-- A byte of a word or a space, but no space behind a space. The byte before the first of a line counts as a space.
abbrev pub may_follow : ℕ → ℕ → Bool
may_follow before byte = (nat_le 32 byte && nat_le byte 126) && (not (before == 32) || not (byte == 32))

-- whether the bytes so far and those that are left may stand one behind another, and the last is no space
abbrev pub goes_on : Bool → ℕ → List ℕ → Bool
goes_on good before [] = good && not (before == 32)
goes_on good before (byte ∷ rest) = goes_on (good && may_follow before byte) byte rest
