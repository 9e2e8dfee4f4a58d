-- Journals of runs so far. Of this project.
use Rattle.std.specs.Prelude.{◌≡◌, ℕ, Bool, true, false}
use Rattle.board_script.specs.Script.{Whole}
use Rattle.journal.specs.Journals.{Journal}
use Rattle.journal.specs.Worlds.{first, turn}
use Rattle.journal.specs.Settling.{brought_up}

-- until the group is brought up the board alone has turns
abbrev pub HasTurns : Bool → ℕ → Type 0
HasTurns false who = who ≡ 0
HasTurns true who = Unit {0}

-- a run so far: nothing happened yet, or the group is brought up, or behind such a run one more actor had a turn
pub data IsReached (s : Whole) : Bool → Journal → Type 0 where
  begins : IsReached s false first
  is_up : IsReached s true (brought_up s first)
  goes_on : (up : Bool) (j : Journal) (who : ℕ) → HasTurns up who → IsReached s up j → IsReached s up (turn s j who)
