-- A line that disables a member kills it, and one that resets the owner kills each member. Of this project.
use Rattle.std.specs.Prelude.{◌≡◌, ℕ, List, ◌∷◌, ◌++◌, Some}
use Rattle.group_calls.specs.Asks.{Exchange}
use Rattle.group_calls.specs.MemberEntries.{MemberEntry}
use Rattle.member_laws.specs.Ends.{killed}
use Rattle.board_script.specs.declared.script.ActorLine.{ActorLine}
use Rattle.board_script.specs.declared.script.What.TheVariants as what
use Rattle.board_script.specs.Script.{Whole}
use Rattle.journal.specs.Performing.{Performed}
use Rattle.journal.specs.Journals.{Journal, IsLegalJournal, IsGuestOf}
use Rattle.journal_laws.specs.Order.{performing}

-- a member was killed, under some floor
pub record IsKilled (h : List MemberEntry) : Type 0 where
  pub floor : ℕ
  pub killed : killed h ≡ Some floor

abbrev pub DisablingKills : Type 0
DisablingKills =
    (s : Whole) (j : Journal) → IsLegalJournal s j → (who m : ℕ) (later earlier : List Performed) (line : ActorLine) (asked : List Exchange) → j.past who ≡ later ++ performing line asked ∷ earlier
    → line.what ≡ what.Disable m → IsKilled (j.member m)

abbrev pub ResettingKills : Type 0
ResettingKills =
    (s : Whole) (j : Journal) → IsLegalJournal s j → (who : ℕ) (later earlier : List Performed) (line : ActorLine) (asked : List Exchange) → j.past who ≡ later ++ performing line asked ∷ earlier
    → line.what ≡ what.Reset → (m : ℕ) → IsGuestOf s m → IsKilled (j.member m)
