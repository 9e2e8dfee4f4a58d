-- What a guest is shown for the lines that have ended. Of this project.
use Rattle.std.specs.Prelude.{◌≡◌, ℕ, ◌≤◌, Bool, true, false, List, [], ◌∷◌, if◌then◌else◌}
use Rattle.guest_lines.specs.Lines.{outside_words}
use Rattle.board_script.specs.Script.{Whole}
use Rattle.journal.specs.Lines.{kind_of, performs}
use Rattle.journal.specs.Doing.{Doing, asks, accesses, done}
use Rattle.journal.specs.Performing.{Performed, io_before, is_over}
use Rattle.actor_core.specs.declared.outside.Outside.{Outside}
use Rattle.actor_core.specs.Shown.{host_words}

-- guests are the actors 1 to 16
abbrev pub IsGuestNumber : ℕ → Type 0
IsGuestNumber who = (1 ≤ who) × (who ≤ 16)

-- without the latest line where it hasn't ended
abbrev pub ended_of : Whole → ℕ → List Performed → List Performed
ended_of s who [] = []
ended_of s who (p ∷ past) = if is_over s who past p then p ∷ past else past

-- the latest line is one of the script, for which the host would show this by itself
abbrev pub IsOutside : Whole → ℕ → List Performed → Outside → Type 0
IsOutside s who [] host = Unit {0}
IsOutside s who (p ∷ past) host = elim p.line [ performs line ↦ host_words host ≡ outside_words (kind_of s who) (io_before past) line.what | _ ↦ ⊥ ]

-- a guest's line is one ask or an access
abbrev pub is_guests : Doing → Bool
is_guests (asks ask) = true
is_guests (accesses queue once access service) = true
is_guests done = true
is_guests _ = false
