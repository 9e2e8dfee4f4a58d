-- What actors leave that shared the cells of a group, each of which saw but what it was told. Of this project.
use Rattle.std.specs.Prelude.{◌≡◌, ◌≢◌, ℕ, ◌≤◌, List, [], ◌++◌, length}
use Rattle.std.specs.List.{All}
use Rattle.history.specs.declared.entry.Entry.{Entry}
use Rattle.history.specs.Places.{calls_of, IsEarlier}
use Rattle.board_script.specs.Script.{Whole}
use Rattle.board_script.specs.Bounds.{IsScript}
use Rattle.journal.specs.Lines.{first_lines, lines_of}
use Rattle.journal.specs.Performing.{Performed, all_asked}
use Rattle.journal.specs.Journals.{Journal, AreLegal, ArePerformed, IsLegalJournal, lines_then}
use Rattle.actor_drive.specs.Driven.{AreLeft, AreHeard}

-- ---- an actor's view

-- what an actor saw of a cell is its history's beginning, and has all of the actor's entries
pub record IsSeen {C R : Type 0} (who : ℕ) (seen history : List (Entry C R)) : Type 0 where
  pub begins : IsEarlier seen history
  pub own : calls_of who history ≡ calls_of who seen

-- of each cell. A view is a journal of no lines
pub record IsView (who : ℕ) (view j : Journal) : Type 0 where
  pub owner : IsSeen who view.owner j.owner
  pub queue : (k : ℕ) → IsSeen who (view.queue k) (j.queue k)
  pub member : (m : ℕ) → IsSeen who (view.member m) (j.member m)

-- The actor performed all of its lines. Its entries are just what its asks left, and what its queues answered was right, as far as it saw them
pub record IsThrough (s : Whole) (who : ℕ) (past : List Performed) (view : Journal) : Type 0 where
  pub lines : lines_of s who ≡ lines_then past []
  pub performed : ArePerformed s who past
  pub left : AreLeft who (all_asked past) view
  pub heard : AreHeard s view who (all_asked past)

-- ---- bring-up, and the drain

-- the board performed the lines of bring-up, and no others
pub record IsUp (s : Whole) (past : List Performed) (view : Journal) : Type 0 where
  pub all : length past ≡ length (first_lines s)
  pub left : AreLeft 0 (all_asked past) view
  pub heard : AreHeard s view 0 (all_asked past)

-- `up` is what the board saw of a cell when the group was up, and `seen` what each other actor saw at its end. The others' entries stand behind what the board saw, and the board's later ones behind what the others saw
pub record IsOrdered {C R : Type 0} (up : List (Entry C R)) (seen : ℕ → List (Entry C R)) (history : List (Entry C R)) : Type 0 where
  pub begins : IsEarlier up history
  pub behind : (who : ℕ) → who ≢ 0 → All (λ e. length up ≤ e.0) (calls_of who history)
  pub news : List (ℕ × Entry C R)
  pub own : calls_of 0 history ≡ news ++ calls_of 0 up
  pub last : (who : ℕ) → who ≢ 0 → All (λ e. length (seen who) ≤ e.0) news

pub record AreOrdered (up : Journal) (view : ℕ → Journal) (j : Journal) : Type 0 where
  pub owner : IsOrdered up.owner (λ who. (view who).owner) j.owner
  pub queue : (k : ℕ) → IsOrdered (up.queue k) (λ who. (view who).queue k) (j.queue k)
  pub member : (m : ℕ) → IsOrdered (up.member m) (λ who. (view who).member m) (j.member m)

-- ---- all actors

-- legal histories, of which each actor saw a part, and has performed its lines; the board first of all, and last of all
pub record IsGathered (s : Whole) (j : Journal) : Type 0 where
  pub histories : AreLegal s j
  pub view : ℕ → Journal
  pub views : (who : ℕ) → IsView who (view who) j
  pub through : (who : ℕ) → IsThrough s who (j.past who) (view who)
  pub up : Journal
  pub up_past : List Performed
  pub drain : List Performed
  pub board : j.past 0 ≡ drain ++ up_past
  pub is_up : IsUp s up_past up
  pub ordered : AreOrdered up view j

-- what they leave is a legal journal, although nobody saw all cells together
abbrev pub GatheredIsLegal : Type 0
GatheredIsLegal = (s : Whole) (j : Journal) → IsScript s → IsGathered s j → IsLegalJournal s j
