-- Every notification is answered by a step, or the queue is left. Of this project.
use Rattle.std.specs.Prelude.{◌≡◌, ℕ, ◌<◌, Bool, true, List, Some}
use Rattle.history.specs.Places.{entry_at, before}
use Rattle.place_laws.specs.Actors.{IsIn}
use Rattle.legacy_regs.specs.Registers.{queue_count}
use Rattle.group_calls.specs.MemberEntries.{MemberEntry, is_reset, since_reset}
use Rattle.group_calls.specs.MemberQueues.{moves, is_empty, is_step, is_halted, notifies}
use Rattle.member_laws.specs.Ends.{killed}
use Rattle.board_script.specs.Script.{Whole}
use Rattle.journal.specs.Lines.{kind_of}
use Rattle.journal.specs.Journals.{Journal, IsLegalJournal, IsGuestOf}
use Rattle.journal.specs.Settling.{left_in}

-- an entry that passes, by what stood before it, stands behind a place
pub record StandsBehind (passes : MemberEntry → List MemberEntry → Bool) (h : List MemberEntry) (place : ℕ) : Type 0 where
  pub later : ℕ
  pub entry : MemberEntry
  pub behind : place < later
  pub stands : entry_at later h ≡ Some entry
  pub passing : passes entry (before later h) ≡ true

-- what comes of a notification of a queue at a place
pub data IsAttended (s : Whole) (j : Journal) (m queue place : ℕ) : Type 0 where
  -- a later step of the queue found that nothing was left to do
  is_answered : StandsBehind (λ e past. is_step is_empty queue e) (j.member m) place → IsAttended s j m queue place
  -- the member was reset
  is_reset_since : StandsBehind (λ e past. is_reset e) (j.member m) place → IsAttended s j m queue place
  -- the queue was given a new address
  is_moved_since : StandsBehind (λ e past. moves queue e (since_reset past)) (j.member m) place → IsAttended s j m queue place
  -- the queue is halted
  is_stopped : is_halted (since_reset (j.member m)) queue ≡ true → IsAttended s j m queue place
  -- the member was killed
  is_gone : (floor : ℕ) → killed (j.member m) ≡ Some floor → IsAttended s j m queue place
  -- the queue is printed as left
  is_left : IsIn (m, queue) (left_in s j) → IsAttended s j m queue place

abbrev pub NotificationsAreAttended : Type 0
NotificationsAreAttended =
    (s : Whole) (j : Journal) → IsLegalJournal s j → (m queue place : ℕ) (e : MemberEntry) → IsGuestOf s m → queue < queue_count (kind_of s m)
    → entry_at place (j.member m) ≡ Some e → notifies (kind_of s m) queue e ≡ true → IsAttended s j m queue place
