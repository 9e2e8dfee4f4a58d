-- Behind the drain no queue of a member is left pending, unless it is printed as left. Of this project.
use Rattle.std.specs.Prelude.{◌≡◌, ℕ, ◌<◌, false, Some}
use Rattle.place_laws.specs.Actors.{IsIn}
use Rattle.legacy_regs.specs.Registers.{queue_count}
use Rattle.group_calls.specs.MemberEntries.{since_reset}
use Rattle.group_calls.specs.MemberQueues.{is_pending}
use Rattle.member_laws.specs.Ends.{killed}
use Rattle.board_script.specs.Script.{Whole}
use Rattle.journal.specs.Lines.{kind_of}
use Rattle.journal.specs.Journals.{Journal, IsLegalJournal, IsGuestOf}
use Rattle.journal.specs.Settling.{left_in}

-- what a queue of a member comes to: it isn't pending, the member was killed, or the queue is printed as left
pub data ComesToRest (s : Whole) (j : Journal) (m queue : ℕ) : Type 0 where
  is_idle : is_pending (kind_of s m) (since_reset (j.member m)) queue ≡ false → ComesToRest s j m queue
  is_gone : (floor : ℕ) → killed (j.member m) ≡ Some floor → ComesToRest s j m queue
  is_left : IsIn (m, queue) (left_in s j) → ComesToRest s j m queue

abbrev pub QueuesComeToRest : Type 0
QueuesComeToRest = (s : Whole) (j : Journal) → IsLegalJournal s j → (m queue : ℕ) → IsGuestOf s m → queue < queue_count (kind_of s m) → ComesToRest s j m queue
