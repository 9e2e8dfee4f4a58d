-- No two guests touch each other's memory, disk, frames or registers: what a guest is answered, and what its member holds up to the cut, follows from the events of its own history. Of this project.
use Rattle.std.specs.Prelude.{◌≡◌, ℕ, List, map}
use Rattle.group_calls.specs.declared.lone.LoneEvent.{LoneEvent}
use Rattle.group_calls.specs.declared.member.MemberMade.{MemberMade}
use Rattle.group_calls.specs.MemberEntries.{MemberEntry}
use Rattle.group_calls.specs.MemberRegisters.{registers_after}
use Rattle.group_calls.specs.Facts.{facts}
use Rattle.group_calls.specs.Storage.{memory_after, disk_after}
use Rattle.member_laws.specs.Own.{before_kill, own}
use Rattle.board_script.specs.Script.{Whole}
use Rattle.board_script.specs.Bounds.{IsScript}
use Rattle.journal.specs.Lines.{made_of}
use Rattle.journal.specs.Journals.{Journal, IsLegalJournal, IsGuestOf}

-- the events of a guest's own history: its own, and the steps, frames and resets of its member
abbrev pub own_events : ℕ → List MemberEntry → List LoneEvent
own_events g h = map (λ item. item.event) (own g h)

-- two histories of a guest's member are the same to the guest, and leave its member with the same at the cut
pub record AreSame (made : MemberMade) (g : ℕ) (h k : List MemberEntry) : Type 0 where
  -- each event's reply
  pub own : own g h ≡ own g k
  pub memory : memory_after made (before_kill h) ≡ memory_after made (before_kill k)
  pub disk : disk_after made (before_kill h) ≡ disk_after made (before_kill k)
  pub registers : registers_after made.kind (before_kill h) ≡ registers_after made.kind (before_kill k)
  -- the queues, the frames that wait and the interrupts
  pub facts : facts made (before_kill h) ≡ facts made (before_kill k)

-- in two journals, of whatever scripts and whatever the other guests do
abbrev pub GuestsAreApart : Type 0
GuestsAreApart =
    (s t : Whole) (j i : Journal) → IsScript s → IsScript t → IsLegalJournal s j → IsLegalJournal t i → (g : ℕ) → IsGuestOf s g → IsGuestOf t g → made_of s g ≡ made_of t g
    → own_events g (j.member g) ≡ own_events g (i.member g) → AreSame (made_of s g) g (j.member g) (i.member g)
