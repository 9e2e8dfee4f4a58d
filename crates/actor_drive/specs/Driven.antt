-- An actor beside the cells that it asks. Of this project.
use Rattle.std.specs.Prelude.{◌≡◌, ℕ, ◌≤◌, true, List, [], ◌∷◌, ◌++◌, length}
use Rattle.std.specs.List.{All}
use Rattle.history.specs.declared.entry.Entry.{Entry}
use Rattle.history.specs.declared.entry.Placed.{Placed}
use Rattle.history.specs.Places.{calls_of, IsEarlier}
use Rattle.group_calls.specs.declared.ask.Ask.TheVariants.{Queue}
use Rattle.group_calls.specs.declared.ask.Told.TheVariants.{Queue as FromQueue}
use Rattle.group_calls.specs.declared.queue.RingCall.{RingCall}
use Rattle.group_calls.specs.declared.queue.RingReply.{RingReply}
use Rattle.group_calls.specs.Asks.{Exchange}
use Rattle.board_script.specs.Script.{Whole}
use Rattle.group_cells.specs.Cells.{Sight}
use Rattle.journal.specs.Lines.{Line, lines_of}
use Rattle.journal.specs.Cells.{owner_part, queue_part, member_part}
use Rattle.journal.specs.Performing.{Performed, all_asked}
use Rattle.journal.specs.Settling.{has_ended}
use Rattle.journal.specs.Journals.{Journal, IsHeard, AreBegun, lines_then}
use Rattle.actor_core.specs.declared.actor.Actor.{Actor}
use Rattle.actor_core.specs.Boards.{lines_now}
use Rattle.actor_core.specs.Actors.{StandsWhole}
use Rattle.actor_drive.specs.Bounds.{AreToldNear}
use Rattle.actor_drive.specs.Shown.{shown_journal, frame_of, queue_least, member_least}

-- ---- one caller's entries

-- they are just what these exchanges left, each at its place
pub record AreLeft (who : ℕ) (asked : List Exchange) (j : Journal) : Type 0 where
  pub owner : owner_part who asked ≡ calls_of who j.owner
  pub queue : (k : ℕ) → queue_part who k asked ≡ calls_of who (j.queue k)
  pub member : (m : ℕ) → member_part who m asked ≡ calls_of who (j.member m)

-- each answer of a queue was the queue's, over what stood before its place
abbrev pub AreHeard : Whole → Journal → ℕ → List Exchange → Type 0
AreHeard s j who asked = (k : ℕ) (call : RingCall) (placed : Placed RingReply) (later earlier : List Exchange) → asked ≡ later ++ (Queue k call, FromQueue placed) ∷ earlier → IsHeard s j k who call placed earlier later

-- ---- an actor and its cells

-- The actor stands behind these lines, each ask of which was the next one and has an answer that fits it. Its entries in the cells are what they left
pub record IsBeside (s : Whole) (past : List Performed) (a : Actor) (c : Sight) : Type 0 where
  pub stands : StandsWhole s c.who past a
  pub begun : AreBegun s c.who past
  pub lines : (rest : List Line) × (lines_of s c.who ≡ lines_then past rest)
  pub within : length past ≤ length (lines_now s c.who a.lines)
  pub near : AreToldNear s (all_asked past)
  pub left : AreLeft c.who (all_asked past) (shown_journal c)
  pub heard : AreHeard s (shown_journal c) c.who (all_asked past)

-- and it has performed all that it performs for now
pub record HasEnded (s : Whole) (past : List Performed) (a : Actor) (c : Sight) : Type 0 where
  pub beside : IsBeside s past a c
  pub over : has_ended s c.who past ≡ true
  pub all : length past ≡ length (lines_now s c.who a.lines)

-- the latest line may have asked more, and further lines follow
abbrev pub IsFurther : List Performed → List Performed → Type 0
IsFurther [] now = Unit {0}
IsFurther (p ∷ past) now = (news : List Performed) × (more : List Exchange) × (now ≡ news ++ record { line = p.line; asked = more ++ p.asked } ∷ past)

-- ---- the cells

-- a history grew, and the caller's new entries stand at no place below the least
pub record IsAdded {C R : Type 0} (who least : ℕ) (old new : List (Entry C R)) : Type 0 where
  pub grows : IsEarlier old new
  pub news : List (ℕ × Entry C R)
  pub own : calls_of who new ≡ news ++ calls_of who old
  pub high : All (λ e. least ≤ e.0) news

-- the same cells, seen further
pub record AreOnward (c d : Sight) : Type 0 where
  pub frame : frame_of d ≡ frame_of c
  pub owner : IsAdded c.who c.owner.least c.owner.shown d.owner.shown
  pub queue : (k : ℕ) → IsAdded c.who (queue_least (frame_of c) k) ((shown_journal c).queue k) ((shown_journal d).queue k)
  pub member : (m : ℕ) → IsAdded c.who (member_least (frame_of c) m) ((shown_journal c).member m) ((shown_journal d).member m)
