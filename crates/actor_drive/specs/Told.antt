-- What an ask of a caller tells, and what it leaves. Of this project.
use Rattle.std.specs.Prelude.{◌≡◌, ℕ, ◌≤◌, false, List, ◌∷◌, length, Option, None, Some}
use Rattle.history.specs.declared.entry.Entry.{Entry}
use Rattle.history.specs.declared.entry.Placed.{Placed}
use Rattle.history.specs.Places.{before, calls_of, IsEarlier}
use Rattle.group_calls.specs.declared.ask.Ask.{Ask}
use Rattle.group_calls.specs.declared.ask.Ask.TheVariants.{Owner, Queue, Member}
use Rattle.group_calls.specs.declared.ask.Told.{Told}
use Rattle.group_calls.specs.declared.ask.Told.TheVariants.{Owner as FromOwner, Queue as FromQueue, Member as FromMember, NoMemory}
use Rattle.group_calls.specs.Owner.{OwnerEntry, owner_may, owner_answer}
use Rattle.group_calls.specs.Queue.{RingEntry, queue_answer, takes_none}
use Rattle.group_calls.specs.MemberEntries.{MemberEntry}
use Rattle.group_calls.specs.Member.{member_answer}
use Rattle.board_script.specs.Script.{Whole}
use Rattle.group_cells.specs.declared.asked.Asked.TheVariants as told
use Rattle.group_cells.specs.Cells.{Sight, MayAskQueue, MayAskMember, IsOwnerAsked, IsQueueAsked, IsMemberAsked}
use Rattle.journal.specs.Lines.{made_of}
use Rattle.journal.specs.Cells.{left_in_owner, left_in_queue, left_in_member}
use Rattle.journal.specs.Journals.{Journal}
use Rattle.actor_drive.specs.Shown.{queue_least, member_least}

-- the caller may ask this of the cells
abbrev pub MayAsk : Sight → Ask → Type 0
MayAsk s (Owner call) = owner_may s.owner.made s.who call
MayAsk s (Queue index call) = MayAskQueue s index call
MayAsk s (Member id floor call) = MayAskMember s id call

-- one try of an ask, which is told nothing where the cell was busy
abbrev pub IsTried : Sight → Ask → Option Told → Sight → Type 0
IsTried s (Owner call) (Some (FromOwner placed)) t = IsOwnerAsked s 0 call (told.Placed placed) t
IsTried s (Owner call) (Some NoMemory) t = IsOwnerAsked s 0 call told.NoMemory t
IsTried s (Owner call) None t = (word : ℕ) × IsOwnerAsked s 0 call (told.Busy word) t
IsTried s (Queue index call) (Some (FromQueue placed)) t = IsQueueAsked s index 0 call (told.Placed placed) t
IsTried s (Queue index call) (Some NoMemory) t = IsQueueAsked s index 0 call told.NoMemory t × (takes_none call ≡ false)
IsTried s (Queue index call) None t = (word : ℕ) × IsQueueAsked s index 0 call (told.Busy word) t
IsTried s (Member id floor call) (Some (FromMember placed)) t = IsMemberAsked s id floor call (told.Placed placed) t
IsTried s (Member id floor call) (Some NoMemory) t = IsMemberAsked s id floor call told.NoMemory t
IsTried s (Member id floor call) None t = (word : ℕ) × IsMemberAsked s id floor call (told.Busy word) t
IsTried s ask told t = ⊥

-- ---- what it leaves

module _ {C R : Type 0} where
  abbrev pub and_left : Option (ℕ × Entry C R) → List (ℕ × Entry C R) → List (ℕ × Entry C R)
  and_left None more = more
  and_left (Some e) more = e ∷ more

  -- the history grew, and of the caller's entries this is the one new one
  pub record IsLonger (who : ℕ) (left : Option (ℕ × Entry C R)) (old new : List (Entry C R)) : Type 0 where
    pub grows : IsEarlier old new
    pub own : calls_of who new ≡ and_left left (calls_of who old)

pub record AreLonger (who : ℕ) (o : Option (ℕ × OwnerEntry)) (q : ℕ → Option (ℕ × RingEntry)) (m : ℕ → Option (ℕ × MemberEntry)) (j k : Journal) : Type 0 where
  pub owner : IsLonger who o j.owner k.owner
  pub queue : (i : ℕ) → IsLonger who (q i) (j.queue i) (k.queue i)
  pub member : (i : ℕ) → IsLonger who (m i) (j.member i) (k.member i)

-- nothing of the caller is new
abbrev pub AreSeenOn : ℕ → Journal → Journal → Type 0
AreSeenOn who j k = AreLonger who None (λ i. None) (λ i. None) j k

-- what the exchange left is new
abbrev pub IsLeft : ℕ → Ask → Told → Journal → Journal → Type 0
IsLeft who ask told j k = AreLonger who (left_in_owner who (ask, told)) (λ i. left_in_queue who i (ask, told)) (λ i. left_in_member who i (ask, told)) j k

-- ---- what it tells

-- the answer over what stands before its place, which is behind all that was shown, and at least the floor and the cell's least place
pub record IsToldOver {C R : Type 0} (answer : List (Entry C R) → C → R) (old new : List (Entry C R)) (least floor : ℕ) (call : C) (placed : Placed R) : Type 0 where
  pub exists : placed.at ≤ length new
  pub answered : placed.reply ≡ answer (before placed.at new) call
  pub behind : length old ≤ placed.at
  pub late : floor ≤ placed.at
  pub high : least ≤ placed.at

-- by the cells of a script, of which these are the least places
abbrev pub IsToldBy : Whole → Sight → Journal → Journal → Ask → Told → Type 0
IsToldBy s f j k (Owner call) (FromOwner placed) = IsToldOver owner_answer j.owner k.owner f.owner.least 0 call placed
IsToldBy s f j k (Queue i call) (FromQueue placed) = IsToldOver (queue_answer s.board.queue_size) (j.queue i) (k.queue i) (queue_least f i) 0 call placed
IsToldBy s f j k (Member m floor call) (FromMember placed) = IsToldOver (member_answer (made_of s m)) (j.member m) (k.member m) (member_least f m) floor call placed
IsToldBy s f j k ask told = Unit {0}
