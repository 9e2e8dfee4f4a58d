-- What a driver knows and answers, as a look back over what it heard. The statuses are those of VIRTIO 1.3, 2.12.1 (group administration commands); floors, which are numbers of entries of a member, and answers are of this project.
use Rattle.std.specs.Prelude.{◌≡◌, ℕ, ◌+◌, ◌==◌, ◌||◌, ◌&&◌, not, max, Bool, true, false, List, [], ◌∷◌, Option, Some, None, if◌then◌else◌}
use Rattle.admin_wire.specs.Numbers.{ok, enomem, invalid_field}
use Rattle.admin_wire.specs.Done.{parts_of}
use Rattle.admin_wire.specs.declared.done.DoneParts.{DoneParts}
use Rattle.group_calls.specs.Asks.{Exchange}
use Rattle.group_calls.specs.declared.ask.Ask.{Ask}
use Rattle.group_calls.specs.declared.ask.Ask.TheVariants.{Owner, Queue, Member}
use Rattle.group_calls.specs.declared.ask.Told.{Told}
use Rattle.group_calls.specs.declared.ask.Told.TheVariants.{Owner as FromOwner, Queue as FromQueue, Member as FromMember, NoMemory}
use Rattle.group_calls.specs.declared.queue.RingCall.TheVariants.{Post}
use Rattle.group_calls.specs.declared.queue.RingReply.TheVariants.{Full, Closed, Ready, Lost, Seq, NotYet, Stale}
use Rattle.group_calls.specs.declared.member.MemberReply.TheVariants.{Gone}
use Rattle.io_bar.specs.declared.access.Route.{Route}
use Rattle.io_bar.specs.declared.access.Route.TheVariants.{Command}
use Rattle.vfio_driver.specs.declared.access.Answer.{Answer}
use Rattle.vfio_driver.specs.declared.access.Answer.TheVariants.{Data, Written, Ones, RefusedFull, RefusedMemory}
use Rattle.vfio_driver.specs.Access.{is_read}

-- ---- what a driver hears while an access is open, the latest first

-- the answer to an ask of its own; or from elsewhere a floor of its member, and whether the member is gone
pub data Heard : Type 0 where
  answered : Exchange → Heard
  learnt : ℕ → Bool → Heard

-- its own asks with their answers
abbrev pub asks_of : List Heard → List Exchange
asks_of [] = []
asks_of (answered x ∷ past) = x ∷ asks_of past
asks_of (learnt floor gone ∷ past) = asks_of past

-- ---- the greatest floor of the member that it was told

-- its own place on the member, + 1, and the floor in Gone; and the floors in Ready, Lost and Closed
abbrev pub floor_told : Told → ℕ
floor_told (FromMember placed) = elim placed.reply [ Gone floor ↦ max (placed.at + 1) floor | _ ↦ placed.at + 1 ]
floor_told (FromQueue placed) = elim placed.reply [ Ready bytes floor ↦ floor | Lost floor ↦ floor | Closed floor ↦ floor | _ ↦ 0 ]
floor_told (FromOwner placed) = 0
floor_told NoMemory = 0

abbrev pub floor_heard : Heard → ℕ
floor_heard (answered x) = floor_told x.1
floor_heard (learnt floor gone) = floor

-- the one that it knew at first, or one of these
abbrev pub greatest_floor : ℕ → List Heard → ℕ
greatest_floor first [] = first
greatest_floor first (heard ∷ past) = max (greatest_floor first past) (floor_heard heard)

-- ---- whether the member is gone

-- the owner or the member refused the command: every status but OK and ENOMEM counts as EINVAL
abbrev pub is_refused : DoneParts → Bool
is_refused done = not (done.status == ok) && not (done.status == enomem)

-- told by Gone, by Lost and Closed, and by the completion of a refused command, unless its qualifier is INVALID_FIELD
abbrev pub tells_gone : Told → Bool
tells_gone (FromMember placed) = elim placed.reply [ Gone floor ↦ true | _ ↦ false ]
tells_gone (FromQueue placed) = elim placed.reply [ Ready bytes floor ↦ is_refused (parts_of bytes) && not ((parts_of bytes).qualifier == invalid_field) | Lost floor ↦ true | Closed floor ↦ true | _ ↦ false ]
tells_gone (FromOwner placed) = false
tells_gone NoMemory = false

abbrev pub hears_gone : Heard → Bool
hears_gone (answered x) = tells_gone x.1
hears_gone (learnt floor gone) = gone

-- known at first, or heard
abbrev pub is_known_gone : Bool → List Heard → Bool
is_known_gone first [] = first
is_known_gone first (heard ∷ past) = is_known_gone first past || hears_gone heard

-- ---- the answer by the reply that ended the access

-- it reads
abbrev pub reads_by : Route → Bool
reads_by (Command command) = is_read command
reads_by _ = false

-- by a completion: with status OK its data to a read
abbrev pub answer_in : Bool → DoneParts → Answer
answer_in reads done =
    if done.status == ok then (if reads then Data done.payload else Written) else
    if done.status == enomem then RefusedMemory else
    Ones

-- by a reply, to an ask of an access whose command goes to this queue
abbrev pub answer_by : ℕ → Bool → Told → Option Answer
answer_by queue reads (FromMember placed) = elim placed.reply [ Gone floor ↦ Some Ones | _ ↦ Some Written ]
answer_by queue reads (FromQueue placed) = elim placed.reply [
  | Ready bytes floor ↦ Some (answer_in reads (parts_of bytes))
  | Lost floor ↦ Some Ones
  | Closed floor ↦ Some Ones
  | Full ↦ Some (RefusedFull queue placed.at)
  | _ ↦ None
]
answer_by queue reads (FromOwner placed) = None
answer_by queue reads NoMemory = Some RefusedMemory

-- by the latest
abbrev pub answer_heard : ℕ → Route → List Exchange → Option Answer
answer_heard queue route [] = None
answer_heard queue route (x ∷ past) = answer_by queue (reads_by route) x.1

-- ---- when each answer comes

-- all ones: after a completion of a refused command, Lost, Closed, or a doorbell's Gone
abbrev pub GivesOnes : Told → Type 0
GivesOnes (FromMember placed) = elim placed.reply [ Gone floor ↦ Unit {0} | _ ↦ ⊥ ]
GivesOnes (FromQueue placed) = elim placed.reply [ Ready bytes floor ↦ is_refused (parts_of bytes) ≡ true | Lost floor ↦ Unit {0} | Closed floor ↦ Unit {0} | _ ↦ ⊥ ]
GivesOnes _ = ⊥

-- the queue was full, at this place: after Full to the access's Post to this queue
abbrev pub GivesFull : ℕ → ℕ → Exchange → Type 0
GivesFull queue at x = (bytes : List ℕ) × (writable guest floor : ℕ) × (x.0 ≡ Queue queue (Post bytes writable (record { guest = guest; floor = floor }))) × (x.1 ≡ FromQueue (record { at = at; reply = Full }))

-- want of memory: after it, or a completion with status ENOMEM
abbrev pub GivesNoMemory : Told → Type 0
GivesNoMemory (FromQueue placed) = elim placed.reply [ Ready bytes floor ↦ (parts_of bytes).status ≡ enomem | _ ↦ ⊥ ]
GivesNoMemory NoMemory = Unit {0}
GivesNoMemory _ = ⊥

-- the data of a completion with status OK, to a read
abbrev pub GivesData : Bool → List ℕ → Told → Type 0
GivesData reads bytes (FromQueue placed) = elim placed.reply [ Ready completion floor ↦ (reads ≡ true) × ((parts_of completion).status ≡ ok) × (bytes ≡ (parts_of completion).payload) | _ ↦ ⊥ ]
GivesData reads bytes _ = ⊥

-- it was written: a completion with status OK to a write, or each answer but Gone of the member to a doorbell
abbrev pub GivesWritten : Bool → Told → Type 0
GivesWritten reads (FromMember placed) = elim placed.reply [ Gone floor ↦ ⊥ | _ ↦ Unit {0} ]
GivesWritten reads (FromQueue placed) = elim placed.reply [ Ready bytes floor ↦ (reads ≡ false) × ((parts_of bytes).status ≡ ok) | _ ↦ ⊥ ]
GivesWritten reads _ = ⊥

-- no answer yet: after Seq, NotYet and Stale
abbrev pub GoesOn : Told → Type 0
GoesOn (FromQueue placed) = elim placed.reply [ Seq seq ↦ Unit {0} | NotYet ↦ Unit {0} | Stale ↦ Unit {0} | _ ↦ ⊥ ]
GoesOn _ = ⊥

-- ---- floors of asks

-- a doorbell has its own, and a Post that of its tag
abbrev pub IsAtFloor : ℕ → Ask → Type 0
IsAtFloor floor (Member id own call) = own ≡ floor
IsAtFloor floor (Queue index call) = elim call [ Post bytes writable tag ↦ tag.floor ≡ floor | _ ↦ Unit {0} ]
IsAtFloor floor (Owner call) = Unit {0}

-- each ask has the greatest floor that was known before it
abbrev pub AreAtFloors : ℕ → List Heard → Type 0
AreAtFloors first [] = Unit {0}
AreAtFloors first (answered x ∷ past) = IsAtFloor (greatest_floor first past) x.0 × AreAtFloors first past
AreAtFloors first (learnt floor gone ∷ past) = AreAtFloors first past
