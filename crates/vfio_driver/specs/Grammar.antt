-- What an access of a guest asks as a grammar of asks and answers: VIRTIO 1.3, 2.12.1 (group administration commands, Legacy Interfaces), 2.9 (driver notifications) and 2.13 (administration virtqueues). It says which call is asked on which cell; the floors of asks stand apart, in `AreAtFloors`.
use Rattle.std.specs.Prelude.{◌≡◌, ◌⊎◌, ℕ, ◌+◌, Bool, true, false, List, [], ◌∷◌, ◌++◌}
use Rattle.admin_wire.specs.Numbers.{fixed_size}
use Rattle.admin_wire.specs.Writing.{legacy_bytes, result_length}
use Rattle.admin_wire.specs.declared.command.LegacyCmd.{LegacyCmd}
use Rattle.group_calls.specs.declared.ask.Ask.TheVariants.{Queue, Member}
use Rattle.group_calls.specs.declared.ask.Told.{Told}
use Rattle.group_calls.specs.declared.ask.Told.TheVariants.{Queue as FromQueue, NoMemory}
use Rattle.group_calls.specs.declared.queue.RingCall.TheVariants.{Post, Take}
use Rattle.group_calls.specs.declared.queue.RingReply.TheVariants.{Seq, Full, Closed, Ready, NotYet, Lost, Stale}
use Rattle.group_calls.specs.declared.member.MemberCall.TheVariants.{Notify}
use Rattle.group_calls.specs.Asks.{Exchange, AreAnswered}
use Rattle.io_bar.specs.declared.access.Route.{Route}
use Rattle.io_bar.specs.declared.access.Route.TheVariants.{Command, Doorbell, Local}

-- ---- Post

-- of the command's bytes, with the guest and a floor in the tag
abbrev pub IsPost : ℕ → ℕ → LegacyCmd → Exchange → Type 0
IsPost guest queue command x = (floor : ℕ) × (x.0 ≡ Queue queue (Post (legacy_bytes guest command) (fixed_size + result_length command) (record { guest = guest; floor = floor })))

-- answered Seq, with this number
abbrev pub IsPosted : ℕ → Told → Type 0
IsPosted seq (FromQueue placed) = placed.reply ≡ Seq seq
IsPosted seq _ = ⊥

-- answered Full or Closed, or there was no memory
abbrev pub IsNotPosted : Told → Type 0
IsNotPosted (FromQueue placed) = elim placed.reply [ Full ↦ Unit {0} | Closed floor ↦ Unit {0} | _ ↦ ⊥ ]
IsNotPosted NoMemory = Unit {0}
IsNotPosted _ = ⊥

-- ---- Take

abbrev pub IsTake : ℕ → ℕ → Exchange → Type 0
IsTake queue seq x = x.0 ≡ Queue queue (Take seq)

-- answered Ready or Lost
abbrev pub IsTaken : Told → Type 0
IsTaken (FromQueue placed) = elim placed.reply [ Ready bytes floor ↦ Unit {0} | Lost floor ↦ Unit {0} | _ ↦ ⊥ ]
IsTaken _ = ⊥

-- answered NotYet, or Stale, which comes where another has taken the command
abbrev pub IsNotTaken : Told → Type 0
IsNotTaken (FromQueue placed) = elim placed.reply [ NotYet ↦ Unit {0} | Stale ↦ Unit {0} | _ ↦ ⊥ ]
IsNotTaken _ = ⊥

-- so, any number of times
abbrev pub AreWaits : ℕ → ℕ → List Exchange → Type 0
AreWaits queue seq [] = Unit {0}
AreWaits queue seq (x ∷ past) = IsTake queue seq x × IsNotTaken x.1 × AreWaits queue seq past

-- ---- Notify

-- of the guest's member, for the queue of this number, under a floor
abbrev pub IsNotify : ℕ → ℕ → Exchange → Type 0
IsNotify guest number x = (floor : ℕ) × (x.0 ≡ Member guest floor (Notify number))

-- ---- what an access asks that goes this way, by a guest that knows whether its member is gone; the latest ask stands first

pub data IsAccess (guest : ℕ) (gone : Bool) (queue : ℕ) : Route → List Exchange → Type 0 where
  asks_nothing : (route : Route) → (gone ≡ true) ⊎ (route ≡ Local) → IsAccess guest gone queue route []
  is_rung : (number : ℕ) (x : Exchange) → gone ≡ false → IsNotify guest number x → IsAccess guest gone queue (Doorbell number) (x ∷ [])
  is_not_posted : (command : LegacyCmd) (post : Exchange) → gone ≡ false → IsPost guest queue command post → IsNotPosted post.1
      → IsAccess guest gone queue (Command command) (post ∷ [])
  is_taken_back : (command : LegacyCmd) (seq : ℕ) (post : Exchange) (waits : List Exchange) (take : Exchange) → gone ≡ false → IsPost guest queue command post → IsPosted seq post.1
      → AreWaits queue seq waits → IsTake queue seq take → IsTaken take.1 → IsAccess guest gone queue (Command command) (take ∷ (waits ++ post ∷ []))

-- an access with its answers
abbrev pub IsAnsweredAccess : ℕ → Bool → ℕ → Route → List Exchange → Type 0
IsAnsweredAccess guest gone queue route xs = AreAnswered xs × IsAccess guest gone queue route xs

-- the beginning of an access, which isn't all of it, with its answers
abbrev pub BeginsAccess : ℕ → Bool → ℕ → Route → List Exchange → Type 0
BeginsAccess guest gone queue route xs = AreAnswered xs × ((next : Exchange) × (more : List Exchange) × IsAccess guest gone queue route (more ++ next ∷ xs))
