-- What bring-up asks as a grammar of asks and answers: VIRTIO 1.3, 2.12.1 (group administration commands) and 2.13 (administration virtqueues). Its commands, their order and the tags are of this project.
use Rattle.std.specs.Prelude.{◌≡◌, ℕ, ◌<◌, Bool, true, false, List, [], ◌∷◌, ◌++◌}
use Rattle.group_calls.specs.declared.ask.Ask.TheVariants.{Queue}
use Rattle.group_calls.specs.declared.ask.Told.{Told}
use Rattle.group_calls.specs.declared.ask.Told.TheVariants.{Queue as FromQueue, NoMemory}
use Rattle.group_calls.specs.declared.queue.RingCall.TheVariants.{Post}
use Rattle.group_calls.specs.declared.queue.RingReply.TheVariants.{Full, Closed, Ready}
use Rattle.group_calls.specs.Asks.{Exchange, AreAnswered}
use Rattle.admin_wire.specs.Done.{parts_of}
use Rattle.vfio_driver.specs.declared.bring_stage.BringCommand.{BringCommand}
use Rattle.vfio_driver.specs.declared.bring_stage.BringCommand.TheVariants.{Query, Use, Info}
use Rattle.vfio_driver.specs.Bring.{command_bytes, command_room}
use Rattle.vfio_driver.specs.Brought.{is_fit}
use Rattle.vfio_driver.specs.Grammar.{IsPosted, IsTake, IsTaken, IsNotTaken}

-- ---- one command, through queue 0, behind what was asked before; the latest ask stands first

-- Post of its bytes, with the member and the floor 0 in the tag
abbrev pub IsPost : ℕ → BringCommand → Exchange → Type 0
IsPost member command x = x.0 ≡ Queue 0 (Post (command_bytes member command) (command_room command) (record { guest = member; floor = 0 }))

-- answered Full
abbrev pub IsFull : Told → Type 0
IsFull (FromQueue placed) = elim placed.reply [ Full ↦ Unit {0} | _ ↦ ⊥ ]
IsFull _ = ⊥

-- answered Closed, or there was no memory
abbrev pub IsNeverPosted : Told → Type 0
IsNeverPosted (FromQueue placed) = elim placed.reply [ Closed floor ↦ Unit {0} | _ ↦ ⊥ ]
IsNeverPosted NoMemory = Unit {0}
IsNeverPosted _ = ⊥

-- Posts answered Full, any number of times
pub data AreRetries (member : ℕ) (command : BringCommand) (before : List Exchange) : List Exchange → Type 0 where
  isnt_tried : AreRetries member command before before
  is_full : (post : Exchange) (past : List Exchange) → AreRetries member command before past → IsPost member command post → IsFull post.1 → AreRetries member command before (post ∷ past)

-- then a Post answered Seq with this number, and Takes answered NotYet or Stale, any number of times
pub data AreWaits (member : ℕ) (command : BringCommand) (before : List Exchange) (seq : ℕ) : List Exchange → Type 0 where
  is_posted : (post : Exchange) (past : List Exchange) → AreRetries member command before past → IsPost member command post → IsPosted seq post.1 → AreWaits member command before seq (post ∷ past)
  is_not_taken : (take : Exchange) (past : List Exchange) → AreWaits member command before seq past → IsTake 0 seq take → IsNotTaken take.1 → AreWaits member command before seq (take ∷ past)

-- then a Take answered Ready or Lost; or the Post never was answered Seq
pub data IsCommand (member : ℕ) (command : BringCommand) (before : List Exchange) : List Exchange → Type 0 where
  is_never_posted : (post : Exchange) (past : List Exchange) → AreRetries member command before past → IsPost member command post → IsNeverPosted post.1 → IsCommand member command before (post ∷ past)
  is_taken_back : (seq : ℕ) (take : Exchange) (past : List Exchange) → AreWaits member command before seq past → IsTake 0 seq take → IsTaken take.1 → IsCommand member command before (take ∷ past)

-- ---- bring-up: for member 0 LIST_QUERY, and where its list has the opcodes LIST_USE; for member n its notify information

-- the completion has status 0, and a list with the opcodes 0 to 6
abbrev pub lists_opcodes : Told → Bool
lists_opcodes (FromQueue placed) = elim placed.reply [ Ready bytes floor ↦ is_fit Query (parts_of bytes) | _ ↦ false ]
lists_opcodes _ = false

pub data IsBringUp (member : ℕ) : List Exchange → Type 0 where
  is_queried : (x : Exchange) (past : List Exchange) → member ≡ 0 → IsCommand member Query [] (x ∷ past) → lists_opcodes x.1 ≡ false → IsBringUp member (x ∷ past)
  is_used : (x : Exchange) (past xs : List Exchange) → member ≡ 0 → IsCommand member Query [] (x ∷ past) → lists_opcodes x.1 ≡ true → IsCommand member Use (x ∷ past) xs → IsBringUp member xs
  is_informed : (xs : List Exchange) → 0 < member → IsCommand member Info [] xs → IsBringUp member xs

-- bring-up with its answers
abbrev pub IsAnsweredBringUp : ℕ → List Exchange → Type 0
IsAnsweredBringUp member xs = AreAnswered xs × IsBringUp member xs

-- the beginning of bring-up, which isn't all of it, with its answers
abbrev pub BeginsBringUp : ℕ → List Exchange → Type 0
BeginsBringUp member xs = AreAnswered xs × ((next : Exchange) × (more : List Exchange) × IsBringUp member (more ++ next ∷ xs))
