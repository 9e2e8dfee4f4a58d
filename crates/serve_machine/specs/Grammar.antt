-- One service of an administration queue as a grammar of what is asked and answered: VIRTIO 1.3, 2.12.1 (group administration commands) and 2.13 (administration virtqueues). Of this project: floors, and that a service goes by asks. The floors of asks are in Floors.
use Rattle.std.specs.Prelude.{◌≡◌, ℕ, List, [], ◌∷◌, ◌++◌, Option, None, Some}
use Rattle.admin_wire.specs.declared.command.LegacyCmd.{LegacyCmd}
use Rattle.group_calls.specs.declared.ask.Ask.TheVariants.{Owner, Queue, Member}
use Rattle.group_calls.specs.declared.ask.Told.{Told}
use Rattle.group_calls.specs.declared.ask.Told.TheVariants.{Owner as FromOwner, Queue as FromQueue}
use Rattle.group_calls.specs.declared.owner.OwnerCall.TheVariants.{Judge}
use Rattle.group_calls.specs.declared.owner.OwnerReply.TheVariants.{Legacy}
use Rattle.group_calls.specs.declared.queue.RingCall.TheVariants.{Pop, Complete}
use Rattle.group_calls.specs.declared.queue.RingReply.TheVariants.{Fetched, Empty, InService}
use Rattle.group_calls.specs.declared.member.MemberCall.TheVariants.{Act}
use Rattle.group_calls.specs.Asks.{Exchange, AreAnswered}
use Rattle.group_calls.specs.Queue.{Posted}
use Rattle.serve_machine.specs.Completion.{completed_with, completed_under}

-- ---- Pop

-- answered Empty or InService
abbrev pub FindsNothing : Told → Type 0
FindsNothing (FromQueue placed) = elim placed.reply [ Empty ↦ Unit {0} | InService seq ↦ Unit {0} | _ ↦ ⊥ ]
FindsNothing _ = ⊥

-- answered Fetched, with this command
abbrev pub Finds : Posted → Told → Type 0
Finds p (FromQueue placed) = placed.reply ≡ Fetched p.seq p.bytes p.writable p.tag
Finds p _ = ⊥

abbrev pub IsPop : ℕ → Exchange → Type 0
IsPop k x = x.0 ≡ Queue k Pop

-- ---- Judge and Act

-- of the fetched bytes and writable length
abbrev pub IsJudge : Posted → Exchange → Type 0
IsJudge p x = x.0 ≡ Owner (Judge p.bytes p.writable)

-- the member and the access, where Judge answers Legacy
abbrev pub passed_on : Told → Option (ℕ × LegacyCmd)
passed_on (FromOwner placed) = elim placed.reply [ Legacy member access ↦ Some (member, access) | _ ↦ None ]
passed_on _ = None

-- of that access on that member, whatever the floor
abbrev pub IsAct : ℕ × LegacyCmd → Exchange → Type 0
IsAct to x = (floor : ℕ) × (x.0 ≡ Member to.0 floor (Act to.1))

-- ---- Complete

-- of that number, by the completion rule for the answer that decides
abbrev pub IsComplete : ℕ → Posted → Told → Exchange → Type 0
IsComplete k p told x = x.0 ≡ Queue k (Complete p.seq (completed_with told p.writable) (completed_under p.tag.floor told))

-- ---- a service of queue k, whose latest ask stands first

pub data IsService (k : ℕ) : List Exchange → Type 0 where
  finds_nothing : (pop : Exchange) → IsPop k pop → FindsNothing pop.1 → IsService k (pop ∷ [])
  is_decided : (p : Posted) (pop judge complete : Exchange) → IsPop k pop → Finds p pop.1 → IsJudge p judge → passed_on judge.1 ≡ None → IsComplete k p judge.1 complete
      → IsService k (complete ∷ judge ∷ pop ∷ [])
  is_carried_out : (p : Posted) (to : ℕ × LegacyCmd) (pop judge act complete : Exchange) → IsPop k pop → Finds p pop.1 → IsJudge p judge → passed_on judge.1 ≡ Some to → IsAct to act → IsComplete k p act.1 complete
      → IsService k (complete ∷ act ∷ judge ∷ pop ∷ [])

-- a service with its answers
abbrev pub IsAnsweredService : ℕ → List Exchange → Type 0
IsAnsweredService k xs = AreAnswered xs × IsService k xs

-- the beginning of one, which isn't all of it
abbrev pub BeginsService : ℕ → List Exchange → Type 0
BeginsService k xs = (next : Exchange) × (more : List Exchange) × IsAnsweredService k (more ++ next ∷ xs)
