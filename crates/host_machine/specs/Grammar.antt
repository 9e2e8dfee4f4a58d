-- A line of the host as a grammar of what is asked and answered. Of this project; members and their owner are those of VIRTIO 1.3, 2.12 (device groups), and queues those of 2.13 (administration virtqueues). The floors of asks are in Floors.
use Rattle.std.specs.Prelude.{◌≡◌, ℕ, ◌+◌, List, [], ◌∷◌, ◌++◌, length}
use Rattle.group_calls.specs.declared.ask.Ask.TheVariants.{Owner, Queue, Member}
use Rattle.group_calls.specs.declared.owner.OwnerCall.TheVariants.{Gone as IsGone, Reset as ResetOwner}
use Rattle.group_calls.specs.declared.queue.RingCall.TheVariants.{Reset as ResetQueue}
use Rattle.group_calls.specs.declared.member.MemberCall.{MemberCall}
use Rattle.group_calls.specs.declared.member.MemberCall.TheVariants.{Arrive, Flr as ResetMember, Kill}
use Rattle.group_calls.specs.Asks.{Exchange, AreAnswered}
use Rattle.host_machine.specs.declared.line.HostLine.{HostLine}
use Rattle.host_machine.specs.declared.line.HostLine.TheVariants.{Frame, Flr, Disable, Reset}
use Rattle.host_machine.specs.Machine.{floor_of}

-- a call on a member, whatever the floor
abbrev pub IsOn : ℕ → MemberCall → Exchange → Type 0
IsOn m call x = (floor : ℕ) × (x.0 ≡ Member m floor call)

-- Kill on each member in order, from member 1
abbrev pub AreKills : List Exchange → Type 0
AreKills [] = Unit {0}
AreKills (x ∷ past) = IsOn (length past + 1) Kill x × AreKills past

-- the floors of the members that these asks showed, in order
abbrev pub floors_shown : List Exchange → List ℕ
floors_shown [] = []
floors_shown (x ∷ past) = floors_shown past ++ floor_of x.1 ∷ []

-- Reset on each queue in order, from queue 0
abbrev pub AreResets : List ℕ → List Exchange → Type 0
AreResets floors [] = Unit {0}
AreResets floors (x ∷ past) = (x.0 ≡ Queue (length past) (ResetQueue floors)) × AreResets floors past

-- what is asked for a line, whose latest ask stands first
pub data IsLine (members queues : ℕ) : HostLine → List Exchange → Type 0 where
  is_delivered : (m : ℕ) (frame : List ℕ) (x : Exchange) → IsOn m (Arrive frame) x → IsLine members queues (Frame m frame) (x ∷ [])
  is_restarted : (m : ℕ) (x : Exchange) → IsOn m ResetMember x → IsLine members queues (Flr m) (x ∷ [])
  is_disabled : (m : ℕ) (kill gone : Exchange) → IsOn m Kill kill → gone.0 ≡ Owner (IsGone m (floor_of kill.1)) → IsLine members queues (Disable m) (gone ∷ kill ∷ [])
  all_are_reset : (kills resets : List Exchange) (owner : Exchange)
      → length kills ≡ members → AreKills kills → owner.0 ≡ Owner (ResetOwner (floors_shown kills)) → length resets ≡ queues → AreResets (floors_shown kills) resets
      → IsLine members queues Reset (resets ++ owner ∷ kills)

-- a line with its answers
abbrev pub IsAnsweredLine : ℕ → ℕ → HostLine → List Exchange → Type 0
IsAnsweredLine members queues line xs = AreAnswered xs × IsLine members queues line xs

-- the beginning of one, which isn't all of it
abbrev pub BeginsLine : ℕ → ℕ → HostLine → List Exchange → Type 0
BeginsLine members queues line xs = (next : Exchange) × (more : List Exchange) × IsAnsweredLine members queues line (more ++ next ∷ xs)
