-- A line of the host as a machine: what is asked at each stage, and the stage after the answer. Of this project; members and their owner are those of VIRTIO 1.3, 2.12 (device groups), and queues those of 2.13 (administration virtqueues).
use Rattle.std.specs.Prelude.{ℕ, ◌+◌, max, nat_lt, List, [], ◌∷◌, ◌++◌, length, Option, Some, None, if◌then◌else◌}
use Rattle.group_calls.specs.declared.ask.Ask.{Ask}
use Rattle.group_calls.specs.declared.ask.Ask.TheVariants.{Owner, Queue, Member}
use Rattle.group_calls.specs.declared.ask.Told.{Told}
use Rattle.group_calls.specs.declared.ask.Told.TheVariants.{Member as FromMember}
use Rattle.group_calls.specs.declared.owner.OwnerCall.TheVariants.{Gone as IsGone, Reset as ResetOwner}
use Rattle.group_calls.specs.declared.queue.RingCall.TheVariants.{Reset as ResetQueue}
use Rattle.group_calls.specs.declared.member.MemberCall.TheVariants.{Arrive, Flr as ResetMember, Kill}
use Rattle.group_calls.specs.declared.member.MemberReply.TheVariants.{Gone}
use Rattle.host_machine.specs.declared.line.HostLine.{HostLine}
use Rattle.host_machine.specs.declared.line.HostLine.TheVariants.{Frame, Flr, Disable, Reset}
use Rattle.host_machine.specs.declared.stage.Stage.{Stage}
use Rattle.host_machine.specs.declared.stage.Stage.TheVariants.{Delivering, Restarting, Disabling, Leaving, Killing, Resetting, Closing, Ended}
use Rattle.host_machine.specs.declared.stage.Underway.{Underway}

-- the floor of a member that its answer shows: the place behind the entry, or the floor of Gone where that is larger
abbrev pub floor_of : Told → ℕ
floor_of (FromMember placed) = elim placed.reply [ Gone floor ↦ max (placed.at + 1) floor | _ ↦ placed.at + 1 ]
floor_of _ = 0

-- a member is next whose floor isn't known; then comes the owner
abbrev pub killing : ℕ → List ℕ → Stage
killing members floors = if nat_lt (length floors) members then Killing else Resetting

-- this queue is next, if there is one
abbrev pub closing : ℕ → ℕ → Stage
closing queues queue = if nat_lt queue queues then Closing queue else Ended

abbrev pub first_stage : ℕ → HostLine → Stage
first_stage members (Frame member frame) = Delivering member frame
first_stage members (Flr member) = Restarting member
first_stage members (Disable member) = Disabling member
first_stage members Reset = killing members []

-- the beginning of a line
abbrev pub first : ℕ → HostLine → Underway
first members line = record { stage = first_stage members line; floors = [] }

-- the ask of a stage, with the floors that are known
abbrev pub ask_on : List ℕ → Stage → Option Ask
ask_on floors (Delivering member frame) = Some (Member member 0 (Arrive frame))
ask_on floors (Restarting member) = Some (Member member 0 ResetMember)
ask_on floors (Disabling member) = Some (Member member 0 Kill)
ask_on floors (Leaving member floor) = Some (Owner (IsGone member floor))
ask_on floors Killing = Some (Member (length floors + 1) 0 Kill)
ask_on floors Resetting = Some (Owner (ResetOwner floors))
ask_on floors (Closing queue) = Some (Queue queue (ResetQueue floors))
ask_on floors Ended = None

-- the next ask
abbrev pub next_ask : Underway → Option Ask
next_ask line = ask_on line.floors line.stage

abbrev pub killed : ℕ → List ℕ → Underway
killed members floors = record { stage = killing members floors; floors = floors }

abbrev pub after_stage : ℕ → ℕ → List ℕ → Stage → Told → Underway
after_stage members queues floors (Disabling member) told = record { stage = Leaving member (floor_of told); floors = floors }
after_stage members queues floors Killing told = killed members (floors ++ floor_of told ∷ [])
after_stage members queues floors Resetting told = record { stage = closing queues 0; floors = floors }
after_stage members queues floors (Closing queue) told = record { stage = closing queues (queue + 1); floors = floors }
after_stage members queues floors _ told = record { stage = Ended; floors = floors }

-- after the answer
abbrev pub after : ℕ → ℕ → Underway → Told → Underway
after members queues line told = after_stage members queues line.floors line.stage told
