-- An access of a guest as a machine: what is asked, and what it comes to after the answer. Of this project; the commands are those of VIRTIO 1.3, 2.12.1 (group administration commands, Legacy Interfaces), and a doorbell is that of 2.9 (driver notifications).
use Rattle.std.specs.Prelude.{ℕ, ◌+◌, ◌≤◌, ◌==◌, ◌||◌, max, Bool, true, false, List, length, Option, Some, None, if◌then◌else◌}
use Rattle.admin_wire.specs.Numbers.{ok, enomem, invalid_field, fixed_size, place_data_limit, result_limit}
use Rattle.admin_wire.specs.Done.{parts_of}
use Rattle.admin_wire.specs.Writing.{legacy_bytes, bytes_written, result_length}
use Rattle.admin_wire.specs.declared.done.DoneParts.{DoneParts}
use Rattle.admin_wire.specs.declared.command.LegacyCmd.{LegacyCmd}
use Rattle.admin_wire.specs.declared.command.LegacyCmd.TheVariants.{CommonRead, DevRead}
use Rattle.history.specs.Limits.{history_limit}
use Rattle.group_calls.specs.declared.ask.Ask.{Ask}
use Rattle.group_calls.specs.declared.ask.Ask.TheVariants.{Queue, Member}
use Rattle.group_calls.specs.declared.ask.Told.{Told}
use Rattle.group_calls.specs.declared.ask.Told.TheVariants.{Queue as FromQueue, Member as FromMember}
use Rattle.group_calls.specs.declared.queue.RingCall.TheVariants.{Post, Take}
use Rattle.group_calls.specs.declared.queue.RingReply.TheVariants.{Seq, Closed, Ready, Lost}
use Rattle.group_calls.specs.declared.member.MemberCall.TheVariants.{Notify}
use Rattle.group_calls.specs.declared.member.MemberReply.TheVariants.{Gone}
use Rattle.io_bar.specs.declared.access.Route.{Route}
use Rattle.io_bar.specs.declared.access.Route.TheVariants.{Command, Doorbell, Local}
use Rattle.vfio_driver.specs.declared.access.Answer.{Answer}
use Rattle.vfio_driver.specs.declared.access.Answer.TheVariants.{Data, Written, Ones, RefusedFull, RefusedMemory}
use Rattle.vfio_driver.specs.declared.access.Started.{Started}
use Rattle.vfio_driver.specs.declared.access.Started.TheVariants.{Local as IsLocal, Asks}
use Rattle.vfio_driver.specs.declared.access.Stage.{Stage}
use Rattle.vfio_driver.specs.declared.access.Stage.TheVariants.{Nothing, Ringing, Posting, Taking}
use Rattle.vfio_driver.specs.declared.access.Known.{Known}
use Rattle.vfio_driver.specs.declared.access.After.{After}

-- it reads
abbrev pub is_read : LegacyCmd → Bool
is_read (CommonRead offset size) = true
is_read (DevRead offset size) = true
is_read _ = false

-- an access is open
abbrev pub is_open : Stage → Bool
is_open Nothing = false
is_open _ = true

-- the access that a route begins
abbrev pub stage_by : ℕ → Route → ℕ → Stage
stage_by guest Local queue = Nothing
stage_by guest (Doorbell number) queue = Ringing number
stage_by guest (Command command) queue = Posting queue (legacy_bytes guest command) (fixed_size + result_length command) (is_read command)

abbrev pub first_stage : ℕ → Known → Route → ℕ → Stage
first_stage guest known route queue = if known.gone then Nothing else stage_by guest route queue

abbrev pub started_by : Route → Started
started_by Local = IsLocal
started_by _ = Asks

abbrev pub started : Known → Route → Started
started known route = if known.gone then IsLocal else started_by route

-- a write's data fit a command in a piece itself, and a read's a completion
abbrev pub FitsCommand : LegacyCmd → Type 0
FitsCommand command = (length (bytes_written command) ≤ place_data_limit) × (result_length command ≤ result_limit)

-- what a doorbell is answered: at a place of a history
abbrev pub IsRingTold : Told → Type 0
IsRingTold (FromMember placed) = placed.at ≤ history_limit
IsRingTold _ = Unit {0}

abbrev pub next_ask : ℕ → Known → Stage → Option Ask
next_ask guest known Nothing = None
next_ask guest known (Ringing number) = Some (Member guest known.floor (Notify number))
next_ask guest known (Posting queue bytes writable reads) = Some (Queue queue (Post bytes writable (record { guest = guest; floor = known.floor })))
next_ask guest known (Taking queue seq reads) = Some (Queue queue (Take seq))

-- a floor, and whether the member is gone, that the driver learns from elsewhere
abbrev pub learning : Known → ℕ → Bool → Known
learning known floor gone = record { floor = max known.floor floor; gone = known.gone || gone }

abbrev pub ended : Known → Answer → After
ended known answer = record { stage = Nothing; known = known; answer = Some answer }

-- all ones, and the member is known to be gone
abbrev pub lost : Known → ℕ → After
lost known floor = ended (record { floor = max known.floor floor; gone = true }) Ones

abbrev pub after_notify : Known → Told → After
after_notify known (FromMember placed) = elim placed.reply [
  | Gone floor ↦ lost known (max (placed.at + 1) floor)
  | _ ↦ ended (record { floor = max known.floor (placed.at + 1); gone = known.gone }) Written
]
after_notify known _ = ended known RefusedMemory

abbrev pub after_post : Known → ℕ → Bool → Told → After
after_post known queue reads (FromQueue placed) = elim placed.reply [
  | Seq seq ↦ record { stage = Taking queue seq reads; known = known; answer = None }
  | Closed floor ↦ lost known floor
  | _ ↦ ended known (RefusedFull queue placed.at)
]
after_post known queue reads _ = ended known RefusedMemory

-- after a completion: every other status counts as EINVAL, whose qualifier INVALID_FIELD alone leaves the member there
abbrev pub after_done : Known → Bool → DoneParts → After
after_done known reads done =
    if done.status == ok then (if reads then ended known (Data done.payload) else ended known Written) else
    if done.status == enomem then ended known RefusedMemory else
    if done.qualifier == invalid_field then ended known Ones else
    lost known 0

abbrev pub after_completion : Known → Bool → List ℕ → After
after_completion known reads bytes = after_done known reads (parts_of bytes)

abbrev pub waiting : Known → ℕ → ℕ → Bool → After
waiting known queue seq reads = record { stage = Taking queue seq reads; known = known; answer = None }

abbrev pub after_take : Known → ℕ → ℕ → Bool → Told → After
after_take known queue seq reads (FromQueue placed) = elim placed.reply [
  | Ready bytes floor ↦ after_completion (record { floor = max known.floor floor; gone = known.gone }) reads bytes
  | Lost floor ↦ lost known floor
  | _ ↦ waiting known queue seq reads
]
after_take known queue seq reads _ = waiting known queue seq reads

-- after the answer
abbrev pub after : Known → Stage → Told → After
after known (Ringing number) told = after_notify known told
after known (Posting queue bytes writable reads) told = after_post known queue reads told
after known (Taking queue seq reads) told = after_take known queue seq reads told
after known Nothing told = record { stage = Nothing; known = known; answer = None }
