-- What an administration queue answers, by looking back through its history: VIRTIO 1.3, 2.13 (administration virtqueues). Floors, tags, and what a Reset does are of this project.
use Rattle.std.specs.Prelude.{◌≡◌, ℕ, ◌≤◌, ◌<◌, ◌/◌, ◌==◌, nat_le, Bool, true, false, not, ◌||◌, ◌&&◌, List, [], ◌∷◌, Option, None, Some, if◌then◌else◌, take, length, filter, is_some}
use Rattle.std.specs.List.{list_any}
use Rattle.byte_fields.specs.Sizes.{is_queue_size}
use Rattle.history.specs.declared.entry.Entry.{Entry}
use Rattle.history.specs.Limits.{actor_limit}
use Rattle.history.specs.Look.{latest, latest_or, after_latest, or_else}
use Rattle.history.specs.Legal.{IsLegal}
use Rattle.group_calls.specs.Limits.{writable_limit}
use Rattle.board_text.specs.Floors.{number_for}
use Rattle.group_calls.specs.declared.queue.Tag.{Tag}
use Rattle.group_calls.specs.declared.queue.RingCall.{RingCall}
use Rattle.group_calls.specs.declared.queue.RingCall.TheVariants.{Post, Pop, Complete, Take, Reset}
use Rattle.group_calls.specs.declared.queue.RingReply.{RingReply}
use Rattle.group_calls.specs.declared.queue.RingReply.TheVariants.{Seq, Full, Closed, Fetched, Empty, InService, Completed, Stale, Ready, NotYet, Lost, ResetDone}

abbrev pub RingEntry : Type 0
RingEntry = Entry RingCall RingReply

-- ---- posted commands

-- a command as it was posted, and its number
pub record Posted : Type 0 where
  pub seq : ℕ
  pub bytes : List ℕ
  pub writable : ℕ
  pub tag : Tag

-- the command that an entry posted
abbrev pub posted_by : RingEntry → Option Posted
posted_by e = elim e.call [
  | Post bytes writable tag ↦ elim e.reply [ Seq s ↦ Some record { seq = s; bytes = bytes; writable = writable; tag = tag } | _ ↦ None ]
  | _ ↦ None
]

-- the commands that were posted, the latest first
abbrev pub posted : List RingEntry → List Posted
posted [] = []
posted (e ∷ past) = elim (posted_by e) [ None ↦ posted past | Some p ↦ p ∷ posted past ]

-- each command has as its number how many stand before it
abbrev pub IsNumbered : List Posted → Type 0
IsNumbered [] = Unit {0}
IsNumbered (p ∷ ps) = (p.seq ≡ length ps) × IsNumbered ps

-- the earliest of a list whose latest stands first
abbrev pub earliest : (Posted → Bool) → List Posted → Option Posted
earliest passes [] = None
earliest passes (p ∷ ps) = or_else (earliest passes ps) (if passes p then Some p else None)

-- the command that was posted under a number
abbrev pub command : List RingEntry → ℕ → Option Posted
command h s = earliest (λ p. p.seq == s) (posted h)

-- ---- where a command is

abbrev pub fetched_by : ℕ → RingEntry → Bool
fetched_by s e = elim e.call [ Pop ↦ elim e.reply [ Fetched seq bytes writable tag ↦ seq == s | _ ↦ false ] | _ ↦ false ]

abbrev pub completed_by : ℕ → RingEntry → Option (List ℕ × ℕ)
completed_by s e = elim e.call [ Complete seq bytes floor ↦ (if seq == s then Some (bytes, floor) else None) | _ ↦ None ]

abbrev pub taken_by : ℕ → RingEntry → Bool
taken_by s e = elim e.call [ Take seq ↦ seq == s | _ ↦ false ]

-- a Pop of it stands
abbrev pub is_fetched : List RingEntry → ℕ → Bool
is_fetched h s = list_any (fetched_by s) h

-- the bytes and the floor of its Complete
abbrev pub completion : List RingEntry → ℕ → Option (List ℕ × ℕ)
completion h s = latest (completed_by s) h

-- a Take of it stands
abbrev pub is_taken : List RingEntry → ℕ → Bool
is_taken h s = list_any (taken_by s) h

-- it is fetched, and isn't completed
abbrev pub in_service : List RingEntry → ℕ → Bool
in_service h s = is_fetched h s && not (is_some (completion h s))

-- it isn't taken
abbrev pub is_outstanding : List RingEntry → Posted → Bool
is_outstanding h p = not (is_taken h p.seq)

-- the commands that aren't taken, the latest first
abbrev pub outstanding : List RingEntry → List Posted
outstanding h = filter (is_outstanding h) (posted h)

-- ---- a Reset closes the queue

abbrev pub is_reset : RingEntry → Bool
is_reset e = elim e.call [ Reset floors ↦ true | _ ↦ false ]

-- a Reset stands
abbrev pub is_closed : List RingEntry → Bool
is_closed h = list_any is_reset h

abbrev pub posts : ℕ → RingEntry → Bool
posts s e = elim (posted_by e) [ None ↦ false | Some p ↦ p.seq == s ]

-- a Reset stands after the command's Post
abbrev pub is_old : List RingEntry → ℕ → Bool
is_old h s = list_any is_reset (after_latest (posts s) h)

abbrev pub reset_floors : RingEntry → Option (List ℕ)
reset_floors e = elim e.call [ Reset floors ↦ Some floors | _ ↦ None ]

-- the floors of the latest Reset, or none
abbrev pub latest_floors : List RingEntry → List ℕ
latest_floors h = latest_or [] reset_floors h

-- the number for the guest among them, else 0
abbrev pub closing_floor : List RingEntry → ℕ → ℕ
closing_floor h guest = number_for guest (latest_floors h)

-- ---- answers

abbrev pub post_answer : ℕ → List RingEntry → Tag → RingReply
post_answer size h tag =
    if is_closed h then Closed (closing_floor h tag.guest) else
    if nat_le (size / 2) (length (outstanding h)) then Full else
    Seq (length (posted h))

abbrev pub fetch : Option Posted → RingReply
fetch None = Empty
fetch (Some p) = Fetched p.seq p.bytes p.writable p.tag

-- the command that is in service, or else the earliest that isn't fetched
abbrev pub pop_or_fetch : List RingEntry → Option Posted → RingReply
pop_or_fetch h (Some p) = InService p.seq
pop_or_fetch h None = fetch (earliest (λ p. not (is_fetched h p.seq)) (posted h))

abbrev pub pop_answer : List RingEntry → RingReply
pop_answer h = if is_closed h then Empty else pop_or_fetch h (earliest (λ p. in_service h p.seq) (posted h))

abbrev pub complete_answer : List RingEntry → ℕ → RingReply
complete_answer h s = if in_service h s && not (is_closed h) then Completed else Stale

-- as many of the completion's bytes as are writable
abbrev pub take_completed : List RingEntry → Posted → Option (List ℕ × ℕ) → RingReply
take_completed h p (Some c) = Ready (take p.writable c.0) c.1
take_completed h p None = if is_old h p.seq then Lost (closing_floor h p.tag.guest) else NotYet

abbrev pub take_posted : List RingEntry → Option Posted → RingReply
take_posted h None = Stale
take_posted h (Some p) = if is_taken h p.seq then Stale else take_completed h p (completion h p.seq)

abbrev pub take_answer : List RingEntry → ℕ → RingReply
take_answer h s = take_posted h (command h s)

-- what a queue of a size answers
abbrev pub queue_answer : ℕ → List RingEntry → RingCall → RingReply
queue_answer size h (Post bytes writable tag) = post_answer size h tag
queue_answer size h Pop = pop_answer h
queue_answer size h (Complete seq bytes floor) = complete_answer h seq
queue_answer size h (Take seq) = take_answer h seq
queue_answer size h (Reset floors) = ResetDone

-- a reply that leaves no entry
abbrev pub is_quiet_reply : RingReply → Bool
is_quiet_reply Full = true
is_quiet_reply (Closed floor) = true
is_quiet_reply Empty = true
is_quiet_reply (InService seq) = true
is_quiet_reply Stale = true
is_quiet_reply NotYet = true
is_quiet_reply _ = false

-- ---- legal histories. Of this project

-- what a queue is made with: 4, 8, 16, 32, 64, 128 or 256 entries
abbrev pub IsQueueSize : ℕ → Type 0
IsQueueSize size = is_queue_size size ≡ true

-- what a call has to meet
abbrev pub queue_may : ℕ → ℕ → RingCall → Type 0
queue_may size who (Post bytes writable tag) = (who < actor_limit) × (writable ≤ writable_limit)
queue_may size who _ = who < actor_limit

abbrev pub IsLegalQueue : ℕ → List RingEntry → Type 0
IsLegalQueue size h = IsLegal (queue_answer size) is_quiet_reply (queue_may size) h

-- Pop, Complete and Take take no memory
abbrev pub takes_none : RingCall → Bool
takes_none Pop = true
takes_none (Complete seq bytes floor) = true
takes_none (Take seq) = true
takes_none _ = false

-- nor does a call with a quiet reply
abbrev pub queue_spares : ℕ → List RingEntry → RingCall → Type 0
queue_spares size h call = takes_none call || is_quiet_reply (queue_answer size h call) ≡ true
