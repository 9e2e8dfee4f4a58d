-- One service as a machine: what is asked at each stage, and the stage after the answer. Of this project; the commands are those of VIRTIO 1.3, 2.12.1 (group administration commands), and the queue is that of 2.13 (administration virtqueues).
use Rattle.std.specs.Prelude.{ℕ, Bool, true, false, Option, Some, None}
use Rattle.group_calls.specs.declared.ask.Ask.{Ask}
use Rattle.group_calls.specs.declared.ask.Ask.TheVariants.{Owner, Queue, Member}
use Rattle.group_calls.specs.declared.ask.Told.{Told}
use Rattle.group_calls.specs.declared.ask.Told.TheVariants.{Queue as FromQueue}
use Rattle.group_calls.specs.declared.owner.OwnerCall.TheVariants.{Judge}
use Rattle.group_calls.specs.declared.queue.RingCall.TheVariants.{Pop, Complete}
use Rattle.group_calls.specs.declared.queue.RingReply.TheVariants.{Fetched as Fetches}
use Rattle.group_calls.specs.declared.member.MemberCall.TheVariants.{Act}
use Rattle.serve_machine.specs.declared.stage.Fetched.{Fetched}
use Rattle.serve_machine.specs.declared.stage.Stage.{Stage}
use Rattle.serve_machine.specs.declared.stage.Stage.TheVariants.{Popping, Judging, Acting, Completing, Ended}
use Rattle.serve_machine.specs.Completion.{completed_with, completed_under}
use Rattle.serve_machine.specs.Grammar.{passed_on}

-- ---- asks

-- the ask of a stage
abbrev pub next_ask : ℕ → Stage → Option Ask
next_ask queue Popping = Some (Queue queue Pop)
next_ask queue (Judging command bytes) = Some (Owner (Judge bytes command.writable))
next_ask queue (Acting command member access) = Some (Member member command.tag.floor (Act access))
next_ask queue (Completing seq bytes floor) = Some (Queue queue (Complete seq bytes floor))
next_ask queue Ended = None

-- a command is fetched, and its completion isn't answered
abbrev pub is_serving : Stage → Bool
is_serving Popping = false
is_serving Ended = false
is_serving _ = true

-- ---- answers

-- where nothing was fetched the service has ended
abbrev pub after_pop : Told → Stage
after_pop (FromQueue placed) = elim placed.reply [
  | Fetches seq bytes writable tag ↦ Judging (record { seq = seq; writable = writable; tag = tag }) bytes
  | _ ↦ Ended
]
after_pop _ = Ended

-- by the completion rule
abbrev pub completing : Fetched → Told → Stage
completing command told = Completing command.seq (completed_with told command.writable) (completed_under command.tag.floor told)

-- a register access goes to its member; the rest is completed
abbrev pub after_judge : Fetched → Told → Stage
after_judge command told = elim (passed_on told) [ Some to ↦ Acting command to.0 to.1 | None ↦ completing command told ]

abbrev pub after_act : Fetched → Told → Stage
after_act command told = completing command told

-- the stage after the answer
abbrev pub after : Stage → Told → Stage
after Popping told = after_pop told
after (Judging command bytes) told = after_judge command told
after (Acting command member access) told = after_act command told
after _ told = Ended
