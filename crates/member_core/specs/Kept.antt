-- What a member keeps, as equations over its history. The code's own.
use Rattle.std.specs.Prelude.{◌≡◌, ℕ, ◌+◌, ◌<◌, ◌≤◌, Bool, true, false, List, length, bit_or, slice_index_or, Option, Some, is_some, unwrap_or, if◌then◌else◌}
use Rattle.history.specs.Limits.{history_limit}
use Rattle.history.specs.Look.{count}
use Rattle.group_calls.specs.declared.member.MemberMade.{MemberMade}
use Rattle.group_calls.specs.declared.member.MemberCall.{MemberCall}
use Rattle.group_calls.specs.declared.member.MemberCall.TheVariants.{Act}
use Rattle.group_calls.specs.declared.member.MemberReply.{MemberReply}
use Rattle.group_calls.specs.MemberEntries.{MemberEntry, since_reset}
use Rattle.group_calls.specs.MemberQueues.{receives, arrivals, leaves_backlog, bit_raised, takes_irqs, raised}
use Rattle.group_calls.specs.Facts.{Facts}
use Rattle.group_calls.specs.Steps.{Outcome, outcome}
use Rattle.group_calls.specs.Member.{kills, is_killed, gone_floor, living_answer, answer_by, IsLegalMember}
use Rattle.member_core.specs.declared.state.State.{State}
use Rattle.member_core.specs.Queues.{first_facts, is_pending, both_queues, queues_then}
use Rattle.member_core.specs.Holding.{holdings, holdings_then}

-- ---- what is kept

-- a member that takes frames has let no more go than came
abbrev pub LeavesFew : MemberMade → List MemberEntry → Type 0
LeavesFew made run = receives made.kind 0 ≡ true → count leaves_backlog run ≤ length (arrivals run)

-- the state is what the history says
pub record Stands (made : MemberMade) (s : State) (h : List MemberEntry) : Type 0 where
  pub device : s.device ≡ holdings made h
  pub queues : s.queues ≡ both_queues made.kind (since_reset h)
  pub raised : s.raised ≡ raised h
  pub killed : is_some s.killed ≡ is_killed h
  pub floor : unwrap_or s.killed 0 ≡ gone_floor h
  pub few : LeavesFew made (since_reset h)

-- and the history is legal and not too long
pub record Keeps (s : State) (h : List MemberEntry) : Type 0 where
  pub stands : Stands s.device.made s h
  pub legal : IsLegalMember s.device.made h
  pub most : length h ≤ history_limit

-- ---- a call: the reply, and the device after it

-- these facts are what the state tells
pub record AreTold (s : State) (f : Facts) : Type 0 where
  pub registers : f.registers ≡ s.device.registers
  pub waiting : f.waiting ≡ s.device.waiting
  pub position : (q : ℕ) → q < 2 → f.position q ≡ (slice_index_or s.queues q first_facts).position
  pub pending : (q : ℕ) → q < 2 → f.pending q ≡ is_pending (slice_index_or s.queues q first_facts)
  pub raised : f.raised ≡ s.raised

-- what a step of each queue does, where these facts are told
abbrev pub does : State → Facts → ℕ → Outcome
does s f q = outcome s.device.made s.device.memory s.device.disk f q

abbrev pub is_access : MemberCall → Bool
is_access (Act command) = true
is_access _ = false

-- the reply of a member that lives, and of any
abbrev pub living_reply : State → Facts → MemberCall → MemberReply
living_reply s f call = living_answer s.device.made f s.device.memory s.device.disk call

abbrev pub reply_of : State → Facts → MemberCall → MemberReply
reply_of s f call = answer_by s.device.made (is_some s.killed) (unwrap_or s.killed 0) f s.device.memory s.device.disk call

-- the state after a call and its reply, of which just the device changes
abbrev pub left_by_call : State → Facts → MemberCall → MemberReply → State
left_by_call s f call reply = record s { device = holdings_then (does s f) call reply s.device }

-- ---- the entry: what is kept beside the device, after it

abbrev pub raised_then : MemberEntry → ℕ → ℕ
raised_then e mask = if takes_irqs e then 0 else bit_or (bit_raised e) mask

-- the entry stands at this place
abbrev pub killed_then : ℕ → MemberEntry → Option ℕ → Option ℕ
killed_then at e floor = if kills e then Some (at + 1) else floor

-- the state after an entry at this place, before which this queue was selected
abbrev pub noted : ℕ → ℕ → MemberEntry → State → State
noted at selected e s = record s {
  queues = queues_then s.device.made.kind selected e s.queues;
  raised = raised_then e s.raised;
  killed = killed_then at e s.killed;
}
