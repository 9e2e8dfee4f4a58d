-- What a member's device holds, and what its calls leave of it. The code's own.
use Rattle.std.specs.Prelude.{◌≡◌, ℕ, ◌==◌, Bool, true, false, ◌&&◌, ◌||◌, List, [], ◌∷◌, ◌++◌, drop, if◌then◌else◌}
use Rattle.admin_wire.specs.declared.command.LegacyCmd.{LegacyCmd}
use Rattle.legacy_regs.specs.declared.accesses.Space.TheVariants.{Common}
use Rattle.legacy_regs.specs.Registers.{Registers}
use Rattle.group_calls.specs.declared.member.MemberMade.{MemberMade}
use Rattle.group_calls.specs.declared.member.MemberCall.TheVariants.{Act, Step}
use Rattle.group_calls.specs.declared.member.MemberReply.{MemberReply}
use Rattle.group_calls.specs.declared.member.MemberReply.TheVariants.{Arrived}
use Rattle.group_calls.specs.MemberEntries.{is_done, write_of, is_zero_status}
use Rattle.group_calls.specs.MemberQueues.{is_served, is_dropped}
use Rattle.group_calls.specs.RegisterSteps.{registers_then}
use Rattle.group_calls.specs.Facts.{Facts}
use Rattle.group_calls.specs.Steps.{Outcome, outcome_reply}
use Rattle.group_calls.specs.Storage.{memory_left}
use Rattle.group_calls.specs.Replay.{disk_left}

pub record Holdings : Type 0 where
  pub made : MemberMade
  pub registers : Registers
  pub memory : List ℕ
  pub disk : List ℕ
  -- the frames that wait, the earliest first
  pub waiting : List (List ℕ)

-- ---- register accesses

-- no frame waits after a done write of 0 to device status
abbrev pub waiting_after_act : LegacyCmd → MemberReply → List (List ℕ) → List (List ℕ)
waiting_after_act command reply waiting = if is_done reply && is_zero_status (write_of Common command) then [] else waiting

-- after a register access with this reply
abbrev pub left_by_act : LegacyCmd → MemberReply → Holdings → Holdings
left_by_act command reply d = record d {
  registers = registers_then d.made.kind (Act command) reply d.registers;
  waiting = waiting_after_act command reply d.waiting;
}

-- ---- frames from the network

abbrev pub is_arrived : MemberReply → Bool
is_arrived Arrived = true
is_arrived _ = false

-- a frame that is kept waits behind all others
abbrev pub left_by_arrival : List ℕ → MemberReply → Holdings → Holdings
left_by_arrival frame reply d = record d { waiting = if is_arrived reply then d.waiting ++ frame ∷ [] else d.waiting }

-- ---- steps

-- these facts of queue q are what the device holds, and what it is told: where the queue stands, and whether it is to be served
pub record AreFacts (d : Holdings) (q place : ℕ) (to_serve : Bool) (f : Facts) : Type 0 where
  pub registers : f.registers ≡ d.registers
  pub waiting : f.waiting ≡ d.waiting
  pub position : f.position q ≡ place
  pub pending : f.pending q ≡ to_serve

-- the first frame leaves where queue 0 was served, and where it was dropped
abbrev pub waiting_after_step : ℕ → MemberReply → List (List ℕ) → List (List ℕ)
waiting_after_step q reply waiting = if ((q == 0) && is_served reply) || is_dropped reply then drop 1 waiting else waiting

-- after a step of queue q with this outcome
abbrev pub left_by_step : ℕ → Outcome → Holdings → Holdings
left_by_step q o d = record d {
  registers = registers_then d.made.kind (Step q) (outcome_reply o) d.registers;
  memory = memory_left d.memory o;
  disk = disk_left d.disk o;
  waiting = waiting_after_step q (outcome_reply o) d.waiting;
}
