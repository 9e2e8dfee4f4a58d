-- What the device of a member holds after a history, and what an entry makes of it. The code's own.
use Rattle.std.specs.Prelude.{ℕ, ◌++◌, List, [], ◌∷◌, if◌then◌else◌}
use Rattle.group_calls.specs.declared.member.MemberMade.{MemberMade}
use Rattle.group_calls.specs.declared.member.MemberCall.{MemberCall}
use Rattle.group_calls.specs.declared.member.MemberCall.TheVariants.{Act, Step, Arrive, Flr}
use Rattle.group_calls.specs.declared.member.MemberReply.{MemberReply}
use Rattle.group_calls.specs.MemberEntries.{MemberEntry, is_done, since_reset}
use Rattle.group_calls.specs.MemberRegisters.{registers_after}
use Rattle.group_calls.specs.MemberQueues.{backlog}
use Rattle.group_calls.specs.RegisterSteps.{registers_then}
use Rattle.group_calls.specs.Steps.{Outcome}
use Rattle.group_calls.specs.Storage.{memory_then, memory_after, disk_after}
use Rattle.group_calls.specs.Replay.{disk_then}
use Rattle.member_device.specs.Device.{Holdings, waiting_after_act, is_arrived, waiting_after_step}

abbrev pub holdings : MemberMade → List MemberEntry → Holdings
holdings made h = record {
  made = made;
  registers = registers_after made.kind h;
  memory = memory_after made h;
  disk = disk_after made h;
  waiting = backlog (since_reset h);
}

-- the frames that wait after a call and its reply
abbrev pub waiting_then : MemberCall → MemberReply → List (List ℕ) → List (List ℕ)
waiting_then (Act command) reply waiting = waiting_after_act command reply waiting
waiting_then (Arrive frame) reply waiting = if is_arrived reply then waiting ++ frame ∷ [] else waiting
waiting_then (Step q) reply waiting = waiting_after_step q reply waiting
waiting_then Flr reply waiting = if is_done reply then [] else waiting
waiting_then _ reply waiting = waiting

-- after a call and its reply, where a step of each queue does this
abbrev pub holdings_then : (ℕ → Outcome) → MemberCall → MemberReply → Holdings → Holdings
holdings_then does call reply d = record d {
  registers = registers_then d.made.kind call reply d.registers;
  memory = memory_then does d.memory call reply;
  disk = disk_then does d.disk call reply;
  waiting = waiting_then call reply d.waiting;
}
