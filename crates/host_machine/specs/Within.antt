-- The limits that a line keeps. Of this project.
use Rattle.std.specs.Prelude.{ℕ, ◌+◌, ◌≤◌, Bool, true, false}
use Rattle.history.specs.Limits.{history_limit}
use Rattle.group_calls.specs.declared.ask.Told.{Told}
use Rattle.group_calls.specs.declared.ask.Told.TheVariants.{Member as FromMember}
use Rattle.host_machine.specs.declared.stage.Stage.{Stage}
use Rattle.host_machine.specs.declared.stage.Stage.TheVariants.{Delivering, Killing, Resetting, Closing}

-- a member is to be killed: its floor needs a place among the floors
abbrev pub kills_in : Stage → ℕ
kills_in Killing = 1
kills_in _ = 0

-- how many queues there are at least
abbrev pub queue_in : Stage → ℕ
queue_in (Closing queue) = queue + 1
queue_in _ = 0

-- an answer at a place of a history
abbrev pub IsLow : Told → Type 0
IsLow (FromMember placed) = placed.at ≤ history_limit
IsLow _ = Unit {0}

-- a frame is to be copied, or floors are
abbrev pub wants_memory : Stage → Bool
wants_memory (Delivering member frame) = true
wants_memory Resetting = true
wants_memory (Closing queue) = true
wants_memory _ = false
