-- What the machine of a line asks, as lists with the latest ask first. Of this project.
use Rattle.std.specs.Prelude.{◌≡◌, ℕ, List, [], ◌∷◌, None, Some, IsSome}
use Rattle.group_calls.specs.Asks.{Exchange, AreAnswered}
use Rattle.host_machine.specs.declared.line.HostLine.{HostLine}
use Rattle.host_machine.specs.declared.stage.Underway.{Underway}
use Rattle.host_machine.specs.Machine.{first, next_ask, after}

-- a line that was begun, after these answers
abbrev pub after_all : ℕ → ℕ → HostLine → List Exchange → Underway
after_all members queues line [] = first members line
after_all members queues line (x ∷ past) = after members queues (after_all members queues line past) x.1

-- each ask is the machine's next
abbrev pub AreAsked : ℕ → ℕ → HostLine → List Exchange → Type 0
AreAsked members queues line [] = Unit {0}
AreAsked members queues line (x ∷ past) = (next_ask (after_all members queues line past) ≡ Some x.0) × AreAsked members queues line past

-- and nothing is left to ask
abbrev pub IsWholeRun : ℕ → ℕ → HostLine → List Exchange → Type 0
IsWholeRun members queues line xs = AreAnswered xs × AreAsked members queues line xs × (next_ask (after_all members queues line xs) ≡ None)

-- and something is
abbrev pub IsOpenRun : ℕ → ℕ → HostLine → List Exchange → Type 0
IsOpenRun members queues line xs = AreAnswered xs × AreAsked members queues line xs × IsSome (next_ask (after_all members queues line xs))
