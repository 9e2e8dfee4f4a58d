-- What the machine of a service asks, as lists with the latest ask first. Of this project.
use Rattle.std.specs.Prelude.{◌≡◌, ℕ, List, [], ◌∷◌, None, Some, IsSome}
use Rattle.group_calls.specs.Asks.{Exchange, AreAnswered}
use Rattle.serve_machine.specs.declared.stage.Stage.{Stage}
use Rattle.serve_machine.specs.declared.stage.Stage.TheVariants.{Popping}
use Rattle.serve_machine.specs.Service.{next_ask, after}

-- the stage of a machine that was fed these answers
abbrev pub stage_after : List Exchange → Stage
stage_after [] = Popping
stage_after (x ∷ past) = after (stage_after past) x.1

-- each ask is the machine's next
abbrev pub AreAsked : ℕ → List Exchange → Type 0
AreAsked k [] = Unit {0}
AreAsked k (x ∷ past) = (next_ask k (stage_after past) ≡ Some x.0) × AreAsked k past

-- and nothing is left to ask
abbrev pub IsWholeRun : ℕ → List Exchange → Type 0
IsWholeRun k xs = AreAnswered xs × AreAsked k xs × (next_ask k (stage_after xs) ≡ None)

-- and something is
abbrev pub IsOpenRun : ℕ → List Exchange → Type 0
IsOpenRun k xs = AreAnswered xs × AreAsked k xs × IsSome (next_ask k (stage_after xs))
