-- What the machine of bring-up asks, as lists with the latest ask first. Of this project.
use Rattle.std.specs.Prelude.{◌≡◌, ℕ, List, [], ◌∷◌, Option, None, Some, IsSome}
use Rattle.group_calls.specs.Asks.{Exchange, AreAnswered}
use Rattle.vfio_driver.specs.declared.bring_stage.BringCommand.{BringCommand}
use Rattle.vfio_driver.specs.declared.bring_stage.BringStage.{BringStage}
use Rattle.vfio_driver.specs.declared.bring_stage.BringStage.TheVariants.{Posting, Taking, Over}
use Rattle.vfio_driver.specs.Bring.{first_stage, next_ask, after}

-- the stage of a machine that was fed these answers
abbrev pub stage_after : ℕ → List Exchange → BringStage
stage_after member [] = first_stage member
stage_after member (x ∷ past) = after (stage_after member past) x.1

-- each ask is the machine's next
abbrev pub AreAsked : ℕ → List Exchange → Type 0
AreAsked member [] = Unit {0}
AreAsked member (x ∷ past) = (next_ask member (stage_after member past) ≡ Some x.0) × AreAsked member past

-- and nothing is left to ask
abbrev pub IsWholeRun : ℕ → List Exchange → Type 0
IsWholeRun member xs = AreAnswered xs × AreAsked member xs × (next_ask member (stage_after member xs) ≡ None)

-- or something is
abbrev pub IsOpenRun : ℕ → List Exchange → Type 0
IsOpenRun member xs = AreAnswered xs × AreAsked member xs × IsSome (next_ask member (stage_after member xs))

-- the command that the next ask is about
abbrev pub command_at : BringStage → Option BringCommand
command_at (Posting command) = Some command
command_at (Taking command seq) = Some command
command_at (Over brought) = None
