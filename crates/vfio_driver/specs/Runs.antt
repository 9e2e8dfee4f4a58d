-- What the machine of an access asks, over what it heard, the latest first. Of this project.
use Rattle.std.specs.Prelude.{◌≡◌, ℕ, List, [], ◌∷◌, Option, None, Some, IsSome}
use Rattle.group_calls.specs.declared.ask.Ask.{Ask}
use Rattle.group_calls.specs.Asks.{AreAnswered}
use Rattle.io_bar.specs.declared.access.Route.{Route}
use Rattle.vfio_driver.specs.declared.access.After.{After}
use Rattle.vfio_driver.specs.declared.access.Known.{Known}
use Rattle.vfio_driver.specs.Access.{first_stage, next_ask, after, learning}
use Rattle.vfio_driver.specs.Heard.{Heard, answered, learnt, asks_of}

-- how far a machine is that heard this
abbrev pub after_all : ℕ → Known → ℕ → Route → List Heard → After
after_all guest known queue route [] = record { stage = first_stage guest known route queue; known = known; answer = None }
after_all guest known queue route (answered x ∷ past) = after (after_all guest known queue route past).known (after_all guest known queue route past).stage x.1
after_all guest known queue route (learnt floor gone ∷ past) = record (after_all guest known queue route past) { known = learning (after_all guest known queue route past).known floor gone }

-- its next ask
abbrev pub ask_after : ℕ → Known → ℕ → Route → List Heard → Option Ask
ask_after guest known queue route heard = next_ask guest (after_all guest known queue route heard).known (after_all guest known queue route heard).stage

-- each ask is the machine's next
abbrev pub AreAsked : ℕ → Known → ℕ → Route → List Heard → Type 0
AreAsked guest known queue route [] = Unit {0}
AreAsked guest known queue route (answered x ∷ past) = (ask_after guest known queue route past ≡ Some x.0) × AreAsked guest known queue route past
AreAsked guest known queue route (learnt floor gone ∷ past) = AreAsked guest known queue route past

-- and each has an answer that fits it
pub record IsRun (guest : ℕ) (known : Known) (queue : ℕ) (route : Route) (heard : List Heard) : Type 0 where
  pub answered : AreAnswered (asks_of heard)
  pub asked : AreAsked guest known queue route heard

-- nothing is left to ask
abbrev pub IsWholeRun : ℕ → Known → ℕ → Route → List Heard → Type 0
IsWholeRun guest known queue route heard = IsRun guest known queue route heard × (ask_after guest known queue route heard ≡ None)

-- or something is
abbrev pub IsOpenRun : ℕ → Known → ℕ → Route → List Heard → Type 0
IsOpenRun guest known queue route heard = IsRun guest known queue route heard × IsSome (ask_after guest known queue route heard)
