-- The floors of the machine's asks on members. Of this project.
use Rattle.std.specs.Prelude.{◌≡◌, ℕ, List, [], ◌∷◌, Option, None, Some}
use Rattle.history.specs.Look.{latest_or}
use Rattle.group_calls.specs.declared.ask.Ask.{Ask}
use Rattle.group_calls.specs.declared.ask.Ask.TheVariants.{Member}
use Rattle.group_calls.specs.declared.ask.Told.TheVariants.{Queue as FromQueue}
use Rattle.group_calls.specs.declared.queue.RingReply.TheVariants.{Fetched}
use Rattle.group_calls.specs.Asks.{Exchange}

-- the floor in the tag of the command that a Pop fetched
abbrev pub floor_fetched : Exchange → Option ℕ
floor_fetched x = elim x.1 [
  | FromQueue placed ↦ elim placed.reply [ Fetched seq bytes writable tag ↦ Some tag.floor | _ ↦ None ]
  | _ ↦ None
]

-- an ask on a member has this floor
abbrev pub IsAtFloor : ℕ → Ask → Type 0
IsAtFloor floor (Member id at call) = at ≡ floor
IsAtFloor floor _ = Unit {0}

-- each has the floor in the tag of the command that was fetched last
abbrev pub AreAtFloors : List Exchange → Type 0
AreAtFloors [] = Unit {0}
AreAtFloors (x ∷ past) = IsAtFloor (latest_or 0 floor_fetched past) x.0 × AreAtFloors past
