-- The floors of the machine's asks on members. Of this project.
use Rattle.std.specs.Prelude.{◌≡◌, ℕ, List, [], ◌∷◌}
use Rattle.group_calls.specs.declared.ask.Ask.{Ask}
use Rattle.group_calls.specs.declared.ask.Ask.TheVariants.{Member}
use Rattle.group_calls.specs.Asks.{Exchange}

-- a line knows no floor: an ask on a member has the floor 0
abbrev pub IsAtFloor : Ask → Type 0
IsAtFloor (Member id at call) = at ≡ 0
IsAtFloor _ = Unit {0}

abbrev pub AreAtFloors : List Exchange → Type 0
AreAtFloors [] = Unit {0}
AreAtFloors (x ∷ past) = IsAtFloor x.0 × AreAtFloors past
