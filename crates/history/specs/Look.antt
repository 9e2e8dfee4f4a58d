-- Looking back through a list of entries with the latest first. Of this project.
use Rattle.std.specs.Prelude.{ℕ, ◌+◌, Bool, List, [], ◌∷◌, Option, None, Some, unwrap_or, if◌then◌else◌}

-- the first, or else the second
abbrev pub or_else : {Y : Type 0} → Option Y → Option Y → Option Y
or_else None o = o
or_else (Some y) o = Some y

-- what the latest entry tells that tells something
abbrev pub latest : {E Y : Type 0} → (E → Option Y) → List E → Option Y
latest tells [] = None
latest tells (e ∷ past) = or_else (tells e) (latest tells past)

-- the same, or d where none does
abbrev pub latest_or : {E Y : Type 0} → Y → (E → Option Y) → List E → Y
latest_or d tells [] = d
latest_or d tells (e ∷ past) = unwrap_or (tells e) (latest_or d tells past)

-- the entries after the latest one that passes, or all where none does
abbrev pub after_latest : {E : Type 0} → (E → Bool) → List E → List E
after_latest passes [] = []
after_latest passes (e ∷ past) = if passes e then [] else e ∷ after_latest passes past

-- how many entries pass
abbrev pub count : {E : Type 0} → (E → Bool) → List E → ℕ
count passes [] = 0
count passes (e ∷ past) = if passes e then count passes past + 1 else count passes past

-- the two where an entry is looked at together with what stood before it
abbrev pub latest_seen_or : {E Y : Type 0} → Y → (E → List E → Option Y) → List E → Y
latest_seen_or d tells [] = d
latest_seen_or d tells (e ∷ past) = unwrap_or (tells e past) (latest_seen_or d tells past)

abbrev pub after_latest_seen : {E : Type 0} → (E → List E → Bool) → List E → List E
after_latest_seen passes [] = []
after_latest_seen passes (e ∷ past) = if passes e past then [] else e ∷ after_latest_seen passes past
