-- Places in a history. A history is a list of entries with the latest first, and the place of an entry is the number of entries before it: the length of what stands behind it in the list. Of this project.
use Rattle.std.specs.Prelude.{◌≡◌, ℕ, nat_lt, ◌==◌, List, [], ◌∷◌, ◌++◌, length, Option, None, Some, if◌then◌else◌}
use Rattle.history.specs.declared.entry.Entry.{Entry}

-- the entry at a place
abbrev pub entry_at : {E : Type 0} → ℕ → List E → Option E
entry_at p [] = None
entry_at p (e ∷ past) = if p == length past then Some e else entry_at p past

-- the entries before a place
abbrev pub before : {E : Type 0} → ℕ → List E → List E
before p [] = []
before p (e ∷ past) = if nat_lt (length past) p then e ∷ past else before p past

-- an earlier history of the same object: the new one has more entries in front of it
abbrev pub IsEarlier : {E : Type 0} → List E → List E → Type 0
IsEarlier {E} old new = (more : List E) × (new ≡ more ++ old)

-- the entries of one actor, each with its place, the latest first
abbrev pub calls_of : {C R : Type 0} → ℕ → List (Entry C R) → List (ℕ × Entry C R)
calls_of who [] = []
calls_of who (e ∷ past) = if e.who == who then (length past, e) ∷ calls_of who past else calls_of who past
