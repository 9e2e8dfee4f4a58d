-- Legal histories, and what a call leaves. Of this project.
use Rattle.std.specs.Prelude.{◌≡◌, ℕ, Bool, false, List, [], ◌∷◌, length, if◌then◌else◌}
use Rattle.history.specs.declared.entry.Entry.{Entry}
use Rattle.history.specs.declared.entry.Placed.{Placed}

-- what contracts see of an object: what it was made with, and its history
pub record Cell (M C R : Type 0) : Type 0 where
  pub made : M
  pub history : List (Entry C R)

-- each reply is the answer to its call over what stood before it, none is quiet, and each call could be made
abbrev pub IsLegal : {C R : Type 0} → (List (Entry C R) → C → R) → (R → Bool) → (ℕ → C → Type 0) → List (Entry C R) → Type 0
IsLegal answer is_quiet may_call [] = Unit {0}
IsLegal answer is_quiet may_call (e ∷ past) =
    (e.reply ≡ answer past e.call) × (is_quiet e.reply ≡ false) × may_call e.who e.call × IsLegal answer is_quiet may_call past

-- the call was answered over the old history, at its end, and left its entry, or nothing where the reply is quiet
pub record IsAnswered {C R : Type 0} (answer : List (Entry C R) → C → R) (is_quiet : R → Bool) (old new : List (Entry C R)) (who : ℕ) (call : C) (placed : Placed R) : Type 0 where
  pub place : placed.at ≡ length old
  pub reply : placed.reply ≡ answer old call
  pub grows : new ≡ (if is_quiet placed.reply then old else record { who = who; call = call; reply = placed.reply } ∷ old)

-- an object without quiet replies
abbrev pub never_quiet : {R : Type 0} → R → Bool
never_quiet reply = false

-- a history with no call that is sure to take no memory
abbrev pub never_spares : {C R : Type 0} → List (Entry C R) → C → Type 0
never_spares h call = ⊥
