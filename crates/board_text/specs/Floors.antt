-- Lists of the floors of members. Of this project.
use Rattle.std.specs.Prelude.{ℕ, ◌-◌, ◌==◌, List, slice_index, if◌then◌else◌}

-- the number for a member: the m-th of the list from 1, or 0 where there is none
abbrev pub number_for : ℕ → List ℕ → ℕ
number_for m floors = if m == 0 then 0 else slice_index floors (m - 1)
