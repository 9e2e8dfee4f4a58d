-- What a device is told of a position where it wants one buffer to read and one to write. Of this project.
use Rattle.std.specs.Prelude.{ℕ, ◌+◌, ◌≤◌, false, not, ◌&&◌, List, [], ◌∷◌, Option, None, Some, if◌then◌else◌}
use Rattle.ring_layout.specs.declared.layout.Layout.{Layout}
use Rattle.ring_layout.specs.declared.descriptor.Descriptor.{Descriptor}
use Rattle.ring_layout.specs.Chain.{is_written, available, found, Found as RingFound, nothing, bad_index, bad_chain, chain as a_chain}
use Rattle.ring_device.specs.Buffers.{Buffers}
use Rattle.ring_device.specs.declared.pair.PairFound.{PairFound}
use Rattle.ring_device.specs.declared.pair.PairFound.TheVariants.{Pair, Empty, Other}

-- two buffers, the first without WRITE and the second with it
abbrev pub pair_of : ℕ → List Descriptor → PairFound
pair_of head (a ∷ b ∷ []) = if not (is_written a) && is_written b then Pair head a.addr a.len b.addr b.len else Other
pair_of head _ = Other

-- the pair that a chain is, if there is one
abbrev pub pair_in : Option Buffers → PairFound
pair_in None = Other
pair_in (Some c) = pair_of c.head c.parts

-- a chain of such two buffers is a pair, and no entry is told apart from all the rest
abbrev pub pair_told : List ℕ → Layout → ℕ → RingFound → PairFound
pair_told mem l pos nothing = Empty
pair_told mem l pos bad_index = Other
pair_told mem l pos bad_chain = Other
pair_told mem l pos (a_chain c) = pair_of (available mem l pos) c

-- no tables may be used
abbrev pub pair_answer : List ℕ → Layout → ℕ → PairFound
pair_answer mem l pos = pair_told mem l pos (found false mem l pos)

-- both buffers of a pair lie in a memory of this length
abbrev pub PairLiesIn : ℕ → PairFound → Type 0
PairLiesIn memory (Pair head readable readable_len writable writable_len) = (readable + readable_len ≤ memory) × (writable + writable_len ≤ memory)
PairLiesIn memory _ = Unit {0}
