-- What a device is told of a position. Of this project.
use Rattle.std.specs.Prelude.{ℕ, Bool, List}
use Rattle.ring_layout.specs.declared.layout.Layout.{Layout}
use Rattle.ring_layout.specs.Chain.{available, found, Found as RingFound, nothing, bad_index, bad_chain, chain as a_chain}
use Rattle.ring_device.specs.Buffers.{LieIn}
use Rattle.ring_device.specs.declared.next.Found.{Found}
use Rattle.ring_device.specs.declared.next.Found.TheVariants.{Chain, Empty, Bad}
use Rattle.ring_device.specs.declared.next.Bad.TheVariants.{Index, Chain as BrokenChain}

-- what was found, a chain with its head and its buffers
abbrev pub told : List ℕ → Layout → ℕ → RingFound → Found
told mem l pos nothing = Empty
told mem l pos bad_index = Bad Index
told mem l pos bad_chain = Bad BrokenChain
told mem l pos (a_chain c) = Chain record { head = available mem l pos; parts = c }

-- what is told, where tables may be used or not
abbrev pub answer : Bool → List ℕ → Layout → ℕ → Found
answer indirect mem l pos = told mem l pos (found indirect mem l pos)

-- the buffers of a chain that was found lie in a memory of this length
abbrev pub LiesInside : ℕ → Found → Type 0
LiesInside memory (Chain c) = LieIn memory c.parts
LiesInside memory _ = Unit {0}
