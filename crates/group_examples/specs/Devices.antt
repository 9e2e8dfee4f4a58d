-- The devices of the examples.
use Rattle.std.specs.Prelude.{ℕ, false, true, [], ◌∷◌}
use Rattle.legacy_regs.specs.declared.device.Kind.TheVariants.{Block, Net}
use Rattle.group_calls.specs.declared.member.MemberMade.{MemberMade}

-- a block device of 8 sectors, whose guest has so many pages of memory
abbrev pub block_device : ℕ → MemberMade
block_device pages = record { id = 1; pages = pages; kind = Block 8 false }

abbrev pub read_only_device : MemberMade
read_only_device = record { id = 7; pages = 4; kind = Block 8 true }

-- a network device, whose guest has so many pages of memory
abbrev pub network_device : ℕ → MemberMade
network_device pages = record { id = 1; pages = pages; kind = Net (2 ∷ 0 ∷ 0 ∷ 0 ∷ 0 ∷ 1 ∷ []) }
