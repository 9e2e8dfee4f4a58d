-- What contracts see of a chain of descriptors. Of this project, over VIRTIO 1.3, 2.7.5.
use Rattle.std.specs.Prelude.{◌≡◌, true, ℕ, Bool, List, Option, option_map}
use Rattle.std.specs.List.{list_all}
use Rattle.ring_layout.specs.declared.layout.Layout.{Layout}
use Rattle.ring_layout.specs.declared.descriptor.Descriptor.{Descriptor}
use Rattle.ring_layout.specs.Chain.{is_inside, available, chain_at}

-- the index of the first descriptor, and the buffers in order
pub record Buffers : Type 0 where
  pub head : ℕ
  pub parts : List Descriptor

-- each buffer lies in a memory of this length
abbrev pub LieIn : ℕ → List Descriptor → Type 0
LieIn memory parts = list_all (is_inside memory) parts ≡ true

-- the head and the buffers of the chain at a position, if there is one, where tables may be used or not
abbrev pub chain_buffers : Bool → List ℕ → Layout → ℕ → Option Buffers
chain_buffers indirect mem l pos = option_map (λ c. record { head = available mem l pos; parts = c }) (chain_at indirect mem l pos)
