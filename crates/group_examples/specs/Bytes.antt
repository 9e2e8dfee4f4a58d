-- Commands, descriptors, rings and requests in bytes, for examples.
use Rattle.std.specs.Prelude.{ℕ, List, ◌++◌, replicate}
use Rattle.std.specs.List.{flat_map}
use Rattle.byte_fields.specs.Places.{bytes_of}

-- the fixed part of a command: VIRTIO 1.3, 2.12.1
abbrev pub command_bytes : ℕ → ℕ → ℕ → List ℕ
command_bytes opcode group_type member = bytes_of 2 opcode ++ bytes_of 2 group_type ++ replicate 12 0 ++ bytes_of 8 member

-- the descriptor of a buffer: VIRTIO 1.3, 2.7.5. Flags are 1 NEXT, 2 WRITE, 4 INDIRECT
abbrev pub buffer : ℕ → ℕ → ℕ → ℕ → List ℕ
buffer addr len flags next = bytes_of 8 addr ++ bytes_of 4 len ++ bytes_of 2 flags ++ bytes_of 2 next

-- the front of an available ring, with these flags, index and heads: VIRTIO 1.3, 2.7.6
abbrev pub available_ring : ℕ → ℕ → List ℕ → List ℕ
available_ring flags index heads = bytes_of 2 flags ++ bytes_of 2 index ++ flat_map (bytes_of 2) heads

-- an element of a used ring: VIRTIO 1.3, 2.7.8
abbrev pub used_element : ℕ → ℕ → List ℕ
used_element head len = bytes_of 4 head ++ bytes_of 4 len

-- the header of a block request: VIRTIO 1.3, 5.2.6
abbrev pub block_request : ℕ → ℕ → List ℕ
block_request kind sector = bytes_of 4 kind ++ bytes_of 4 0 ++ bytes_of 8 sector
