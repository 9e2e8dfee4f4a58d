-- What a chain keeps beside its buffers: at most 255 of them before a table and 128 in it, whether one has WRITE, how many
-- bytes they have of either kind, and that no buffer is longer than the largest memory. The code's own.
use Rattle.std.specs.Prelude.{◌≡◌, ◌+◌, ◌*◌, ◌≤◌, ℕ, length}
use Rattle.byte_fields.specs.Sizes.{memory_limit}
use Rattle.ring_layout.specs.Chain.{total_length, readable_part, writable_part}
use Rattle.ring_device.specs.Follow.{any_written}
use Rattle.ring_device.specs.declared.chain.Chain.TheInside.{Inside}

-- the most buffers of a chain
abbrev pub buffer_limit : ℕ
buffer_limit = 383

pub record AreKept (c : Inside) : Type 0 where
  pub few : length c.parts.items ≤ buffer_limit
  pub has_writable : c.has_writable ≡ any_written c.parts.items
  pub readable : c.readable ≡ total_length (readable_part c.parts.items)
  pub writable : c.writable ≡ total_length (writable_part c.parts.items)
  pub bound : c.readable + c.writable ≤ memory_limit * length c.parts.items
