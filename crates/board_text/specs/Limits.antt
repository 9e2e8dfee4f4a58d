-- Limits of this project.
use Rattle.std.specs.Prelude.{ℕ}
use Rattle.byte_fields.specs.Sizes.{guest_limit}

-- how many bytes lie in a value itself: as many as a descriptor has, VIRTIO 1.3 section 2.7.5
abbrev pub short_limit : ℕ
short_limit = 16

-- the longest piece, in bytes
abbrev pub piece_limit : ℕ
piece_limit = 256

-- how many of them lie in a value itself
abbrev pub place_limit : ℕ
place_limit = 39

-- the most floors that a list has: one for each member of a group
abbrev pub floor_limit : ℕ
floor_limit = guest_limit
