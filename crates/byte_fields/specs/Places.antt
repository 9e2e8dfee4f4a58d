-- Parts of a list of bytes by their address, and the numbers that stand there.
-- The words are of this project. The numbers are those of VIRTIO 1.3, 1.4: le16, le32 and le64 with the lowest byte
-- first. The legacy interface has the guest's byte order (2.7.3), which is this one here.
use Rattle.std.specs.Prelude.{ℕ, ◌+◌, List, ◌++◌, length, take, drop}
use Rattle.byteorder.specs.Endian.{little_from, little_bytes}

-- so many bytes from an address on
abbrev pub bytes_at : ℕ → ℕ → List ℕ → List ℕ
bytes_at addr count bytes = take count (drop addr bytes)

-- the bytes, where others stand from an address on
unfoldable pub overwrite : ℕ → List ℕ → List ℕ → List ℕ
overwrite addr others bytes = take addr bytes ++ others ++ drop (addr + length others) bytes

-- the number of n bytes at an address, the lowest first; a missing byte is 0
unfoldable pub number_at : ℕ → ℕ → List ℕ → ℕ
number_at n addr bytes = little_from addr n bytes

abbrev pub le16 : ℕ → List ℕ → ℕ
le16 addr bytes = number_at 2 addr bytes

abbrev pub le32 : ℕ → List ℕ → ℕ
le32 addr bytes = number_at 4 addr bytes

abbrev pub le64 : ℕ → List ℕ → ℕ
le64 addr bytes = number_at 8 addr bytes

-- a number's lowest n bytes, the lowest first
unfoldable pub bytes_of : ℕ → ℕ → List ℕ
bytes_of n x = little_bytes n x
