-- Frames, and what stands around them: VIRTIO 1.3, 5.1.6.
use Rattle.std.specs.Prelude.{ℕ, ◌-◌, nat_le, Bool, ◌&&◌, List, [], ◌∷◌, ◌++◌, Option, Some, None, length, drop, replicate, if◌then◌else◌}
use Rattle.byte_fields.specs.Sizes.{shortest_frame, longest_frame}

-- how many frames wait at most; of this project
abbrev pub backlog_limit : ℕ
backlog_limit = 64

-- a frame has so many bytes
abbrev pub is_frame_length : ℕ → Bool
is_frame_length n = nat_le shortest_frame n && nat_le n longest_frame

-- the bytes of the header before a frame. It is the legacy header, which has no number of buffers: 5.1.6.1
abbrev pub header_size : ℕ
header_size = 10

-- the frame behind its header: 5.1.6.2
abbrev pub transmitted : List ℕ → Option (List ℕ)
transmitted bytes = if is_frame_length (length bytes - header_size) then Some (drop header_size bytes) else None

-- a header of zeros before a frame: 5.1.6.4, with no offload
abbrev pub with_header : List ℕ → List ℕ
with_header frame = replicate header_size 0 ++ frame

-- the first of the frames that wait, with its header
abbrev pub first_with_header : List (List ℕ) → List ℕ
first_with_header [] = []
first_with_header (frame ∷ frames) = with_header frame
