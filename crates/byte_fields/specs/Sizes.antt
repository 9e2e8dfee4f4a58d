-- How large things are. Each number stands here once. Of this project, where no section of VIRTIO 1.3 is named.
use Rattle.std.specs.Prelude.{ℕ, ◌*◌, ◌==◌, Bool, ◌||◌}

-- ---- the group

-- the most guests of a board, and so the most members of its group
abbrev pub guest_limit : ℕ
guest_limit = 16

-- the largest number of a member
abbrev pub member_limit : ℕ
member_limit = 999

-- ---- a queue

-- the powers of two from 4 to 256: 2.7 wants a power of two, the bounds are of this project
abbrev pub is_queue_size : ℕ → Bool
is_queue_size n = n == 4 || n == 8 || n == 16 || n == 32 || n == 64 || n == 128 || n == 256

-- ---- a guest's memory

-- the bytes of a page, as a legacy queue is aligned: 2.7.2
abbrev pub page_size : ℕ
page_size = 4096

-- the most pages of a memory
abbrev pub page_limit : ℕ
page_limit = 64

-- the most bytes of a memory
abbrev pub memory_limit : ℕ
memory_limit = page_size * page_limit

-- ---- a disk

-- the bytes of a sector: 5.2.4
abbrev pub sector_size : ℕ
sector_size = 512

-- the most sectors of a disk
abbrev pub sector_limit : ℕ
sector_limit = 4096

-- the most bytes of a disk
abbrev pub disk_limit : ℕ
disk_limit = sector_size * sector_limit

-- ---- a frame

-- the fewest bytes of a frame, those of an Ethernet header, and the most, with 1,500 bytes behind it
abbrev pub shortest_frame : ℕ
shortest_frame = 14

abbrev pub longest_frame : ℕ
longest_frame = 1514
