-- How large the things are that a script names, and the numbers of its actors. Of this project.
use Rattle.std.specs.Prelude.{ℕ, ◌^◌}

-- ---- the board

-- the most administration queues
abbrev pub queue_limit : ℕ
queue_limit = 8

-- the most workers
abbrev pub worker_limit : ℕ
worker_limit = 8

-- ---- a guest and its member

-- the bytes of a MAC
abbrev pub mac_length : ℕ
mac_length = 6

-- ---- the lines of actors

-- the number of the actor `w0`, which the other workers follow; guest n is the actor n
abbrev pub first_worker : ℕ
first_worker = 17

-- the number of the actor `host`
abbrev pub the_host : ℕ
the_host = 25

-- the largest offset of an access
abbrev pub offset_limit : ℕ
offset_limit = 255

-- the most bytes of a memory that one line writes or reads
abbrev pub range_limit : ℕ
range_limit = 512

-- the largest number of a member's queue
abbrev pub index_limit : ℕ
index_limit = 65535

-- ---- the whole script

-- the numbers of lines are below this
abbrev pub line_limit : ℕ
line_limit = 2 ^ 32

-- the most turns that one pair schedules, and all together
abbrev pub turns_limit : ℕ
turns_limit = 1000000

-- the most lines of actors where one guest is alone
abbrev pub alone_limit : ℕ
alone_limit = 4096
