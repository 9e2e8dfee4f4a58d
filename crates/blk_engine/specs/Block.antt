-- What a block request is answered, and what it leaves on the disk: VIRTIO 1.3, 5.2.6. A request is le32 type, le32
-- reserved, le64 sector and data.
use Rattle.std.specs.Prelude.{◌≡◌, ◌≤◌, ℕ, ◌+◌, ◌-◌, ◌*◌, ◌/◌, ◌%◌, ◌==◌, nat_lt, nat_le, Bool, not, ◌&&◌, ◌||◌, List, [], ◌∷◌, ◌++◌, length, take, drop, replicate, codes, Option, None, Some, if◌then◌else◌}
use Rattle.byte_fields.specs.Places.{le32, le64, bytes_at, overwrite}
use Rattle.byte_fields.specs.Sizes.{sector_size}
use Rattle.blk_engine.specs.declared.service.BlkAnswer.{BlkAnswer}
use Rattle.blk_engine.specs.declared.service.BlkAnswer.TheVariants.{Reply, Malformed}

-- how many sectors a disk has: 5.2.4
abbrev pub capacity : List ℕ → ℕ
capacity disk = length disk / sector_size

-- a number of bytes is a number of sectors, and these lie below the capacity: 5.2.6
abbrev pub are_sectors : ℕ → ℕ → ℕ → Bool
are_sectors capacity sector count = (count % sector_size == 0) && nat_le (sector + count / sector_size) capacity

-- 0 OK, 1 IOERR, 2 UNSUPP: of a request of a kind at a sector, with so many bytes given and so much room. The kinds are
-- 0 IN, 1 OUT, 4 FLUSH and 8 GET_ID: 5.2.6
abbrev pub status : ℕ → Bool → ℕ → ℕ → ℕ → ℕ → ℕ
status capacity read_only kind sector given room =
    if kind == 0 then (if are_sectors capacity sector room then 0 else 1)
    else if kind == 1 then (if are_sectors capacity sector given && not read_only then 0 else 1)
    else if kind == 4 then 0
    else if kind == 8 then (if nat_le 20 room then 0 else 1)
    else 2

-- the name and three digits, 20 bytes; of this project
abbrev pub device_id : ℕ → List ℕ
device_id member = codes "virtio-group-blk-" ++ (48 + member / 100) ∷ (48 + member / 10 % 10) ∷ (48 + member % 10) ∷ []

-- what stands before the status: the sectors or the name, where the status is OK: 5.2.6
abbrev pub data_of : ℕ → List ℕ → ℕ → ℕ → ℕ → ℕ → List ℕ
data_of member disk kind sector room status =
    if not (status == 0) then []
    else if kind == 0 then bytes_at (sector_size * sector) room disk
    else if kind == 8 then device_id member
    else []

-- the bytes, and zeros up to a length; of this project
abbrev pub padded : ℕ → List ℕ → List ℕ
padded n bytes = take n bytes ++ replicate (n - length bytes) 0

-- the status of a request in bytes: 16 are the header, and one of the writable is the status: 5.2.6
unfoldable pub status_of : Bool → List ℕ → List ℕ → ℕ → ℕ
status_of read_only disk request writable = status (capacity disk) read_only (le32 0 request) (le64 8 request) (length request - 16) (writable - 1)

-- as many bytes as are writable, the status last: 5.2.6
unfoldable pub block_reply : ℕ → Bool → List ℕ → List ℕ → ℕ → List ℕ
block_reply member read_only disk request writable =
    padded (writable - 1) (data_of member disk (le32 0 request) (le64 8 request) (writable - 1) (status_of read_only disk request writable))
    ++ status_of read_only disk request writable ∷ []

-- the disk after a request: an OUT with the status OK puts its data: 5.2.6
unfoldable pub disk_after_request : Bool → List ℕ → List ℕ → ℕ → List ℕ
disk_after_request read_only disk request writable =
    if (le32 0 request == 1) && (status_of read_only disk request writable == 0)
    then overwrite (sector_size * le64 8 request) (drop 16 request) disk
    else disk

-- too short for a request, or no room for a status; of this project
abbrev pub is_malformed : List ℕ → ℕ → Bool
is_malformed request writable = nat_lt (length request) 16 || (writable == 0)

-- the answer, and the disk after it
abbrev pub answered : ℕ → Bool → List ℕ → List ℕ → ℕ → BlkAnswer
answered member read_only disk request writable =
    if is_malformed request writable then Malformed else Reply (block_reply member read_only disk request writable)

abbrev pub disk_after : Bool → List ℕ → List ℕ → ℕ → List ℕ
disk_after read_only disk request writable =
    if is_malformed request writable then disk else disk_after_request read_only disk request writable

-- the disk after the data of a request, which stands behind its header, was put at a sector, or nowhere: 5.2.6
abbrev pub stored : Option ℕ → List ℕ → List ℕ → List ℕ
stored None request disk = disk
stored (Some sector) request disk = overwrite (sector_size * sector) (drop 16 request) disk

-- the request has a header, and there is room for its data behind the start of the sector; of this project
abbrev pub HasRoomAt : Option ℕ → List ℕ → List ℕ → Type 0
HasRoomAt None request disk = Unit {0}
HasRoomAt (Some sector) request disk = (16 ≤ length request) × (sector_size * sector + (length request - 16) ≤ length disk)

-- the reply has this length; of this project
abbrev pub HasLength : ℕ → BlkAnswer → Type 0
HasLength n (Reply bytes) = length bytes ≡ n
HasLength n Malformed = Unit {0}
