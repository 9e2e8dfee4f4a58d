-- What a member's memory and disk hold after a history. Of this project; the writes of a service are those of VIRTIO 1.3, 2.7 (split virtqueues) and 5.2.6 (device operation of a block device).
use Rattle.std.specs.Prelude.{ℕ, ◌*◌, List, [], ◌∷◌, Option, None, Some, replicate, if◌then◌else◌}
use Rattle.byte_fields.specs.Sizes.{page_size, sector_size}
use Rattle.byte_fields.specs.Places.{overwrite}
use Rattle.ring_layout.specs.Chain.{written}
use Rattle.legacy_regs.specs.declared.device.Kind.{Kind}
use Rattle.legacy_regs.specs.declared.device.Kind.TheVariants.{Block, Net}
use Rattle.group_calls.specs.declared.member.MemberMade.{MemberMade}
use Rattle.group_calls.specs.declared.member.MemberCall.{MemberCall}
use Rattle.group_calls.specs.declared.member.MemberCall.TheVariants.{MemWrite, Step}
use Rattle.group_calls.specs.declared.member.MemberReply.{MemberReply}
use Rattle.group_calls.specs.declared.member.MemberReply.TheVariants.{Served}
use Rattle.group_calls.specs.MemberEntries.{MemberEntry, is_done}
use Rattle.group_calls.specs.Facts.{facts}
use Rattle.group_calls.specs.Steps.{Outcome, stops, serves, outcome}
use Rattle.group_calls.specs.Disk.{SectorWrite, write_of_service, disk_bytes}

abbrev pub memory_length : MemberMade → ℕ
memory_length made = page_size * made.pages

abbrev pub sectors_of : Kind → ℕ
sectors_of (Block sectors read_only) = sectors
sectors_of (Net mac) = 0

abbrev pub disk_length : MemberMade → ℕ
disk_length made = sector_size * sectors_of made.kind

-- the bytes of a memory and of a disk
pub record Stored : Type 0 where
  pub memory : List ℕ
  pub disk : List ℕ

-- what a member begins with: zeros
abbrev pub zeros : MemberMade → Stored
zeros made = record { memory = replicate (memory_length made) 0; disk = replicate (disk_length made) 0 }

-- ---- what an entry does

-- the memory after an outcome
abbrev pub memory_left : List ℕ → Outcome → List ℕ
memory_left memory (stops reply) = memory
memory_left memory (serves s) = written s.writes memory

-- the memory after a call and its reply, where a step of each queue does this: a done MemWrite overwrites it, and so do the writes of a service
abbrev pub memory_then : (ℕ → Outcome) → List ℕ → MemberCall → MemberReply → List ℕ
memory_then does memory (MemWrite addr bytes) reply = if is_done reply then overwrite addr bytes memory else memory
memory_then does memory (Step q) (Served length irq sent) = memory_left memory (does q)
memory_then does memory _ _ = memory

abbrev pub if_serves : Outcome → Option SectorWrite → Option SectorWrite
if_serves (stops reply) write = None
if_serves (serves s) write = write

-- the write to the disk of a call and its reply, where a step of each queue does this, and its service carries that write out
abbrev pub write_then : (ℕ → Outcome) → (ℕ → Option SectorWrite) → MemberCall → MemberReply → Option SectorWrite
write_then does writes (Step q) (Served length irq sent) = if_serves (does q) (writes q)
write_then does writes _ _ = None

abbrev pub with_write : Option SectorWrite → List SectorWrite → List SectorWrite
with_write None writes = writes
with_write (Some write) writes = write ∷ writes

-- ---- memory and disk of a member that began with these

unfoldable mutual
  -- as each entry leaves it
  pub memory_from : Stored → MemberMade → List MemberEntry → List ℕ
  memory_from first made [] = first.memory
  memory_from first made (e ∷ past) =
      memory_then (outcome made (memory_from first made past) (disk_bytes (disk_writes first made past) 0 first.disk) (facts made past))
      (memory_from first made past) e.call e.reply

  -- the writes to the disk that were carried out, the latest first
  pub disk_writes : Stored → MemberMade → List MemberEntry → List SectorWrite
  disk_writes first made [] = []
  disk_writes first made (e ∷ past) =
      with_write
      (write_then (outcome made (memory_from first made past) (disk_bytes (disk_writes first made past) 0 first.disk) (facts made past))
      (write_of_service made.kind (memory_from first made past) (disk_bytes (disk_writes first made past) 0 first.disk) (facts made past))
      e.call e.reply)
      (disk_writes first made past)

-- each byte is that of the latest served OUT with the status OK that covers it, else what it was at first
abbrev pub disk_from : Stored → MemberMade → List MemberEntry → List ℕ
disk_from first made h = disk_bytes (disk_writes first made h) 0 first.disk

-- of a member that began with zeros
abbrev pub memory_after : MemberMade → List MemberEntry → List ℕ
memory_after made h = memory_from (zeros made) made h

abbrev pub disk_after : MemberMade → List MemberEntry → List ℕ
disk_after made h = disk_from (zeros made) made h
