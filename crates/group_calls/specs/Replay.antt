-- The disk entry by entry. The code's own.
use Rattle.std.specs.Prelude.{ℕ, List, [], ◌∷◌}
use Rattle.group_calls.specs.declared.member.MemberMade.{MemberMade}
use Rattle.group_calls.specs.declared.member.MemberCall.{MemberCall}
use Rattle.group_calls.specs.declared.member.MemberCall.TheVariants.{Step}
use Rattle.group_calls.specs.declared.member.MemberReply.{MemberReply}
use Rattle.group_calls.specs.declared.member.MemberReply.TheVariants.{Served}
use Rattle.group_calls.specs.MemberEntries.{MemberEntry}
use Rattle.group_calls.specs.Facts.{facts}
use Rattle.group_calls.specs.Steps.{Outcome, stops, serves, outcome}
use Rattle.group_calls.specs.Storage.{Stored, memory_then}

-- the disk after an outcome
abbrev pub disk_left : List ℕ → Outcome → List ℕ
disk_left disk (stops reply) = disk
disk_left disk (serves s) = s.disk

-- after a call and its reply, where a step of each queue does this
abbrev pub disk_then : (ℕ → Outcome) → List ℕ → MemberCall → MemberReply → List ℕ
disk_then does disk (Step q) (Served length irq sent) = disk_left disk (does q)
disk_then does disk _ _ = disk

-- memory and disk of a member that began with these, as each entry leaves them
unfoldable mutual
  pub memory_replayed : Stored → MemberMade → List MemberEntry → List ℕ
  memory_replayed first made [] = first.memory
  memory_replayed first made (e ∷ past) =
      memory_then (outcome made (memory_replayed first made past) (disk_replayed first made past) (facts made past)) (memory_replayed first made past) e.call e.reply

  pub disk_replayed : Stored → MemberMade → List MemberEntry → List ℕ
  disk_replayed first made [] = first.disk
  disk_replayed first made (e ∷ past) =
      disk_then (outcome made (memory_replayed first made past) (disk_replayed first made past) (facts made past)) (disk_replayed first made past) e.call e.reply
