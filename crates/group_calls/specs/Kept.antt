-- The bytes that lie outside a call. The code's own.
use Rattle.std.specs.Prelude.{ℕ, List, Option, None, Some}
use Rattle.group_calls.specs.declared.member.MemberCall.{MemberCall}
use Rattle.group_calls.specs.declared.member.MemberCall.TheVariants.{MemWrite, Arrive}

abbrev pub held_bytes : MemberCall → Option (List ℕ)
held_bytes (MemWrite addr bytes) = Some bytes
held_bytes (Arrive frame) = Some frame
held_bytes _ = None
