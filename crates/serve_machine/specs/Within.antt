-- The limits that a service keeps. Of this project.
use Rattle.std.specs.Prelude.{ℕ, ◌≤◌, length}
use Rattle.admin_wire.specs.Numbers.{place_payload_limit}
use Rattle.history.specs.Limits.{history_limit}
use Rattle.group_calls.specs.Limits.{writable_limit}
use Rattle.group_calls.specs.declared.ask.Ask.{Ask}
use Rattle.group_calls.specs.declared.ask.Ask.TheVariants.{Owner}
use Rattle.group_calls.specs.declared.ask.Told.{Told}
use Rattle.group_calls.specs.declared.ask.Told.TheVariants.{Member as FromMember}
use Rattle.group_calls.specs.declared.owner.OwnerCall.TheVariants.{Judge}
use Rattle.group_calls.specs.declared.member.MemberReply.{MemberReply}
use Rattle.group_calls.specs.declared.member.MemberReply.TheVariants.{Data}
use Rattle.serve_machine.specs.declared.stage.Stage.{Stage}
use Rattle.serve_machine.specs.declared.stage.Stage.TheVariants.{Judging, Acting}

-- how many bytes are writable in the command that isn't decided yet
abbrev pub writable_in : Stage → ℕ
writable_in (Judging command bytes) = command.writable
writable_in (Acting command member access) = command.writable
writable_in _ = 0

-- the owner is asked within the limit that its calls have
abbrev pub IsWithinAsk : Ask → Type 0
IsWithinAsk (Owner (Judge bytes writable)) = writable ≤ writable_limit
IsWithinAsk _ = Unit {0}

-- where a member tells bytes, their completion lies in a piece itself
abbrev pub IsShortReply : MemberReply → Type 0
IsShortReply (Data bytes) = length bytes ≤ place_payload_limit
IsShortReply _ = Unit {0}

abbrev pub IsShort : Told → Type 0
IsShort (FromMember placed) = IsShortReply placed.reply
IsShort _ = Unit {0}

-- a member answered at a place of a history
abbrev pub IsLow : Told → Type 0
IsLow (FromMember placed) = placed.at ≤ history_limit
IsLow _ = Unit {0}
