-- What may be asked of a script's group, and what its cells tell of it. Of this project.
use Rattle.std.specs.Prelude.{◌<◌, ◌≤◌, List}
use Rattle.std.specs.List.{AllByRecursion}
use Rattle.group_calls.specs.Limits.{writable_limit}
use Rattle.group_calls.specs.declared.ask.Ask.{Ask}
use Rattle.group_calls.specs.declared.ask.Ask.TheVariants.{Owner, Queue, Member}
use Rattle.group_calls.specs.declared.ask.Told.{Told}
use Rattle.group_calls.specs.declared.ask.Told.TheVariants.{Owner as FromOwner, Queue as FromQueue}
use Rattle.group_calls.specs.declared.owner.OwnerCall.{OwnerCall}
use Rattle.group_calls.specs.declared.owner.OwnerCall.TheVariants.{SetVfs, Judge}
use Rattle.group_calls.specs.declared.owner.OwnerReply.{OwnerReply}
use Rattle.group_calls.specs.declared.owner.OwnerReply.TheVariants.{Legacy}
use Rattle.group_calls.specs.declared.queue.RingCall.{RingCall}
use Rattle.group_calls.specs.declared.queue.RingCall.TheVariants.{Post}
use Rattle.group_calls.specs.declared.queue.RingReply.{RingReply}
use Rattle.group_calls.specs.declared.queue.RingReply.TheVariants.{Fetched}
use Rattle.group_calls.specs.Asks.{Exchange}
use Rattle.board_script.specs.Script.{Whole}
use Rattle.journal.specs.Lines.{members_of}
use Rattle.journal.specs.Journals.{IsGuestOf}

-- ---- asks

-- not more members than there are, and not more writable bytes than a command has
abbrev pub OwnerNear : Whole → OwnerCall → Type 0
OwnerNear s (SetVfs count) = count ≤ members_of s
OwnerNear s (Judge bytes writable) = writable ≤ writable_limit
OwnerNear s _ = Unit {0}

abbrev pub QueueNear : RingCall → Type 0
QueueNear (Post bytes writable tag) = writable ≤ writable_limit
QueueNear _ = Unit {0}

-- the queue, or the member, is one of the group
abbrev pub IsOfGroup : Whole → Ask → Type 0
IsOfGroup s (Owner call) = OwnerNear s call
IsOfGroup s (Queue k call) = (k < s.board.queues) × QueueNear call
IsOfGroup s (Member m floor call) = IsGuestOf s m

-- ---- answers

abbrev pub OwnerTells : Whole → OwnerReply → Type 0
OwnerTells s (Legacy m access) = IsGuestOf s m
OwnerTells s _ = Unit {0}

abbrev pub QueueTells : RingReply → Type 0
QueueTells (Fetched seq bytes writable tag) = writable ≤ writable_limit
QueueTells _ = Unit {0}

-- an access is passed on to a member of the group, and a fetched command has no more room than a command has
abbrev pub ToldNear : Whole → Told → Type 0
ToldNear s (FromOwner placed) = OwnerTells s placed.reply
ToldNear s (FromQueue placed) = QueueTells placed.reply
ToldNear s _ = Unit {0}

abbrev pub AreToldNear : Whole → List Exchange → Type 0
AreToldNear s asked = AllByRecursion (λ x. ToldNear s x.1) asked
