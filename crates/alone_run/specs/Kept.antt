-- What the code keeps of a guest, and what a function of it does. Of this project.
use Rattle.std.specs.Prelude.{◌≡◌, ◌==◌, if◌then◌else◌, ℕ, Bool, List, [], ◌∷◌, ◌++◌, Option, None, Some, option_map}
use Rattle.legacy_regs.specs.declared.device.Kind.{Kind}
use Rattle.group_calls.specs.declared.member.MemberMade.{MemberMade}
use Rattle.group_calls.specs.declared.lone.LoneEvent.{LoneEvent}
use Rattle.group_calls.specs.declared.lone.LoneReply.{LoneReply}
use Rattle.group_calls.specs.Member.{IsMemberMade}
use Rattle.group_calls.specs.Lone.{lone_reply}
use Rattle.board_script.specs.declared.script.ActorLine.{ActorLine}
use Rattle.board_script.specs.declared.script.What.{What}
use Rattle.board_script.specs.declared.script.What.TheVariants as what
use Rattle.guest_lines.specs.Lines.{event_of, answer_words}
use Rattle.guest_lines.specs.Earlier.{has_io, numbered}
use Rattle.lone_device.specs.Past.{IsLoneEvent, AreReplies}
use Rattle.alone_run.specs.declared.guest.Guest.{Guest}
use Rattle.alone_run.specs.Transcript.{events, transcript, made_for}

-- the guest stands behind these lines
pub record Stands (made : MemberMade) (g : Guest) (earlier : List ActorLine) : Type 0 where
  pub made_is : made_for g.setup ≡ made
  pub past_is : g.past ≡ events made earlier
  pub kind_is : g.bar ≡ made.kind
  pub io_is : g.io ≡ has_io earlier
  pub member : IsMemberMade made
  pub replies : AreReplies made g.past

-- its device can be asked
pub record IsReady (g : Guest) : Type 0 where
  pub member : IsMemberMade (made_for g.setup)
  pub replies : AreReplies (made_for g.setup) g.past

-- an event that the device may be told, or none
abbrev pub IsEvent : Option LoneEvent → Type 0
IsEvent None = Unit {0}
IsEvent (Some event) = IsLoneEvent event

-- what the device replies to it
abbrev pub reply_to : Guest → Option LoneEvent → Option LoneReply
reply_to g event = option_map (lone_reply (made_for g.setup) g.past) event

-- what a line that asks nothing of the device makes of I/O
abbrev pub io_after : Bool → What → Bool
io_after io (what.Io on) = on
io_after io _ = io

-- the guest after a line with this event
abbrev pub after : Guest → What → Option LoneEvent → Guest
after g asked None = record g { io = io_after g.io asked }
after g asked (Some event) = record g { past = record { event = event; reply = lone_reply (made_for g.setup) g.past event } ∷ g.past }

-- what the guest is shown of a line, with I/O as it was before it
abbrev pub shown_for : Kind → Bool → ActorLine → Option LoneReply → List ℕ
shown_for kind io line told = if line.who == 1 then numbered line.number (answer_words kind io line.what told) else []

-- the event of a line
abbrev pub event_for : Guest → ActorLine → Option LoneEvent
event_for g line = event_of g.bar g.io line.what

-- a line was performed and shown
pub record Shows (old new : Guest) (output grown : List ℕ) (line : ActorLine) : Type 0 where
  pub event : IsEvent (event_for old line)
  pub new_is : new ≡ after old line.what (event_for old line)
  pub grown_is : grown ≡ output ++ shown_for old.bar old.io line (reply_to old (event_for old line))

-- the lines before are answered, and those that are left complete the text
pub record SoFar (made : MemberMade) (g : Guest) (front output : List ℕ) (left all : List ActorLine) : Type 0 where
  pub earlier : List ActorLine
  pub stands : Stands made g earlier
  pub text : front ++ transcript made [] all ≡ output ++ transcript made earlier left
