-- What a guest that is alone is shown: the answers of a lone device (VIRTIO 1.3, 4.1.4.10, legacy interfaces) to the lines of its script in the order of the text. The printed form is of this project.
use Rattle.std.specs.Prelude.{ℕ, ◌==◌, List, [], ◌∷◌, ◌++◌, Option, None, Some, option_map, codes, if◌then◌else◌}
use Rattle.group_calls.specs.declared.member.MemberMade.{MemberMade}
use Rattle.group_calls.specs.declared.lone.LoneEvent.{LoneEvent}
use Rattle.group_calls.specs.declared.lone.LoneReply.{LoneReply}
use Rattle.group_calls.specs.declared.lone.LoneItem.{LoneItem}
use Rattle.group_calls.specs.Lone.{lone_reply}
use Rattle.board_script.specs.declared.script.Setup.{Setup}
use Rattle.board_script.specs.declared.script.ActorLine.{ActorLine}
use Rattle.board_script.specs.Script.{Whole}
use Rattle.guest_lines.specs.Earlier.{has_io, numbered}
use Rattle.guest_lines.specs.Lines.{event_of, answer_words}

-- ---- the device behind the earlier lines, the latest first

abbrev pub with_event : MemberMade → Option LoneEvent → List LoneItem → List LoneItem
with_event made None items = items
with_event made (Some event) items = record { event = event; reply = lone_reply made items event } ∷ items

-- the device's events and its replies, the latest first
abbrev pub events : MemberMade → List ActorLine → List LoneItem
events made [] = []
events made (line ∷ earlier) = with_event made (event_of made.kind (has_io earlier) line.what) (events made earlier)

-- ---- the transcript

-- the device's reply to a line, if the line is an event
abbrev pub reply_to : MemberMade → List ActorLine → ActorLine → Option LoneReply
reply_to made earlier line = option_map (lone_reply made (events made earlier)) (event_of made.kind (has_io earlier) line.what)

abbrev pub answer_to : MemberMade → List ActorLine → ActorLine → List ℕ
answer_to made earlier line = answer_words made.kind (has_io earlier) line.what (reply_to made earlier line)

-- the guest is shown the answers to its own lines; it is the actor 1
abbrev pub shown : MemberMade → List ActorLine → ActorLine → List ℕ
shown made earlier line = if line.who == 1 then numbered line.number (answer_to made earlier line) else []

-- the answers to lines in the order of the text, after others
abbrev pub transcript : MemberMade → List ActorLine → List ActorLine → List ℕ
transcript made earlier [] = []
transcript made earlier (line ∷ lines) = shown made earlier line ++ transcript made (line ∷ earlier) lines

-- guest 1 uses member 1
abbrev pub made_for : Setup → MemberMade
made_for setup = record { id = 1; pages = setup.pages; kind = setup.kind }

abbrev pub alone_part : List Setup → List ActorLine → List ℕ
alone_part [] lines = []
alone_part (setup ∷ others) lines = codes "guest 1\n" ++ transcript (made_for setup) [] lines ++ codes "end\n"

-- the output for a script of one guest
abbrev pub alone_text : Whole → List ℕ
alone_text s = alone_part s.guests s.lines
