-- The text of a script: the forms of its language, read from the right to the left. Of this project.
use Rattle.std.specs.Prelude.{ℕ, ◌+◌, ◌-◌, ◌==◌, nat_le, Bool, if◌then◌else◌, List, [], ◌∷◌, ◌++◌, codes, map, Option, Some, None}
use Rattle.std.specs.List.{flat_map}
use Rattle.std.specs.Fmt.{decimal}
use Rattle.hex.specs.Hex.{encode_lower}
use Rattle.legacy_regs.specs.declared.device.Kind.{Kind}
use Rattle.legacy_regs.specs.declared.device.Kind.TheVariants as kind
use Rattle.board_script.specs.declared.script.ActorLine.{ActorLine}
use Rattle.board_script.specs.declared.script.Board.{Board}
use Rattle.board_script.specs.declared.script.Setup.{Setup}
use Rattle.board_script.specs.declared.script.Turns.{Turns}
use Rattle.board_script.specs.declared.script.What.{What}
use Rattle.board_script.specs.declared.script.What.TheVariants as what
use Rattle.board_script.specs.Limits.{first_worker, the_host}
use Rattle.board_script.specs.Script.{Whole}

-- ---- the words of each line

-- `board Q S K`
abbrev pub board_words : Board → List (List ℕ)
board_words board = codes "board" ∷ decimal board.queues ∷ decimal board.queue_size ∷ decimal board.workers ∷ []

-- `ro`, where it stands
abbrev pub read_only_words : Bool → List (List ℕ)
read_only_words read_only = if read_only then codes "ro" ∷ [] else []

-- `block PAGES SECTORS [ro]` and `net PAGES MAC`
abbrev pub member_words : ℕ → Kind → List (List ℕ)
member_words pages (kind.Block sectors read_only) = codes "block" ∷ decimal pages ∷ decimal sectors ∷ read_only_words read_only
member_words pages (kind.Net mac) = codes "net" ∷ decimal pages ∷ encode_lower mac ∷ []

-- `guest N` and what its member is made with
abbrev pub guest_words : ℕ → Setup → List (List ℕ)
guest_words number setup = codes "guest" ∷ decimal number ∷ member_words setup.pages setup.kind

-- `gN`, `wK` or `host`
abbrev pub actor_word : ℕ → List ℕ
actor_word who = if who == the_host then codes "host" else if nat_le first_worker who then 119 ∷ decimal (who - first_worker) else 103 ∷ decimal who

-- `@K`, where it stands
abbrev pub at_words : Option ℕ → List (List ℕ)
at_words None = []
at_words (Some queue) = (64 ∷ decimal queue) ∷ []

-- `once`, where it stands
abbrev pub once_words : Bool → List (List ℕ)
once_words once = if once then codes "once" ∷ [] else []

abbrev pub switch_word : Bool → List ℕ
switch_word on = if on then codes "on" else codes "off"

-- what follows the actor
abbrev pub what_words : What → List (List ℕ)
what_words (what.BarRead offset length_ queue once) = codes "in" ∷ decimal offset ∷ decimal length_ ∷ (at_words queue ++ once_words once)
what_words (what.BarWrite offset bytes queue once) = codes "out" ∷ decimal offset ∷ encode_lower bytes ∷ (at_words queue ++ once_words once)
what_words (what.Mem addr bytes) = codes "mem" ∷ decimal addr ∷ encode_lower bytes ∷ []
what_words (what.Peek addr length_) = codes "peek" ∷ decimal addr ∷ decimal length_ ∷ []
what_words (what.Msix on) = codes "msix" ∷ switch_word on ∷ []
what_words (what.Io on) = codes "io" ∷ switch_word on ∷ []
what_words (what.Cfg offset length_) = codes "cfg" ∷ decimal offset ∷ decimal length_ ∷ []
what_words what.Irqs = codes "irqs" ∷ []
what_words (what.Poll queue) = codes "poll" ∷ decimal queue ∷ []
what_words (what.Serve queue) = codes "serve" ∷ decimal queue ∷ []
what_words (what.WorkerPoll member queue) = codes "poll" ∷ decimal member ∷ decimal queue ∷ []
what_words (what.Frame member frame) = codes "frame" ∷ decimal member ∷ encode_lower frame ∷ []
what_words (what.Flr member) = codes "flr" ∷ decimal member ∷ []
what_words (what.Disable member) = codes "disable" ∷ decimal member ∷ []
what_words what.Reset = codes "reset" ∷ []

abbrev pub actor_words : ActorLine → List (List ℕ)
actor_words line = actor_word line.who ∷ what_words line.what

-- `go ACTOR COUNT`
abbrev pub turns_words : Turns → List (List ℕ)
turns_words turns = codes "go" ∷ actor_word turns.who ∷ decimal turns.count ∷ []

-- ---- the lines of the script

-- the lines of the guests, which are numbered from there on
abbrev pub guest_lines : ℕ → List Setup → List (List (List ℕ))
guest_lines number [] = []
guest_lines number (setup ∷ setups) = guest_words number setup ∷ guest_lines (number + 1) setups

-- the board, the guests, the lines of the actors, and a `go` line for each pair of the schedule
abbrev pub script_lines : Whole → List (List (List ℕ))
script_lines s = board_words s.board ∷ (guest_lines 1 s.guests ++ (map actor_words s.lines ++ map turns_words s.turns))

-- ---- the text

-- words with a space in front of each
abbrev pub spaced : List (List ℕ) → List ℕ
spaced words = flat_map (λ word. 32 ∷ word) words

-- the words of a line with a space between each two, and the line's end
abbrev pub line_text : List (List ℕ) → List ℕ
line_text [] = 10 ∷ []
line_text (first ∷ others) = first ++ spaced others ++ 10 ∷ []

abbrev pub written : Whole → List ℕ
written s = flat_map line_text (script_lines s)
