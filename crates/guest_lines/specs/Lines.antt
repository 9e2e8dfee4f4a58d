-- What a line of a script asks of a device that stands alone, and how its answer is printed. Of this project.
use Rattle.std.specs.Prelude.{ℕ, ◌%◌, Bool, List, [], ◌∷◌, Option, None, Some, replicate, codes, if◌then◌else◌}
use Rattle.hex.specs.Hex.{encode_lower}
use Rattle.legacy_regs.specs.declared.device.Kind.{Kind}
use Rattle.io_bar.specs.declared.access.Access.TheVariants.{Read as ReadOf, Write as WriteOf}
use Rattle.io_bar.specs.Route.{is_local}
use Rattle.io_bar.specs.Configuration.{configuration_read}
use Rattle.group_calls.specs.declared.member.Halt.{Halt}
use Rattle.group_calls.specs.declared.member.Halt.TheVariants as halt
use Rattle.group_calls.specs.declared.member.MemberCall.TheVariants.{Msix as MsixCall, MemWrite, MemRead, TakeIrqs, Step, Arrive, Flr as FlrCall, Kill}
use Rattle.group_calls.specs.declared.member.MemberReply.{MemberReply}
use Rattle.group_calls.specs.declared.member.MemberReply.TheVariants as reply
use Rattle.group_calls.specs.declared.lone.LoneEvent.{LoneEvent}
use Rattle.group_calls.specs.declared.lone.LoneEvent.TheVariants.{Read, Write, Other as Called}
use Rattle.group_calls.specs.declared.lone.LoneReply.{LoneReply}
use Rattle.group_calls.specs.declared.lone.LoneReply.TheVariants as lone
use Rattle.board_script.specs.declared.script.What.{What}
use Rattle.board_script.specs.declared.script.What.TheVariants as what

-- ---- events

-- an access to the BAR is none where it stays with the host
abbrev pub read_event : Kind → Bool → ℕ → ℕ → Option LoneEvent
read_event kind io offset count = if is_local kind io (ReadOf offset count) then None else Some (Read offset count)

abbrev pub write_event : Kind → Bool → ℕ → List ℕ → Option LoneEvent
write_event kind io offset bytes = if is_local kind io (WriteOf offset bytes) then None else Some (Write offset bytes)

-- the event of a line, with I/O enabled or not
abbrev pub event_of : Kind → Bool → What → Option LoneEvent
event_of kind io (what.BarRead offset count queue once) = read_event kind io offset count
event_of kind io (what.BarWrite offset bytes queue once) = write_event kind io offset bytes
event_of kind io (what.Mem addr bytes) = Some (Called (MemWrite addr bytes))
event_of kind io (what.Peek addr count) = Some (Called (MemRead addr count))
event_of kind io (what.Msix on) = Some (Called (MsixCall on))
event_of kind io (what.Io on) = None
event_of kind io (what.Cfg offset count) = None
event_of kind io what.Irqs = Some (Called TakeIrqs)
event_of kind io (what.Poll queue) = Some (Called (Step queue))
event_of kind io (what.Serve queue) = None
event_of kind io (what.WorkerPoll member queue) = Some (Called (Step queue))
event_of kind io (what.Frame member frame) = Some (Called (Arrive frame))
event_of kind io (what.Flr member) = Some (Called FlrCall)
event_of kind io (what.Disable member) = Some (Called Kill)
event_of kind io what.Reset = Some (Called Kill)

-- ---- answers in words

abbrev pub halt_words : Halt → List ℕ
halt_words halt.Ring = codes "halted ring"
halt_words halt.Index = codes "halted index"
halt_words halt.Chain = codes "halted chain"
halt_words halt.Request = codes "halted request"

-- the mask of vectors has two digits, since no vector is above 7
abbrev pub reply_words : MemberReply → List ℕ
reply_words (reply.Data bytes) = encode_lower bytes
reply_words (reply.Gone floor) = codes "gone"
reply_words (reply.Irqs mask) = encode_lower (mask % 256 ∷ [])
reply_words (reply.Served count irq sent) = codes "served"
reply_words reply.Empty = codes "empty"
reply_words reply.NotPending = codes "idle"
reply_words (reply.Halted why) = halt_words why
reply_words reply.Dropped = codes "dropped"
reply_words _ = codes "ok"

-- all ones, for a read of so many bytes
abbrev pub ones : ℕ → List ℕ
ones count = encode_lower (replicate count 0xff)

-- how many bytes a read of the BAR has
abbrev pub read_count : What → ℕ
read_count (what.BarRead offset count queue once) = count
read_count _ = 0

abbrev pub lone_words : What → LoneReply → List ℕ
lone_words asked (lone.Data bytes) = encode_lower bytes
lone_words asked lone.Ignored = codes "ok"
lone_words asked lone.Ones = ones (read_count asked)
lone_words asked (lone.Other told) = reply_words told

-- of a line that is no event: the configuration space answers by itself, and a read that stays with the host gives all ones
abbrev pub outside_words : Kind → Bool → What → List ℕ
outside_words kind io (what.BarRead offset count queue once) = ones count
outside_words kind io (what.Cfg offset count) = encode_lower (configuration_read kind io offset count)
outside_words kind io _ = codes "ok"

abbrev pub answer_words : Kind → Bool → What → Option LoneReply → List ℕ
answer_words kind io asked None = outside_words kind io asked
answer_words kind io asked (Some told) = lone_words asked told
