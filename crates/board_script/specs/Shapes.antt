-- What a line says by its shape, and what a line that is read keeps of the bounds. The code's own.
use Rattle.std.specs.Prelude.{ℕ, ◌+◌, ◌<◌, ◌≤◌, List, Option, Some, None, Result, Err}
use Rattle.std.specs.List.{All}
use Rattle.script_words.specs.declared.cause.Cause.{Cause}
use Rattle.script_words.specs.declared.cause.Cause.TheVariants as cause
use Rattle.script_words.specs.declared.shape.Act.{Act}
use Rattle.script_words.specs.declared.shape.Act.TheVariants as act
use Rattle.script_words.specs.declared.shape.Member.{Member}
use Rattle.script_words.specs.declared.shape.Member.TheVariants as member
use Rattle.script_words.specs.declared.shape.Shape.{Shape}
use Rattle.script_words.specs.declared.shape.Shape.TheVariants as line
use Rattle.board_script.specs.declared.place.Place.{Place}
use Rattle.board_script.specs.declared.script.ActorLine.{ActorLine}
use Rattle.board_script.specs.declared.script.What.TheVariants as what
use Rattle.board_script.specs.Limits.{turns_limit}
use Rattle.board_script.specs.SoFar.{SoFar, scheduled}
use Rattle.board_script.specs.Lines.{board_says, block_says, net_says, in_says, out_says, mem_says, peek_says, guest_says, cfg_says, poll_says, serve_says, worker_poll_says, frame_says, flr_says, disable_says, reset_says, go_says}

abbrev pub act_says : Place → SoFar → Act → Result SoFar Cause
act_says at d (act.In guest offset length_ tail) = in_says at d guest offset length_ tail
act_says at d (act.Out guest offset bytes tail) = out_says at d guest offset bytes tail
act_says at d (act.Mem guest addr bytes) = mem_says at d guest addr bytes
act_says at d (act.Peek guest addr length_) = peek_says at d guest addr length_
act_says at d (act.Msix guest on) = guest_says at d guest (what.Msix on)
act_says at d (act.Io guest on) = guest_says at d guest (what.Io on)
act_says at d (act.Cfg guest offset length_) = cfg_says at d guest offset length_
act_says at d (act.Irqs guest) = guest_says at d guest what.Irqs
act_says at d (act.Poll guest queue) = poll_says at d guest queue
act_says at d (act.Serve worker queue) = serve_says at d worker queue
act_says at d (act.WorkerPoll worker member_word queue) = worker_poll_says at d worker member_word queue
act_says at d (act.Frame member_word bytes) = frame_says at d member_word bytes
act_says at d (act.Flr member_word) = flr_says at d member_word
act_says at d (act.Disable member_word) = disable_says at d member_word
act_says at d act.Reset = reset_says at d

abbrev pub member_says : SoFar → List ℕ → Member → Result SoFar Cause
member_says d number (member.Block pages sectors read_only) = block_says d number pages sectors read_only
member_says d number (member.Net pages mac) = net_says d number pages mac

abbrev pub shape_says : Place → SoFar → Shape → Result SoFar Cause
shape_says at d (line.Board queues size workers) = board_says d queues size workers
shape_says at d (line.Guest number member_words) = member_says d number member_words
shape_says at d (line.Acts acts) = act_says at d acts
shape_says at d (line.Go pairs) = go_says d pairs

abbrev pub form_says : Place → SoFar → Option Shape → Result SoFar Cause
form_says at d None = Err cause.Word
form_says at d (Some shape) = shape_says at d shape

-- no line has this number yet, or a later one
abbrev pub AreBefore : ℕ → List ActorLine → Type 0
AreBefore number lines = All (λ line. line.number < number) lines

-- what the line with this number keeps
pub record Keeps (number : ℕ) (old new : SoFar) : Type 0 where
  pub limit : scheduled old ≤ turns_limit → scheduled new ≤ turns_limit
  pub before : AreBefore number old.lines → AreBefore (number + 1) new.lines
