use Rattle.script_writer.specs.Written.{turns_words}
use Rattle.script_writer.proofs.Left.{lines_left}
use Rattle.script_writer.proofs.write.put_schedule.Goals as goal

pub turns-preserved : goal.turns-preserved
turns-preserved c = rw c.in_ok-put_turns.ensures (lines_left turns_words _ c.turns.text c.args.script.now.turns c.turns.index c.turns-in-turns.result c.turns-in-turns.ensures.value c.turns.invariant)
