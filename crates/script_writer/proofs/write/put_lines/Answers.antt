use Rattle.script_writer.specs.Written.{actor_words}
use Rattle.script_writer.proofs.Left.{lines_left}
use Rattle.script_writer.proofs.write.put_lines.Goals as goal

pub lines-preserved : goal.lines-preserved
lines-preserved c = rw c.in_ok-put_actor_line.ensures (lines_left actor_words _ c.lines.text c.args.script.now.lines c.lines.index c.line.result.now c.line.ensures.value c.lines.invariant)
