use Rattle.board_render.proofs.Wrote.{wrote_then}
use Rattle.board_render.proofs.writer.WriterOutput.put_byte.Goals as goal

pub returns : goal.returns
returns g c = wrote_then c.make_room.ensures.wrote c.take_byte.ensures
