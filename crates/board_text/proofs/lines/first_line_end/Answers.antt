use Rattle.std.specs.Prelude.{◌==◌}
use Rattle.board_text.proofs.Places.{IsFirstByte-position}
use Rattle.board_text.proofs.lines.first_line_end.Goals as goal

pub returns : goal.returns
returns c = IsFirstByte-position (λ byte. byte == 10) c.args.rest.now c.memchr.result c.memchr.ensures
