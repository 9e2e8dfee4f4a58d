use Rattle.std.proofs.Common.{arith}
use Rattle.std.proofs.lemmas.Fmt.{decimal_digit}
use Rattle.board_render.proofs.digits.put_decimal.Goals as goal

pub returns-then-number-le9 : goal.returns-then-number-le9
returns-then-number-le9 g c = rw (decimal_digit c.args.number (omega arith)) c.put_byte.ensures
