use Rattle.std.proofs.Common.{◌∙◌, sym, arith}
use Rattle.script_words.proofs.HexWords.{hex_bytes-even}
use Rattle.script_words.proofs.hex_words.is_hex.Goals as goal

pub returns : goal.returns
returns c = c.all_hex.ensures ∙ hex_bytes-even c.args.text.now (sym c.is_empty.ensures ∙ c.if-is_empty.false) (omega (arith, c.if-text-eq1.false))
