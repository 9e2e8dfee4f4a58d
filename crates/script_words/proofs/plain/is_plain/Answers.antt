use Rattle.std.proofs.Common.{◌∙◌}
use Rattle.script_words.proofs.PlainLines.{goes_on-words}
use Rattle.script_words.proofs.plain.is_plain.Goals as goal

pub returns-then-line-lt-MANY : goal.returns-then-line-lt-MANY
returns-then-line-lt-MANY c = c.goes_on.ensures ∙ goes_on-words c.args.line.now

pub returns-else-line-lt-MANY : goal.returns-else-line-lt-MANY
returns-else-line-lt-MANY c = c.is_plain_long.ensures ∙ goes_on-words c.args.line.now
