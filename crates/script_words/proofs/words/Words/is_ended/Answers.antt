use Rattle.std.proofs.Common.{sym}
use Rattle.script_words.proofs.LineWords.{left_none}
use Rattle.script_words.proofs.words.Words.is_ended.Goals as goal

pub returns : goal.returns
returns c = left_none c.args.self.now c.self.inside.ended c.self.inside.rest.now (sym c.self.view_is)
