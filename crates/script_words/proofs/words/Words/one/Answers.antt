use Rattle.std.proofs.Common.{sym, ◌∙◌}
use Rattle.script_words.proofs.LineWords.{one_many, one_left}
use Rattle.script_words.proofs.words.Words.one.Goals as goal

pub returns-then-has_space : goal.returns-then-has_space
returns-then-has_space c = one_many c.args.self c.self.inside.ended c.self.inside.rest.now (sym c.self.view_is) c.if-self.false (sym c.has_space.ensures ∙ c.if-has_space.true)

pub returns : goal.returns
returns c = one_left c.args.self c.self.inside.ended c.self.inside.rest.now (sym c.self.view_is) c.if-self.false (sym c.has_space.ensures ∙ c.if-has_space.false)
