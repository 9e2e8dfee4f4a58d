use Rattle.std.proofs.Common.{◌+◌, sym}
use Rattle.std.proofs.lemmas.List.{take_rest}
use Rattle.script_words.proofs.LineWords.{left_first, left_last}
use Rattle.script_words.proofs.words.Words.split.Goals as goal

pub returns-in-Some : goal.returns-in-Some
returns-in-Some c =
    rw (take_rest c.self.inside.rest.now (c.in-Some.place + 1)) (left_first c.args.self c.self.inside.ended c.self.inside.rest.now c.in-Some.place (sym c.self.view_is) c.if-self.false c.in-Some.ensures)

pub returns-in-None : goal.returns-in-None
returns-in-None c = left_last c.args.self c.self.inside.ended c.self.inside.rest.now (sym c.self.view_is) c.if-self.false c.in-None.ensures
