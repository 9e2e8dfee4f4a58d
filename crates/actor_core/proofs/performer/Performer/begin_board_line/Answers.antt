use Rattle.std.proofs.Common.{refl}
use Rattle.actor_core.proofs.Begins.{board_stands}
use Rattle.actor_core.proofs.performer.Performer.begin_board_line.Goals as goal

pub returns-clause-stands : goal.returns-clause-stands
returns-clause-stands c past begun own is stands =
    board_stands c.args.script.now past c.args.self.now _ c.args.line begun own is stands (record { who = refl; floors = refl; known = refl; bar = refl }) refl refl c.board_beginning.ensures.fits
    (c.board_beginning.ensures.doing c.args.self.now.driver.stage)
