use Rattle.script_load.proofs.Bounds.{loaded_is_script}
use Rattle.script_load.proofs.load.load_script.Goals as goal

pub of-requires : goal.of-requires
of-requires c = rw (c.board.ensures, c.in_ok-guests.ensures, c.in_ok-lines.ensures, c.new.ensures.items) (loaded_is_script c.args.seed c.args.count c.requires)
