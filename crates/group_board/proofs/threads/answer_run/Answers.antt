use Rattle.std.proofs.Common.{rules}
use Rattle.group_board.specs.Threads.{IsRead}
use Rattle.group_board.proofs.Putting.{told_same}
use Rattle.group_board.proofs.Threading.{run_says}
use Rattle.group_board.proofs.threads.answer_run.Goals as goal

pub returns-clause-says : goal.returns-clause-says
returns-clause-says g c =
    let told = g.R.Source.left c.args.source.now in
    let text = c.as_slice.result.now in
    let read : IsRead told text = (told_same told (g.R.Source.left c.read_text.new.source) text (search rules), search rules) in
    run_says c.run-made.result c.put_made.result told (g.W.Sink.held c.args.sink.now) (g.W.Sink.held c.put_made.new.sink) text read c.run-made.ensures c.put_made.ensures.says
