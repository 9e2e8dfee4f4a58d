use Rattle.std.proofs.Common.{rules}
use Rattle.group_board.proofs.Putting.{puts_headline, told_same}
use Rattle.group_board.proofs.top.answer_text.Goals as goal

pub returns-clause-headline : goal.returns-clause-headline
returns-clause-headline g c done =
    let told = g.R.Source.left c.args.source.now in
    puts_headline c.args.command c.perform-made.result c.put_made.result told (g.W.Sink.held c.args.sink.now) (g.W.Sink.held c.put_made.new.sink) c.as_slice.result.now
    (told_same told (g.R.Source.left c.read_text.new.source) c.as_slice.result.now (search rules)) c.perform-made.ensures.made c.perform-made.ensures.headline c.put_made.ensures.says done
