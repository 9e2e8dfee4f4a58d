use Rattle.std.proofs.Common.{◌+◌, drop, codes, arith, rules}
use Rattle.alone_run.specs.Transcript.{made_for}
use Rattle.alone_run.proofs.Performing.{is_ready, line_shown, line_at, text_whole}
use Rattle.alone_run.proofs.transcript.transcript.Goals as goal

pub lines-preserved : goal.lines-preserved
lines-preserved c =
    line_shown (made_for c.new-guest.result.setup) (codes "guest 1\n") c.lines.output.items c.show.new.output.items c.lines.guest c.show.new.self c.line.result.now (drop c.lines.index c.args.script.now.lines) (drop (c.lines.index + 1) c.args.script.now.lines)
    c.args.script.now.lines (line_at c.args.script.now.lines c.lines.index c.line.result.now c.line.ensures.value) c.in_ok-show.ensures c.lines.invariant

pub returns : goal.returns
returns c =
    text_whole c.args.script.now c.setup.result (made_for c.new-guest.result.setup) c.lines.guest c.lines.output.items c.extend_from_slice.new.self.items c.lines.index c.setup.ensures.value (omega arith) c.new-guest.ensures.made_is (search rules) c.lines.invariant

pub show-requires-clause-ready : goal.show-requires-clause-ready
show-requires-clause-ready c = is_ready (made_for c.new-guest.result.setup) c.lines.guest c.lines.invariant.earlier c.lines.invariant.stands
