use Rattle.std.proofs.Common.{◌≡◌, ◌+◌, ◌-◌, drop, arith}
use Rattle.std.proofs.lemmas.List.{length-take}
use Rattle.board_io.proofs.Known.{Appends-more, AppendsPrefix-more}
use Rattle.group_board.proofs.writing.put_all.Goals as goal

pub pieces-preserved : goal.pieces-preserved
pieces-preserved g c =
    let held = g.W.Sink.held in
    let count : c.pieces.at + c.min-count.result - c.pieces.at ≡ c.min-count.result = omega arith in
    record {
      within = omega arith;
      held = Appends-more (held c.args.sink.now) (held c.pieces.sink) (held c.put.new.self) c.args.bytes.now c.pieces.at c.min-count.result c.pieces.invariant.held
          (rw count at c.in-Put.ensures.held);
      faults = grind (arith, c.in-Put.ensures.failures_alone, c.pieces.invariant.faults);
      widest =
          let piece = length-take (c.pieces.at + c.min-count.result - c.pieces.at) (drop c.pieces.at c.args.bytes.now) in
          omega (arith, c.put.ensures.widest, c.pieces.invariant.widest, c.min-count.ensures, piece);
    }

pub returns-in-Failed-clause-held : goal.returns-in-Failed-clause-held
returns-in-Failed-clause-held g c =
    let held = g.W.Sink.held in
    let count : c.pieces.at + c.min-count.result - c.pieces.at ≡ c.min-count.result = omega arith in
    AppendsPrefix-more (held c.args.sink.now) (held c.pieces.sink) (held c.put.new.self) c.args.bytes.now c.pieces.at c.min-count.result c.pieces.invariant.held
    (rw count at c.in-Failed.ensures.held)
