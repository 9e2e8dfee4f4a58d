use Rattle.std.proofs.Common.{arith, take}
use Rattle.std.proofs.lemmas.List.{take_rest}
use Rattle.board_io.proofs.Known.{Appends-on, Appends-kept}
use Rattle.board_io.proofs.streams.write_on.Goals as goal
use Rattle.board_io.proofs.streams.write_on.Goals.{in-Ok, in-Err}

pub tries-preserved : goal.tries-preserved
tries-preserved g c =
    let contents = g.W.Write.contents in
    let bytes = c.args.bytes.now in
    elim c.match-write.branch [
      | in-Ok w ↦
          let on = Appends-on (contents c.args.writer.now) (contents c.tries.writer) (contents c.write.new.self) bytes _ c.tries.at w.in-Ok.count c.match-write.at
          c.tries.invariant.within c.tries.invariant.written (take_rest bytes c.tries.at) w.in-Ok.ensures.bound w.in-Ok.ensures.bytes w.at-is in
          record { within = on.0; written = on.1 }
      | in-Err w ↦ record {
        within = omega (arith, w.at-is, c.tries.invariant.within);
        written = rw (w.at-is) (Appends-kept (contents c.args.writer.now) (contents c.tries.writer) (contents c.write.new.self) (take c.tries.at bytes) c.tries.invariant.written w.in-Err.ensures.bytes);
      }
    ]
