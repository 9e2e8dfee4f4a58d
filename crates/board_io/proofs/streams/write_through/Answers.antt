use Rattle.std.proofs.Common.{length, ℕ, List, sym, subst, arith}
use Rattle.std.specs.Io.KnownBytes.{Appends}
use Rattle.std.proofs.lemmas.List.{take_all}
use Rattle.board_io.proofs.Known.{Appends-kept}
use Rattle.board_io.proofs.streams.write_through.Goals as goal

pub returns-in-Err : goal.returns-in-Err
returns-in-Err g c =
    let contents = g.W.Write.contents in
    let bytes = c.args.bytes.now in
    let all = Appends-kept (contents c.args.writer.now) (contents c.write_on.new.writer) (contents c.flush.new.self) bytes c.in-Put.ensures.held c.in-Err.ensures.bytes in
    (length bytes, subst (λ (front : List ℕ). Appends (contents c.args.writer.now) (contents c.flush.new.self) front) (sym (take_all (length bytes) bytes (omega arith))) all)
