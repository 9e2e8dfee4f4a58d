use Rattle.std.proofs.Common.{◌≡◌, ◌*◌, ◌≤◌, false, true, length, ap, arith}
use Rattle.hex.proofs.HexLemmas.{decode_of-ok}
use Rattle.board_text.specs.Hex.{is_piece_length}
use Rattle.board_text.proofs.HexTextLemmas.{hex_piece-none, few_digits}
use Rattle.board_text.proofs.pieces.Piece.read_hex.Goals as goal

pub returns-then-not-is_length-clause-value : goal.returns-then-not-is_length-clause-value
returns-then-not-is_length-clause-value c =
    let other : is_piece_length (length c.args.text.now) ≡ false = cc in
    hex_piece-none c.args.text.now other

pub lent-requires : goal.lent-requires
lent-requires c =
    let good : is_piece_length (length c.args.text.now) ≡ true = cc in
    let few : length c.args.text.now ≤ 512 = few_digits (length c.args.text.now) good in
    let twice : length c.args.text.now ≡ 2 * length c.in-Ok.bytes.items = (decode_of-ok c.args.text.now c.in-Ok.bytes.items c.in-Ok.ensures.ok).2 in
    let same : length c.leak.result.now ≡ length c.in-Ok.bytes.items = ap length c.leak.ensures.value in
    omega arith
