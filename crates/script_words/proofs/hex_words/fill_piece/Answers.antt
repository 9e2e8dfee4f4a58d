use Rattle.std.proofs.Common.{◌≡◌, ◌/◌, length, true≢false, sym, ap, inl, inr, arith}
use Rattle.board_text.specs.Hex.{FillsPiece, hex_piece}
use Rattle.script_words.proofs.HexWords.{refused_number, filled, not_filled}
use Rattle.script_words.proofs.hex_words.fill_piece.Goals as goal
use Rattle.script_words.proofs.hex_words.fill_piece.Goals.{then-length-low-via-then-length-low, then-length-low-via-else-length-low+then-high-length}

pub returns-then-length-low-clause-value : goal.returns-then-length-low-clause-value
returns-then-length-low-clause-value c =
    let same : length c.bytes.result.now ≡ length c.args.word.now = ap length c.bytes.ensures in
    refused_number c.args.word.now c.args.low c.args.high c.fault_of_number.result c.args.piece.now
    (elim c.then-length-low.branch [ then-length-low-via-then-length-low w ↦ inl (omega (arith, same)) | then-length-low-via-else-length-low+then-high-length w ↦ inr (omega (arith, same)) ])
    c.fault_of_number.ensures.hex c.fault_of_number.ensures.range

pub returns-in-Ok-true-clause-value : goal.returns-in-Ok-true-clause-value
returns-in-Ok-true-clause-value c =
    let same : length c.bytes.result.now ≡ length c.args.word.now = ap length c.bytes.ensures in
    let told : FillsPiece c.in-Ok-true.field-0 c.read_hex.new.self (hex_piece c.bytes-2.result.now) = c.in-Ok-true.ensures.value in
    (filled c.args.word.now c.read_hex.new.self c.args.low c.args.high c.requires (omega (arith, same)) (omega (arith, same)) (rw c.bytes-2.ensures at (rw c.in-Ok-true.field-0-test at told))).value

pub returns-in-Ok-true-clause-each : goal.returns-in-Ok-true-clause-each
returns-in-Ok-true-clause-each c =
    let same : length c.bytes.result.now ≡ length c.args.word.now = ap length c.bytes.ensures in
    let told : FillsPiece c.in-Ok-true.field-0 c.read_hex.new.self (hex_piece c.bytes-2.result.now) = c.in-Ok-true.ensures.value in
    (filled c.args.word.now c.read_hex.new.self c.args.low c.args.high c.requires (omega (arith, same)) (omega (arith, same)) (rw c.bytes-2.ensures at (rw c.in-Ok-true.field-0-test at told))).each

pub returns-in-Ok-true-clause-low : goal.returns-in-Ok-true-clause-low
returns-in-Ok-true-clause-low c =
    let same : length c.bytes.result.now ≡ length c.args.word.now = ap length c.bytes.ensures in
    let told : FillsPiece c.in-Ok-true.field-0 c.read_hex.new.self (hex_piece c.bytes-2.result.now) = c.in-Ok-true.ensures.value in
    (filled c.args.word.now c.read_hex.new.self c.args.low c.args.high c.requires (omega (arith, same)) (omega (arith, same)) (rw c.bytes-2.ensures at (rw c.in-Ok-true.field-0-test at told))).low

pub returns-in-Ok-true-clause-high : goal.returns-in-Ok-true-clause-high
returns-in-Ok-true-clause-high c =
    let same : length c.bytes.result.now ≡ length c.args.word.now = ap length c.bytes.ensures in
    let told : FillsPiece c.in-Ok-true.field-0 c.read_hex.new.self (hex_piece c.bytes-2.result.now) = c.in-Ok-true.ensures.value in
    (filled c.args.word.now c.read_hex.new.self c.args.low c.args.high c.requires (omega (arith, same)) (omega (arith, same)) (rw c.bytes-2.ensures at (rw c.in-Ok-true.field-0-test at told))).high

pub returns-in-Ok-false-clause-value : goal.returns-in-Ok-false-clause-value
returns-in-Ok-false-clause-value c =
    let same : length c.bytes.result.now ≡ length c.args.word.now = ap length c.bytes.ensures in
    let told : FillsPiece c.in-Ok-false.field-0 c.read_hex.new.self (hex_piece c.bytes-2.result.now) = c.in-Ok-false.ensures.value in
    not_filled c.args.word.now c.args.low c.args.high c.requires (omega (arith, same)) (rw c.bytes-2.ensures at (rw c.in-Ok-false.field-0-test at told))

pub returns-in-Err-clause-memory : goal.returns-in-Err-clause-memory
returns-in-Err-clause-memory c few is =
    let same : length c.bytes.result.now ≡ length c.args.word.now = ap length c.bytes.ensures in
    let again : length c.bytes-2.result.now ≡ length c.args.word.now = ap length c.bytes-2.ensures in
    true≢false (sym (c.in-Err.ensures.memory (omega (arith, same, again))))
