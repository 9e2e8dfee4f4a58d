use Rattle.std.proofs.Common.{◌≡◌, false, get_or, sym, ◌∙◌, arith, rules}
use Rattle.script_words.specs.Words.{is_printable}
use Rattle.script_words.proofs.PlainLines.{goes_on-stops, two_spaces, unprintable}
use Rattle.script_words.proofs.plain.goes_on.Goals as goal

pub returns-then-before-eq32 : goal.returns-then-before-eq32
returns-then-before-eq32 c =
    let bytes = c.args.bytes.now in
    let place = c.bytes.byte-index in
    let space : get_or bytes place 0 ≡ 32 = search rules in
    let stops = two_spaces c.bytes.before (get_or bytes place 0) c.if-before-eq32.true space in
    sym (goes_on-stops bytes place c.bytes.before (omega arith) stops) ∙ c.bytes.invariant

pub returns-then-byte-ne32 : goal.returns-then-byte-ne32
returns-then-byte-ne32 c =
    let bytes = c.args.bytes.now in
    let place = c.bytes.byte-index in
    let no : is_printable (get_or bytes place 0) ≡ false = cc in
    let stops = unprintable c.bytes.before (get_or bytes place 0) c.if-byte-ne32.true no in
    sym (goes_on-stops bytes place c.bytes.before (omega arith) stops) ∙ c.bytes.invariant
