use Rattle.std.proofs.Common.{◌≡◌, false, ap, sym, ◌∙◌, arith, ◌≤◌, length}
use Rattle.script_words.specs.Kept.{goes_on}
use Rattle.script_words.proofs.PlainLines.{goes_on-rest, goes_on-none}
use Rattle.script_words.proofs.plain.is_plain_long.Goals as goal

pub returns-else-good : goal.returns-else-good
returns-else-good c =
    let front = c.split_at.result.0.now in
    let rest = c.split_at.result.1.now in
    let bad : c.bytes.good ≡ false = c.if-good.false in
    let past : length front ≤ c.bytes.byte-index = omega arith in
    bad ∙ sym (goes_on-none c.bytes.before rest) ∙ ap (λ good. goes_on good c.bytes.before rest) (sym bad) ∙ sym (goes_on-rest front rest c.bytes.byte-index c.bytes.good c.bytes.before past) ∙ c.bytes.invariant
