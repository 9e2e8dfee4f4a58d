use Rattle.std.proofs.Common.{◌≡◌, ◌+◌, ◌≤◌, ℕ, Bool, cond, sym, ap, ◌∙◌, subst, drop}
use Rattle.history.specs.Look.{count}
use Rattle.load_run.specs.Load.{is_read}
use Rattle.load_run.proofs.Counting.{few_on, count_on}
use Rattle.load_run.proofs.counts.reads.Goals.{then-is_read, else-is_read}
use Rattle.load_run.proofs.counts.reads.Goals as goal

pub lines-preserved : goal.lines-preserved
lines-preserved c =
    let n = c.lines.reads in
    let line = c.line.result.now in
    let lines = c.args.script.now.lines in
    let same : c.if-is_read.reads ≡ cond (is_read line) (n + 1) n = elim c.if-is_read.branch [
      | then-is_read w ↦ w.reads-is ∙ sym (ap (λ (b : Bool). cond b (n + 1) n) (sym c.is_read.ensures ∙ w.if-is_read.true))
      | else-is_read w ↦ w.reads-is ∙ sym (ap (λ (b : Bool). cond b (n + 1) n) (sym c.is_read.ensures ∙ w.if-is_read.false))
    ] in
    record {
      counted = count_on is_read lines c.lines.index n line c.line.ensures.value c.lines.invariant.counted ∙ ap (λ (n : ℕ). n + count is_read (drop (c.lines.index + 1) lines)) (sym same);
      few = subst (λ (n : ℕ). n ≤ c.lines.index + 1) (sym same) (few_on (is_read line) n c.lines.index c.lines.invariant.few);
    }
