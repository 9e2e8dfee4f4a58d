use Rattle.std.proofs.Common.{◌≡◌, ◌+◌, ◌≤◌, ℕ, Bool, cond, sym, ap, ◌∙◌, subst, drop}
use Rattle.history.specs.Look.{count}
use Rattle.load_run.specs.Load.{is_write}
use Rattle.load_run.proofs.Counting.{few_on, count_on}
use Rattle.load_run.proofs.counts.writes.Goals.{then-is_write, else-is_write}
use Rattle.load_run.proofs.counts.writes.Goals as goal

pub lines-preserved : goal.lines-preserved
lines-preserved c =
    let n = c.lines.writes in
    let line = c.line.result.now in
    let lines = c.args.script.now.lines in
    let same : c.if-is_write.writes ≡ cond (is_write line) (n + 1) n = elim c.if-is_write.branch [
      | then-is_write w ↦ w.writes-is ∙ sym (ap (λ (b : Bool). cond b (n + 1) n) (sym c.is_write.ensures ∙ w.if-is_write.true))
      | else-is_write w ↦ w.writes-is ∙ sym (ap (λ (b : Bool). cond b (n + 1) n) (sym c.is_write.ensures ∙ w.if-is_write.false))
    ] in
    record {
      counted = count_on is_write lines c.lines.index n line c.line.ensures.value c.lines.invariant.counted ∙ ap (λ (n : ℕ). n + count is_write (drop (c.lines.index + 1) lines)) (sym same);
      few = subst (λ (n : ℕ). n ≤ c.lines.index + 1) (sym same) (few_on (is_write line) n c.lines.index c.lines.invariant.few);
    }
