use Rattle.std.proofs.Common.{◌≡◌, ◌+◌, ℕ, Bool, cond, sym, ap, ◌∙◌, subst, ◌≤◌, length, arith}
use Rattle.std.specs.Prelude.{is_some, List}
use Rattle.history.proofs.PlaceLemmas.{before-none, before-all}
use Rattle.group_calls.specs.Queue.{RingEntry, posted, posted_by}
use Rattle.load_run.proofs.Counting.{few_on, posted_on}
use Rattle.load_run.proofs.counts.commands_of.Goals.{then-is_posted, else-is_posted}
use Rattle.load_run.proofs.counts.commands_of.Goals as goal

pub entries-init : goal.entries-init
entries-init c = record { counted = sym (ap (λ (h : List RingEntry). length (posted h)) (before-none c.args.queue.now.history)); few = omega arith }

pub entries-preserved : goal.entries-preserved
entries-preserved c =
    let n = c.entries.posted in
    let b = is_some (posted_by c.entry.result.now) in
    let same : c.if-is_posted.posted ≡ cond b (n + 1) n = elim c.if-is_posted.branch [
      | then-is_posted w ↦ w.posted-is ∙ sym (ap (λ (b : Bool). cond b (n + 1) n) (sym c.is_posted.ensures ∙ w.if-is_posted.true))
      | else-is_posted w ↦ w.posted-is ∙ sym (ap (λ (b : Bool). cond b (n + 1) n) (sym c.is_posted.ensures ∙ w.if-is_posted.false))
    ] in
    record {
      counted = same ∙ posted_on c.args.queue.now.history c.entries.place n c.entry.result.now c.entry.ensures c.entries.invariant.counted;
      few = subst (λ (n : ℕ). n ≤ c.entries.place + 1) (sym same) (few_on b n c.entries.place c.entries.invariant.few);
    }

pub returns : goal.returns
returns c = c.entries.invariant.counted ∙ ap (λ (h : List RingEntry). length (posted h)) (before-all c.args.queue.now.history c.entries.place (omega arith))
