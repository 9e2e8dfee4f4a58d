use Rattle.std.proofs.Common.{◌≡◌, ◌+◌, ◌-◌, ◌<◌, ℕ, List, length, sym, ap, ◌∙◌, arith, rules}
use Rattle.group_calls.specs.Queue.{RingEntry, posted}
use Rattle.journal.specs.Lines.{numbers}
use Rattle.journal.specs.Texts.{commands_in}
use Rattle.load_run.proofs.Counting.{commands_on}
use Rattle.load_run.proofs.counts.commands.Goals as goal

pub queues-preserved : goal.queues-preserved
queues-preserved c = λ s j holds.
    let n = c.queues.posted in
    let m = c.commands_of.result in
    let index = c.queues.index in
    let count : length c.args.cells.now.queues ≡ s.board.queues = holds.queue_count in
    let end : c.queues-index-end.result ≡ length c.args.cells.now.queues = c.queues-index-end.ensures in
    let less : index < s.board.queues = omega arith in
    let history = (holds.queue index c.queue_cell.result.now c.queue_cell.ensures).1 in
    let added : c.in_ok-posted.posted ≡ n + m = search rules in
    commands_on j index s.board.queues n m (commands_in j (numbers 0 s.board.queues)) less (c.commands_of.ensures ∙ ap (λ (h : List RingEntry). length (posted h)) history) (c.queues.invariant s j holds)
    ∙ ap (λ (k : ℕ). k + commands_in j (numbers (index + 1) (s.board.queues - (index + 1)))) (sym added)
