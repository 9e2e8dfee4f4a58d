use Rattle.std.proofs.Common.{◌≡◌, ◌<◌, length, ltb, true, [], arith, ap}
use Rattle.std.proofs.lemmas.Bool.Decides.{nat_tests}
use Rattle.legacy_regs.specs.Kept.{queue_put}
use Rattle.legacy_regs.proofs.Changes.{set_changed}
use Rattle.legacy_regs.proofs.state.State.write_selected.Goals as goal

pub returns-then-selected-queues : goal.returns-then-selected-queues
returns-then-selected-queues c =
    let below : ltb c.selected-selected.result c.args.queues ≡ true = grind (arith, nat_tests) in
    let inside : c.selected-selected.result < length c.args.self.now.queues = omega arith in
    let is = set_changed (queue_put c.args.queues c.args.offset c.args.bytes.now) c.selected-selected.result c.args.self.now.queues (record { address = []; vector = 0 }) inside in
    rw (← c.selected-selected.ensures, below, c.written.ensures, c.from-at.ensures) (ap (λ queues. record c.args.self.now { queues = queues }) is)
