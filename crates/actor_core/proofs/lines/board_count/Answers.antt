use Rattle.std.proofs.Common.{◌≡◌, ◌+◌, ◌-◌, length, sym, ap, ◌∙◌, arith}
use Rattle.std.specs.Prelude.{flat_map}
use Rattle.legacy_regs.specs.Registers.{queue_count}
use Rattle.journal.specs.Lines.{finishing_lines, numbers, lines_of, kind_of}
use Rattle.actor_core.proofs.Boards.{all_counted, one_member_counted, kind_there}
use Rattle.actor_core.proofs.lines.board_count.Goals as goal

pub guests-init : goal.guests-init
guests-init c =
    let s = c.args.script.now in
    let count = 2 + c.guests-guests.result + c.queues.result in
    record {
      few = omega (arith, c.guests-guests.ensures.value, c.queues.ensures.value);
      all = ap (λ n. count + length (flat_map (finishing_lines s) (numbers 1 n))) (let e : length s.guests + 1 - 1 ≡ length s.guests = omega arith in e)
          ∙ all_counted s count (omega (arith, c.guests-guests.ensures.value, c.queues.ensures.value));
    }

pub guests-preserved : goal.guests-preserved
guests-preserved c =
    let s = c.args.script.now in
    let guest = c.guests.guest in
    let queues : c.from-count.result ≡ queue_count (kind_of s guest) = c.from-count.ensures ∙ c.queue_count.ensures.value ∙ ap queue_count (sym (kind_there s guest c.setup.result c.setup.ensures.value)) in
    record {
      few = omega (arith, c.guests.invariant.few, c.queue_count.ensures.bound, c.from-count.ensures);
      all = ap (λ q. c.guests.count + q + length (flat_map (finishing_lines s) (numbers (guest + 1) (length s.guests + 1 - (guest + 1))))) queues
          ∙ one_member_counted s c.guests.count guest (length s.guests + 1 - guest) (length s.guests + 1 - (guest + 1)) (length (lines_of s 0)) (omega (arith, c.guests-test.true, c.guests-guests.ensures.value)) c.guests.invariant.all;
    }
