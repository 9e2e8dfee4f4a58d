use Rattle.std.proofs.Common.{◌≡◌, ℕ, ◌≤◌, List, length, sym, ap, ◌∙◌, subst, arith}
use Rattle.std.specs.Prelude.{replicate, slice_set}
use Rattle.journal.specs.Journals.{Journal}
use Rattle.journal.specs.Worlds.{run}
use Rattle.actor_core.specs.declared.actor.Actor.{Actor}
use Rattle.board_run.specs.Running.{AreRunning}
use Rattle.board_run.proofs.Orders.{turns_before, pair_more, pairs_all, often_turned}
use Rattle.board_run.proofs.Others.{read_at, one_at, other_at, often_all}
use Rattle.board_run.proofs.phases.follow_schedule.Goals as goal

pub index_mut-requires : goal.index_mut-requires
index_mut-requires c =
    let now = c.pairs.invariant c.requires.0 c.requires.1 in
    let count = now.all.count in
    let within = c.place_of-place.ensures.within in
    omega (arith, count, within)

pub turn_often-requires-clause-some : goal.turn_often-requires-clause-some
turn_often-requires-clause-some c =
    let at = read_at c.pairs.actors.items c.place_of-place.result c.index_mut.result.now (let n = (c.pairs.invariant c.requires.0 c.requires.1).all.count in let within = c.place_of-place.ensures.within in omega (arith, n, within)) c.index_mut.ensures.value in
    let s = c.args.script.now in
    let script = c.queues-queues.ensures.bounds in
    let now = c.pairs.invariant c.requires.0 c.requires.1 in
    let k : Journal = run s (turns_before s c.pairs.index) c.requires.0 in
    other_at s script k c.pairs.actors.items c.place_of-place.result c.index_mut.result.now c.place_of-place.ensures.low now.all at

pub turn_often-requires-clause-run : goal.turn_often-requires-clause-run
turn_often-requires-clause-run c =
    let at = read_at c.pairs.actors.items c.place_of-place.result c.index_mut.result.now (let n = (c.pairs.invariant c.requires.0 c.requires.1).all.count in let within = c.place_of-place.ensures.within in omega (arith, n, within)) c.index_mut.ensures.value in
    let s = c.args.script.now in
    let now = c.pairs.invariant c.requires.0 c.requires.1 in
    let k : Journal = run s (turns_before s c.pairs.index) c.requires.0 in
    (k, (now.run, one_at s k c.pairs.actors.items c.place_of-place.result c.index_mut.result.now now.all at))

pub pairs-preserved : goal.pairs-preserved
pairs-preserved c =
    let at = read_at c.pairs.actors.items c.place_of-place.result c.index_mut.result.now (let n = (c.pairs.invariant c.requires.0 c.requires.1).all.count in let within = c.place_of-place.ensures.within in omega (arith, n, within)) c.index_mut.ensures.value in
    let s = c.args.script.now in
    let script = c.queues-queues.ensures.bounds in
    let actors : List Actor = c.pairs.actors.items in
    let place = c.place_of-place.result in
    let low = c.place_of-place.ensures.low in
    let old : Actor = c.index_mut.result.now in
    let new : Actor = c.turn_often.new.actor in
    let turns = c.turns-turns.result in
    λ j all.
    let k : Journal = run s (turns_before s c.pairs.index) j in
    let now = c.pairs.invariant j all in
    let one = one_at s k actors place old now.all at in
    let some = other_at s script k actors place old low now.all at in
    let who : old.performer.who ≡ turns.who = (now.all.each place old at).performer.who_is ∙ c.place_of-place.ensures.is in
    let times : List ℕ = replicate turns.count old.performer.who in
    let after = c.in_ok-turn_often.ensures k now.run one in
    let there = often_all s script k c.pairs.cells c.turn_often.new.cells actors place old new low now at times (often_turned s old.performer.who turns.count k some) after.0 after.1 in
    subst (λ (x : Journal). AreRunning s x c.turn_often.new.cells (slice_set actors place new))
    (ap (λ (n : ℕ). run s (replicate turns.count n) k) who ∙ sym (pair_more s c.pairs.index turns j c.turns-turns.ensures.value)) there

pub returns : goal.returns
returns c j all =
    let s = c.args.script.now in
    let low = c.pairs-test.false in
    let count = c.turn_count-index-end.ensures in
    let end : length s.turns ≤ c.pairs.index = omega (arith, low, count) in
    subst (λ (x : Journal). AreRunning s x c.pairs.cells c.pairs.actors.items) (pairs_all s c.pairs.index j end) (c.pairs.invariant j all)
