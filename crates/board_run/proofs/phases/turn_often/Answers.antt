use Rattle.std.proofs.Common.{inl, true, ◌≡◌, ℕ, ◌≤◌, sym, subst, arith}
use Rattle.std.specs.Prelude.{replicate}
use Rattle.journal.specs.Journals.{Journal}
use Rattle.journal.specs.Worlds.{run}
use Rattle.board_run.specs.Running.{IsRunning, IsOneOf, HasTurned, HasTurnedOften}
use Rattle.board_run.proofs.Orders.{often_more}
use Rattle.board_run.proofs.phases.turn_often.Goals as goal

pub turn-requires : goal.turn-requires
turn-requires c =
    let s = c.args.script.now in
    let who = c.args.actor.now.performer.who in
    let same = c.turns.invariant.number in
    let k : Journal = run s (replicate c.turns.turns who) c.requires.run.0 in
    let now = c.turns.invariant.so_far c.requires.run.0 c.requires.run.1.0 c.requires.run.1.1 in
    (true, (k, (now.0, subst (λ (w : ℕ). IsOneOf s true w k c.turns.actor) (sym same) now.1, inl (subst (λ (w : ℕ). 1 ≤ w) (sym same) c.requires.some))))

pub turns-preserved : goal.turns-preserved
turns-preserved c =
    let s = c.args.script.now in
    let who = c.args.actor.now.performer.who in
    let n = c.turns.turns in
    let same = c.turns.invariant.number in
    let turned = λ (j : Journal) (run_ : IsRunning s true j c.args.cells.now) (one : IsOneOf s true who j c.args.actor.now).
    let k : Journal = run s (replicate n who) j in
    let now = c.turns.invariant.so_far j run_ one in
    subst (λ (w : ℕ). HasTurned s true w k c.turn.new.cells c.turn.new.actor) same
    (c.in_ok-turn.ensures.turned true k now.0 (subst (λ (w : ℕ). IsOneOf s true w k c.turns.actor) (sym same) now.1) (inl (subst (λ (w : ℕ). 1 ≤ w) (sym same) c.requires.some))) in
    record {
      number = (turned c.requires.run.0 c.requires.run.1.0 c.requires.run.1.1).1.stands.performer.who_is;
      so_far = λ j run_ one.
          subst (λ (x : Journal). IsRunning s true x c.turn.new.cells × IsOneOf s true who x c.turn.new.actor) (sym (often_more s who n j c.requires.some)) (turned j run_ one);
    }

pub returns : goal.returns
returns c j run_ one =
    let low = c.turns-test.false in
    let high = c.turns.auto.turns-end in
    let end : c.turns.turns ≡ c.args.count = omega (arith, low, high) in
    subst (λ (n : ℕ). HasTurnedOften c.args.script.now true c.args.actor.now.performer.who n j c.turns.cells c.turns.actor) end (c.turns.invariant.so_far j run_ one)
