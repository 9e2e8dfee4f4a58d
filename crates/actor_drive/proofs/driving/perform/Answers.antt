use Rattle.std.proofs.Common.{None, sym, ◌∙◌, ap, subst}
use Rattle.group_cells.specs.Cells.{Sight}
use Rattle.journal.specs.Cells.{left_in_owner, left_in_queue, left_in_member}
use Rattle.actor_drive.specs.Shown.{shown_journal, frame_of, AreCellsOf}
use Rattle.actor_drive.specs.Told.{IsTried, AreSeenOn, IsLeft, IsToldBy}
use Rattle.actor_drive.proofs.Asked.{tried_frame, may_still, tried_on, tried_left, tried_told, tried_answers, seen_then, told_then}
use Rattle.actor_drive.proofs.driving.perform.Goals as goal

pub try_ask-requires : goal.try_ask-requires
try_ask-requires g c = may_still (g.C.Cells.sight c.args.cells.now) (g.C.Cells.sight c.loop.cells) c.args.ask.now c.loop.invariant.frame c.requires.may

pub returns-in-Some-try_ask-clause-frame : goal.returns-in-Some-try_ask-clause-frame
returns-in-Some-try_ask-clause-frame g c = tried_frame (g.C.Cells.sight c.loop.cells) c.args.ask.now c.try_ask.result (g.C.Cells.sight c.try_ask.new.cells) c.try_ask.ensures.tried ∙ c.loop.invariant.frame

pub returns-in-Some-try_ask-clause-left : goal.returns-in-Some-try_ask-clause-left
returns-in-Some-try_ask-clause-left g c =
    let s = g.C.Cells.sight c.args.cells.now in
    let m = g.C.Cells.sight c.loop.cells in
    let d = g.C.Cells.sight c.try_ask.new.cells in
    let ask = c.args.ask.now in
    let told = c.in-Some-try_ask.told in
    let may = may_still s m ask c.loop.invariant.frame c.requires.may in
    let left = tried_left m ask told d may c.in-Some-try_ask.ensures.tried in
    seen_then s.who (left_in_owner s.who (ask, told)) (λ i. left_in_queue s.who i (ask, told)) (λ i. left_in_member s.who i (ask, told)) (shown_journal s) (shown_journal m) (shown_journal d) c.loop.invariant.seen
    (subst (λ who. IsLeft who ask told (shown_journal m) (shown_journal d)) (ap (λ (f : Sight). f.who) c.loop.invariant.frame) left)

pub returns-in-Some-try_ask-clause-told : goal.returns-in-Some-try_ask-clause-told
returns-in-Some-try_ask-clause-told g c =
    let w = c.args.script.now in
    let s = g.C.Cells.sight c.args.cells.now in
    let m = g.C.Cells.sight c.loop.cells in
    let d = g.C.Cells.sight c.try_ask.new.cells in
    let ask = c.args.ask.now in
    let told = c.in-Some-try_ask.told in
    let may = may_still s m ask c.loop.invariant.frame c.requires.may in
    let cells = subst (AreCellsOf w) (sym c.loop.invariant.frame) c.requires.cells in
    told_then w (frame_of s) s.who (shown_journal s) (shown_journal m) (shown_journal d) ask told c.loop.invariant.seen
    (subst (λ (f : Sight). IsToldBy w f (shown_journal m) (shown_journal d) ask told) c.loop.invariant.frame (tried_told w m ask told d cells may c.in-Some-try_ask.ensures.tried))

pub returns-in-Some-try_ask-clause-answers : goal.returns-in-Some-try_ask-clause-answers
returns-in-Some-try_ask-clause-answers g c =
    let w = c.args.script.now in
    let s = g.C.Cells.sight c.args.cells.now in
    let m = g.C.Cells.sight c.loop.cells in
    let d = g.C.Cells.sight c.try_ask.new.cells in
    let ask = c.args.ask.now in
    let may = may_still s m ask c.loop.invariant.frame c.requires.may in
    let cells = subst (AreCellsOf w) (sym c.loop.invariant.frame) c.requires.cells in
    tried_answers w c.queues-queues.ensures.bounds m ask c.in-Some-try_ask.told d cells may c.in-Some-try_ask.ensures.tried c.try_ask.ensures.sound

pub loop-preserved : goal.loop-preserved
loop-preserved g c =
    let s = g.C.Cells.sight c.args.cells.now in
    let m = g.C.Cells.sight c.loop.cells in
    let d = g.C.Cells.sight c.try_ask.new.cells in
    let ask = c.args.ask.now in
    let may = may_still s m ask c.loop.invariant.frame c.requires.may in
    let tried = subst (λ o. IsTried m ask o d) c.in_default.is c.try_ask.ensures.tried in
    let on = tried_on m ask d may tried in
    record {
      can = tt;
      finite = tt;
      frame = tried_frame m ask None d tried ∙ c.loop.invariant.frame;
      seen = seen_then s.who None (λ i. None) (λ i. None) (shown_journal s) (shown_journal m) (shown_journal d) c.loop.invariant.seen (subst (λ who. AreSeenOn who (shown_journal m) (shown_journal d)) (ap (λ (f : Sight). f.who) c.loop.invariant.frame) on);
      group = c.try_ask.ensures.group ∙ c.loop.invariant.group;
    }
