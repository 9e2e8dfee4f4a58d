use Rattle.std.proofs.Common.{ℕ, ◌∷◌, IfSome, IsSomeAnd, sym, ◌∙◌, ap, subst}
use Rattle.group_cells.specs.Cells.{Sight}
use Rattle.actor_core.specs.declared.lines.Lines.{Lines}
use Rattle.actor_core.specs.Boards.{FitsLines, OwnLines, lines_now}
use Rattle.actor_core.specs.Actors.{StandsWhole, and_asked, given_where}
use Rattle.actor_drive.specs.Bounds.{IsOfGroup}
use Rattle.actor_drive.specs.Shown.{shown_journal, frame_of, AreCellsOf}
use Rattle.actor_drive.proofs.Comes.{IsNext, further_then, may_ask}
use Rattle.actor_drive.proofs.Fed.{all_added}
use Rattle.actor_drive.proofs.Goes.{at_next, at_fed, onward_then, refused, passed}
use Rattle.actor_drive.proofs.driving.drive.Goals as goal

pub returns-then-not-asks-clause-ended : goal.returns-then-not-asks-clause-ended
returns-then-not-asks-clause-ended g c = λ past start short.
    let w = c.args.script.now in
    let x = g.C.Cells.sight c.loop.cells in
    let i = c.loop.invariant in
    let e = c.next-asks.ensures in
    let b = i.beside past start (e.short short) in
    let own = subst (λ n. OwnLines n c.loop.actor.lines) (i.number ∙ (c.requires.who ∙ sym (ap (λ (f : Sight). f.who) i.onward.frame))) i.fits.1 in
    let n = at_next w c.queues-queues.ensures.bounds b.0 c.loop.actor c.next-asks.new.self x (given_where c.next-asks.result c.next-asks.new.self) own e.due e.stands short b.1.0 in
    (n.now, (n.ended (ap (λ b. given_where b c.next-asks.new.self) c.if-not-asks.true), further_then past b.0 n.now b.1.1 n.further))

pub returns-then-not-is_of_group-clause-ended : goal.returns-then-not-is_of_group-clause-ended
returns-then-not-is_of_group-clause-ended g c = λ past start short.
    let w = c.args.script.now in
    let x = g.C.Cells.sight c.loop.cells in
    let i = c.loop.invariant in
    let e = c.next-asks.ensures in
    let b = i.beside past start (e.short short) in
    let own = subst (λ n. OwnLines n c.loop.actor.lines) (i.number ∙ (c.requires.who ∙ sym (ap (λ (f : Sight). f.who) i.onward.frame))) i.fits.1 in
    let n = at_next w c.queues-queues.ensures.bounds b.0 c.loop.actor c.next-asks.new.self x (given_where c.next-asks.result c.next-asks.new.self) own e.due e.stands short b.1.0 in
    let asks = subst (λ o. IfSome o (λ ask. IsOfGroup w ask × IsNext w x.who record { ask = o; past = n.now } ask)) (ap (λ b. given_where b c.next-asks.new.self) c.if-not-asks.false ∙ c.given-ask.ensures) n.asks in
    absurd (refused c.is_of_group.result (IsOfGroup w c.given-ask.result.now) c.if-not-is_of_group.true c.is_of_group.ensures asks.0)

pub perform-told-requires-clause-may : goal.perform-told-requires-clause-may
perform-told-requires-clause-may g c =
    let w = c.args.script.now in
    let x = g.C.Cells.sight c.loop.cells in
    let i = c.loop.invariant in
    may_ask w x c.given-ask.result.now (subst (AreCellsOf w) (sym i.onward.frame) c.requires.cells) i.sound (passed c.is_of_group.result (IsOfGroup w c.given-ask.result.now) c.if-not-is_of_group.false c.is_of_group.ensures)

pub loop-preserved : goal.loop-preserved
loop-preserved g c =
    let w = c.args.script.now in
    let script = c.queues-queues.ensures.bounds in
    let s = g.C.Cells.sight c.args.cells.now in
    let x = g.C.Cells.sight c.loop.cells in
    let d = g.C.Cells.sight c.perform-told.new.cells in
    let i = c.loop.invariant in
    let e = c.next-asks.ensures in
    let p = c.perform-told.ensures in
    let f = c.feed.ensures in
    let a = c.next-asks.new.self in
    let ask = c.given-ask.result.now in
    let told = c.perform-told.result in
    let own = subst (λ n. OwnLines n c.loop.actor.lines) (i.number ∙ (c.requires.who ∙ sym (ap (λ (f : Sight). f.who) i.onward.frame))) i.fits.1 in
    record {
      can = tt;
      finite = tt;
      fits = (subst (FitsLines w) (sym f.lines) e.fits.0, subst (λ (n : ℕ × Lines). OwnLines n.0 n.1) (λ t. (sym f.who t, sym f.lines t)) e.fits.1);
      number = f.who ∙ (e.who ∙ i.number);
      due = λ v who. ap (λ l. lines_now v who l) f.lines ∙ (e.due v who ∙ i.due v who);
      short = λ short. i.short (e.short (f.short short));
      sound = p.sound;
      onward = onward_then w s x d i.onward p.frame (all_added w (frame_of x) x.who (shown_journal x) (shown_journal d) ask told p.left p.told);
      group = p.group ∙ i.group;
      beside = λ past start short.
          let still = f.short short in
          let b = i.beside past start (e.short still) in
          let n = at_next w script b.0 c.loop.actor a x (given_where c.next-asks.result c.next-asks.new.self) own e.due e.stands still b.1.0 in
          let asks = subst (λ o. IfSome o (λ ask. IsOfGroup w ask × IsNext w x.who record { ask = o; past = n.now } ask)) (ap (λ b. given_where b c.next-asks.new.self) c.if-not-asks.false ∙ c.given-ask.ensures) n.asks in
          let fed = at_fed w script n.now a c.feed.new.self x d ask told n.beside asks.1
          (λ performed rest stands. subst (λ o. IsSomeAnd o (λ ask. StandsWhole w x.who (and_asked ask told performed ∷ rest) c.feed.new.self)) c.given-ask.ensures (f.stands w x.who performed rest stands short))
          f.lines (f.answer short) (ap (λ (f : Sight). f.who) p.frame) p.left p.answers p.told (subst (AreCellsOf w) (sym (p.frame ∙ i.onward.frame)) c.requires.cells) p.sound in
          (fed.0, (fed.1.0, further_then past n.now fed.0 (further_then past b.0 n.now b.1.1 n.further) fed.1.1));
    }

pub given-ask-requires : goal.given-ask-requires
given-ask-requires g c = c.next-asks.ensures.given c.if-not-asks.false
