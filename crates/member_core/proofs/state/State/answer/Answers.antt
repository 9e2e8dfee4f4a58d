use Rattle.std.proofs.Common.{sym, ◌∙◌, subst}
use Rattle.std.specs.Prelude.{is_some, unwrap_or}
use Rattle.group_calls.specs.Facts.{facts}
use Rattle.member_core.specs.Vectors.{HasSmallVector}
use Rattle.member_core.proofs.Telling.{told_by, told_by_are_told, told_by_small, facts_are_told, small_answer, answer_of}
use Rattle.member_core.proofs.Standing.{stands_after}
use Rattle.member_core.proofs.state.State.answer.Goals as goal

pub note-requires-clause-vector : goal.note-requires-clause-vector
note-requires-clause-vector c =
    let s = c.args.self.now in
    subst HasSmallVector (sym (c.in_ok-answer.ensures.told (told_by s) (told_by_are_told s))) (small_answer s.device.made (is_some s.killed) (unwrap_or s.killed 0) (told_by s) s.device.memory s.device.disk c.args.call.now (told_by_small s c.requires.vectors))

pub returns-clause-told : goal.returns-clause-told
returns-clause-told c = λ made h at stands.
    c.in_ok-answer.ensures.told (facts made h) (facts_are_told made c.args.self.now h stands) ∙ answer_of made c.args.self.now h c.args.call.now stands

pub returns-clause-stands : goal.returns-clause-stands
returns-clause-stands c = λ made h who at stands.
    let s = c.args.self.now in
    let told = facts_are_told made s h stands in
    stands_after made s c.reply.new.self c.note.new.self h who c.args.call.now c.in_ok-answer.answer.told c.args.at c.selected-selected.result
    stands at c.selected-selected.ensures (c.in_ok-answer.ensures.told (facts made h) told ∙ answer_of made s h c.args.call.now stands)
    (c.in_ok-answer.ensures.left (facts made h) told) (c.note.ensures who)
