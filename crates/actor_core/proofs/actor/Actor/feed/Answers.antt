use Rattle.std.proofs.Common.{◌≡◌, ◌∷◌, ◌++◌, [], refl, sym, ap, ◌∙◌, subst}
use Rattle.std.specs.Prelude.{IfSome}
use Rattle.actor_core.proofs.Fed.{behind_answer, with_kept, with_lost}
use Rattle.actor_core.proofs.actor.Actor.feed.Goals as goal

pub returns-in-Ok-true-clause-stands : goal.returns-in-Ok-true-clause-stands
returns-in-Ok-true-clause-stands c = λ s who performed past stands short.
    let noted = c.note_told.new.self in
    let items = noted.kept.trace.items.items in
    let left = sym c.in-Ok-true.ensures.left ∙ c.in-Ok-true.field-0-test in
    behind_answer s who performed past c.args.self.now c.hear.new.self c.note_left.new.self noted _ c.args.told c.requires c.hear.ensures c.note_left.ensures.noted c.note_left.ensures.given c.note_left.ensures.left c.note_left.ensures.answers
    c.note_told.ensures.noted c.note_told.ensures.given refl refl refl refl
    (λ ask is.
    subst (λ o. IfSome o (λ a. c.add.new.self.trace.items.items ≡ items ++ record { line = noted.number; ask = a; told = c.args.told } ∷ [])) is c.add.ensures.trace
    ∙ sym (with_kept noted.number ask c.args.told items left))
    (ap (λ l. l.items.items) c.add.ensures.left) (ap (λ l. l.items.items) c.add.ensures.answers) stands short

pub returns-in-Ok-false-clause-stands : goal.returns-in-Ok-false-clause-stands
returns-in-Ok-false-clause-stands c = λ s who performed past stands short.
    let noted = c.note_told.new.self in
    let left = sym c.in-Ok-false.ensures.left ∙ c.in-Ok-false.field-0-test in
    behind_answer s who performed past c.args.self.now c.hear.new.self c.note_left.new.self noted noted c.args.told c.requires c.hear.ensures c.note_left.ensures.noted c.note_left.ensures.given c.note_left.ensures.left c.note_left.ensures.answers
    c.note_told.ensures.noted c.note_told.ensures.given refl refl refl refl
    (λ ask is. sym (with_lost noted.number ask c.args.told noted.kept.trace.items.items left))
    refl refl stands short
