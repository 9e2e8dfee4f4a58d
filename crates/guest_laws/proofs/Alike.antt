-- Two own histories with the same events are read alike.
use Rattle.std.proofs.Common.{◌≡◌, ℕ, Bool, List, [], ◌∷◌, map, filter, refl, sym, ap, ◌∙◌, subst}
use Rattle.group_calls.specs.declared.lone.LoneEvent.{LoneEvent}
use Rattle.group_calls.specs.declared.lone.LoneItem.{LoneItem}
use Rattle.guest_lines.specs.Lines.{lone_words}
use Rattle.board_script.specs.Script.{Whole}
use Rattle.board_script.specs.Bounds.{IsScript}
use Rattle.journal.specs.Lines.{made_of}
use Rattle.journal.specs.Journals.{Journal, IsLegalJournal, IsGuestOf}
use Rattle.journal.specs.Heads.{LineEvent}
use Rattle.journal_laws.proofs.Parts.{same_head, same_tail}
use Rattle.guest_laws.specs.Apart.{own_events}
use Rattle.guest_laws.specs.Reads.{OwnItem, marked, guests_own, own_story, ShowReplies, ReadsOwn, ShowSame}
use Rattle.guest_laws.proofs.Apart.{guests_apart}
use Rattle.guest_laws.proofs.Ranks.{marked_own}

abbrev marks : List OwnItem → List (Bool × LoneEvent)
marks xs = map (λ x. (x.guests, x.item.event)) xs

abbrev items : List OwnItem → List LoneItem
items xs = map (λ x. x.item) xs

events_of : (xs : List OwnItem) → map (λ y. y.1) (marks xs) ≡ map (λ item. item.event) (items xs)
events_of [] = refl
events_of (x ∷ xs) = ap (λ l. x.item.event ∷ l) (events_of xs)

-- marks and items are all that is told
same_marked : (xs ys : List OwnItem) → marks xs ≡ marks ys → items xs ≡ items ys → xs ≡ ys
same_marked [] [] m is = refl
same_marked [] (y ∷ ys) m is = absurd (cc)
same_marked (x ∷ xs) [] m is = absurd (cc)
same_marked (x ∷ xs) (y ∷ ys) m is =
    let mark : x.guests ≡ y.guests = ap (λ (z : Bool × LoneEvent). z.0) (same_head _ _ _ _ m) in
    let item : x.item ≡ y.item = same_head _ _ _ _ is in
    let rest = same_marked xs ys (same_tail _ _ _ _ m) (same_tail _ _ _ _ is) in
    λ i. record { guests = mark i; item = item i } ∷ rest i

show_same : (lines others : List LineEvent) (xs : List LoneItem) → ShowReplies lines xs → ShowReplies others xs → ShowSame lines others
show_same [] [] xs a b = tt
show_same [] (k ∷ others) [] a b = absurd b
show_same [] (k ∷ others) (x ∷ xs) a b = absurd a
show_same (l ∷ lines) [] [] a b = absurd a
show_same (l ∷ lines) [] (x ∷ xs) a b = absurd b
show_same (l ∷ lines) (k ∷ others) [] a b = absurd a
show_same (l ∷ lines) (k ∷ others) (x ∷ xs) a b = (
  a.0 ∙ sym b.0,
  λ what sure_here sure_there. a.1 sure_here ∙ (ap (λ w. lone_words w x.reply) what ∙ sym (b.1 sure_there)),
  show_same lines others xs a.2 b.2,
)

pub story_read : (s t : Whole) (j i : Journal) → IsScript s → IsScript t → IsLegalJournal s j → IsLegalJournal t i → (g : ℕ) → IsGuestOf s g → IsGuestOf t g → made_of s g ≡ made_of t g
    → own_story g (j.member g) ≡ own_story g (i.member g) → (a : ReadsOwn s j g) (b : ReadsOwn t i g) → ShowSame a.eventful b.eventful
story_read s t j i s_is t_is j_legal i_legal g in_s in_t made same a b =
    let h = j.member g in
    let k = i.member g in
    let events_here : map (λ y. y.1) (own_story g h) ≡ own_events g h = events_of (marked g h) ∙ ap (λ l. map (λ item. item.event) l) (marked_own g h) in
    let events_there : map (λ y. y.1) (own_story g k) ≡ own_events g k = events_of (marked g k) ∙ ap (λ l. map (λ item. item.event) l) (marked_own g k) in
    let events_same : own_events g h ≡ own_events g k = sym events_here ∙ (ap (λ l. map (λ y. y.1) l) same ∙ events_there) in
    let own_same = (guests_apart s t j i s_is t_is j_legal i_legal g in_s in_t made events_same).own in
    let whole : marked g h ≡ marked g k = same_marked (marked g h) (marked g k) same (marked_own g h ∙ (own_same ∙ sym (marked_own g k))) in
    let mine : guests_own g h ≡ guests_own g k = ap (λ l. map (λ x. x.item) (filter (λ x. x.guests) l)) whole in
    show_same a.eventful b.eventful (guests_own g k) (subst (ShowReplies a.eventful) mine a.shown) b.shown
