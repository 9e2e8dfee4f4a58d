-- The walk over the items of a list.
use Rattle.std.proofs.Common.{◌≡◌, ℕ, ◌+◌, ◌≤◌, inl, inr, List, [], ◌∷◌, length, Some, sym, ap, ◌∙◌, subst, arith}
use Rattle.std.proofs.lemmas.Option.{none-some}
use Rattle.std.proofs.lemmas.Bool.{cases_eq}
use Rattle.history.specs.Places.{entry_at, before}
use Rattle.history.proofs.PlaceLemmas.{entry_at-in, before-all}
use Rattle.history.proofs.LegalLemmas.{before-skip, entry_at-top, entry_at-below}
use Rattle.group_calls.specs.declared.member.MemberMade.{MemberMade}
use Rattle.group_calls.specs.declared.lone.LoneItem.{LoneItem}
use Rattle.group_calls.specs.Lone.{lone_reply}
use Rattle.lone_device.specs.Past.{IsLoneEvent, AreReplies}

-- an item that is an event with the device's reply over what stood before it
abbrev pub IsItem : MemberMade → List LoneItem → ℕ → LoneItem → Type 0
IsItem made items p item = IsLoneEvent item.event × (item.reply ≡ lone_reply made (before p items) item.event)

pub item_at : (made : MemberMade) (items : List LoneItem) (p : ℕ) (item : LoneItem) → AreReplies made items → entry_at p items ≡ Some item → IsItem made items p item
item_at made [] p item replies at = absurd (none-some item at)
item_at made (x ∷ past) p item replies at =
    elim (cases_eq p (length past)) [
      | inl same ↦ subst (λ (q : List LoneItem). IsLoneEvent item.event × (item.reply ≡ lone_reply made q item.event)) (sym (before-skip x past p (omega arith) ∙ before-all past p (omega arith)))
          (subst (λ (y : LoneItem). IsLoneEvent y.event × (y.reply ≡ lone_reply made past y.event)) (entry_at-top x item past p same at) (replies.0, replies.1))
      | inr other ↦
          let below = entry_at-below x item past p other at in
          let inside = entry_at-in past p item below in
          subst (λ (q : List LoneItem). IsLoneEvent item.event × (item.reply ≡ lone_reply made q item.event)) (sym (before-skip x past p (omega arith))) (item_at made past p item replies.2 below)
    ]

pub length_before : (items : List LoneItem) (p : ℕ) → p ≤ length items → length (before p items) ≡ p
length_before [] p most = omega arith
length_before (x ∷ past) p most = elim (cases_eq p (length past + 1)) [
  | inl all ↦ ap length (before-all (x ∷ past) p (omega arith)) ∙ omega arith
  | inr fewer ↦ ap length (before-skip x past p (omega arith)) ∙ length_before past p (omega arith)
]
