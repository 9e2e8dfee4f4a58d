use Rattle.std.proofs.Common.{◌≤◌, List, length, refl, sym, subst, arith}
use Rattle.history.specs.Places.{before}
use Rattle.history.proofs.PlaceLemmas.{before-all, before-none, before-more}
use Rattle.group_calls.specs.declared.lone.LoneItem.{LoneItem}
use Rattle.group_calls.specs.Lone.{as_history}
use Rattle.lone_device.specs.Seen.{Stands}
use Rattle.lone_device.proofs.Noting.{length_history}
use Rattle.lone_device.proofs.Walking.{item_at, length_before}
use Rattle.lone_device.proofs.walk.seen_after.Goals as goal

pub items-init : goal.items-init
items-init c =
    let made = c.args.made.now in
    subst (λ (q : List LoneItem). Stands made c.new-seen.result (as_history made q)) (sym (before-none c.args.past.now)) (c.new-seen.ensures made refl)

pub note-requires-clause-event : goal.note-requires-clause-event
note-requires-clause-event c = (item_at c.args.made.now c.args.past.now c.items.index c.item.result.now c.requires c.item.ensures).0

pub note-requires-clause-left : goal.note-requires-clause-left
note-requires-clause-left c =
    let most : c.items.index ≤ length c.args.past.now = omega arith in
    let a = length_history c.args.made.now (before c.items.index c.args.past.now) in
    let b = length_before c.args.past.now c.items.index most in
    let few = c.items.invariant.few in
    omega arith

pub items-preserved : goal.items-preserved
items-preserved c =
    let made = c.args.made.now in
    let items = c.args.past.now in
    let most : c.items.index ≤ length items = omega arith in
    subst (λ (q : List LoneItem). Stands made c.note.new.self (as_history made q)) (sym (before-more items c.items.index c.item.result.now c.item.ensures))
    (c.in_ok-note.ensures made (before c.items.index items) (sym (length_before items c.items.index most)) c.items.invariant (item_at made items c.items.index c.item.result.now c.requires c.item.ensures).1)

pub returns : goal.returns
returns c =
    let made = c.args.made.now in
    subst (λ (q : List LoneItem). Stands made c.items.seen (as_history made q)) (before-all c.args.past.now c.items.index (omega arith)) c.items.invariant
