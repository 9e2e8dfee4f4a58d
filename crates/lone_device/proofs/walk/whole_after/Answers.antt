use Rattle.std.proofs.Common.{◌≤◌, List, length, refl, sym, subst, arith}
use Rattle.history.specs.Places.{before}
use Rattle.history.proofs.PlaceLemmas.{before-all, before-none, before-more}
use Rattle.group_calls.specs.declared.lone.LoneItem.{LoneItem}
use Rattle.group_calls.specs.Lone.{as_history}
use Rattle.lone_device.specs.Seen.{Stands}
use Rattle.lone_device.specs.Service.{Holds}
use Rattle.lone_device.proofs.Noting.{length_history}
use Rattle.lone_device.proofs.Walking.{item_at, length_before}
use Rattle.lone_device.proofs.walk.whole_after.Goals as goal

pub items-init : goal.items-init
items-init c =
    let made = c.args.made.now in
    let none = sym (before-none c.args.past.now) in
    record {
      seen = subst (λ (q : List LoneItem). Stands made c.new-seen.result (as_history made q)) none (c.new-seen.ensures made refl);
      stored = subst (λ (q : List LoneItem). Holds made c.in_ok-stored.stored (as_history made q)) none c.in_ok-stored.ensures.holds;
      sized = c.in_ok-stored.ensures.sized;
    }

pub note-requires-in-items-clause-event : goal.note-requires-in-items-clause-event
note-requires-in-items-clause-event c = (item_at c.args.made.now c.args.past.now c.items.index c.item-item.result.now c.requires.past c.item-item.ensures).0

pub note-requires-in-items-clause-left : goal.note-requires-in-items-clause-left
note-requires-in-items-clause-left c =
    let most : c.items.index ≤ length c.args.past.now = omega arith in
    let a = length_history c.args.made.now (before c.items.index c.args.past.now) in
    let b = length_before c.args.past.now c.items.index most in
    let few = c.items.invariant.seen.few in
    omega arith

pub items-preserved : goal.items-preserved
items-preserved c =
    let made = c.args.made.now in
    let items = c.args.past.now in
    let i = c.items.index in
    let most : i ≤ length items = omega arith in
    let more = sym (before-more items i c.item-item.result.now c.item-item.ensures) in
    let replied = (item_at made items i c.item-item.result.now c.requires.past c.item-item.ensures).1 in
    record {
      seen = subst (λ (q : List LoneItem). Stands made c.note-in-items.new.self (as_history made q)) more (c.in_ok-note-2.ensures made (before i items) (sym (length_before items i most)) c.items.invariant.seen replied);
      stored = subst (λ (q : List LoneItem). Holds made c.note.new.self (as_history made q)) more (c.in_ok-note.ensures.holds made (before i items) c.items.invariant.seen c.items.invariant.stored replied);
      sized = c.in_ok-note.ensures.sized;
    }

pub returns-clause-seen : goal.returns-clause-seen
returns-clause-seen c =
    let made = c.args.made.now in
    subst (λ (q : List LoneItem). Stands made c.items.seen (as_history made q)) (before-all c.args.past.now c.items.index (omega arith)) c.items.invariant.seen

pub returns-clause-stored : goal.returns-clause-stored
returns-clause-stored c =
    let made = c.args.made.now in
    subst (λ (q : List LoneItem). Holds made c.items.stored (as_history made q)) (before-all c.args.past.now c.items.index (omega arith)) c.items.invariant.stored
