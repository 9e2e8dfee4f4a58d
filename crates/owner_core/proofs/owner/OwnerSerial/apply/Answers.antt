use Rattle.std.proofs.Common.{◌∙◌, ◌∷◌, arith, refl, ap, sym, subst, List}
use Rattle.group_calls.specs.declared.owner.OwnerReply.{OwnerReply}
use Rattle.group_calls.specs.declared.owner.OwnerCall.{OwnerCall}
use Rattle.group_calls.specs.Owner.{OwnerEntry, list_in_use, owner_answer, owner_may}
use Rattle.owner_core.specs.Kept.{Keeps}
use Rattle.owner_core.proofs.owner.OwnerSerial.apply.Goals as goal

pub invariant_of-self-2 : goal.invariant_of-self-2
invariant_of-self-2 c =
    let k = c.self.invariant in
    let e = c.in_ok-push.ensures.ok
    ∙ ap (λ (q : OwnerCall). record { who = c.args.who; call = q; reply = c.copy-2.result } ∷ c.self.inside.log.entries) c.copy.ensures
    ∙ ap (λ (r : OwnerReply). record { who = c.args.who; call = c.args.call.now; reply = r } ∷ c.self.inside.log.entries) c.copy-2.ensures in
    let is = c.answer-reply.ensures.reply ∙ ap (λ v. owner_answer v.history c.args.call.now) (sym c.self.view_is) in
    let may : owner_may c.self.inside.members c.args.who c.args.call.now = subst (λ v. owner_may v.made c.args.who c.args.call.now) (sym c.self.view_is) c.requires in
    let room = c.if-at-ge-HISTORY_LIMIT.false in
    let at = c.length-at.ensures in
    subst (λ (es : List OwnerEntry). Keeps c.self.inside.members c.count_after-self-inside.result c.answer-reply.result.in_use c.note_told.new.told c.note_away.new.away c.strays_after-self-inside.result es) (sym e)
    record {
      count_is = c.count_after-self-inside.ensures c.self.inside.log.entries c.args.who c.answer-reply.result.reply k.count_is;
      in_use_is = c.answer-reply.ensures.in_use c.args.who ∙ ap (λ v. list_in_use (record { who = c.args.who; call = c.args.call.now; reply = c.answer-reply.result.reply } ∷ v.history)) (sym c.self.view_is);
      told_are = c.note_told.ensures c.self.inside.log.entries c.args.who c.answer-reply.result.reply k.told_are;
      away_are = c.note_away.ensures c.self.inside.log.entries c.args.who c.answer-reply.result.reply k.away_are;
      strays_are = c.strays_after-self-inside.ensures c.self.inside.log.entries c.args.who c.answer-reply.result.reply k.strays_are;
      legal = (is, refl, may, k.legal);
      most = omega (arith, room, at);
    }

pub answer-reply-requires : goal.answer-reply-requires
answer-reply-requires c = (c.args.who, c.requires)
