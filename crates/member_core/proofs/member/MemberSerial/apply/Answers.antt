use Rattle.std.proofs.Common.{◌≡◌, ◌∷◌, List, refl, sym, ap, ◌∙◌, subst, arith}
use Rattle.group_calls.specs.declared.member.MemberCall.{MemberCall}
use Rattle.group_calls.specs.declared.member.MemberReply.{MemberReply}
use Rattle.group_calls.specs.MemberEntries.{MemberEntry}
use Rattle.member_core.specs.Vectors.{AreSmall}
use Rattle.member_core.specs.Kept.{Keeps}
use Rattle.member_core.proofs.SmallVectors.{are_small}
use Rattle.member_core.proofs.Standing.{keeps_after}
use Rattle.member_core.proofs.member.MemberSerial.apply.Goals as goal

pub answer-requires-clause-vectors : goal.answer-requires-clause-vectors
answer-requires-clause-vectors c =
    let s = c.self.inside.state in
    subst AreSmall (sym (ap (λ d. d.registers) c.self.invariant.stands.device)) (are_small s.device.made.kind c.self.inside.log.entries)

pub invariant_of-self-2 : goal.invariant_of-self-2
invariant_of-self-2 c =
    let s = c.self.inside.state in
    let h = c.self.inside.log.entries in
    let keeps = c.self.invariant in
    let put : c.put.new.self.entries ≡ record { who = c.args.who; call = c.args.call.now; reply = c.in_ok-answer.answer.told } ∷ h =
    c.put.ensures.entries
    ∙ ap (λ (call : MemberCall). record { who = c.args.who; call = call; reply = c.in_ok-answer.answer.kept } ∷ c.reserve.new.self.entries) c.with_bytes.ensures
    ∙ ap (λ (reply : MemberReply). record { who = c.args.who; call = c.args.call.now; reply = reply } ∷ c.reserve.new.self.entries) c.in_ok-answer.ensures.kept
    ∙ ap (λ (entries : List MemberEntry). record { who = c.args.who; call = c.args.call.now; reply = c.in_ok-answer.answer.told } ∷ entries) c.reserve.ensures.entries in
    let at = c.length-at.ensures in
    let room = c.if-at-ge-HISTORY_LIMIT.false in
    subst (λ (entries : List MemberEntry). Keeps c.answer.new.self entries) (sym put)
    (keeps_after s.device.made s c.answer.new.self h c.args.who c.args.call.now c.in_ok-answer.answer.told refl keeps (omega (arith, at, room)) c.requires
    (c.in_ok-answer.ensures.told s.device.made h at keeps.stands)
    (c.in_ok-answer.ensures.stands s.device.made h c.args.who at keeps.stands))

pub returns-clause-made : goal.returns-clause-made
returns-clause-made c =
    let s = c.self.inside.state in
    ap (λ d. d.made) (c.in_ok-answer.ensures.stands s.device.made c.self.inside.log.entries c.args.who c.length-at.ensures c.self.invariant.stands).device
    ∙ ap (λ v. v.made) c.self.view_is
