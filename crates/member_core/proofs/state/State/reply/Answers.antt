use Rattle.std.proofs.Common.{◌≡◌, Bool, true, false, refl, sym, ◌∙◌, subst}
use Rattle.std.specs.Prelude.{◌&&◌, not, is_some, unwrap_or, IfOk, if◌then◌else◌}
use Rattle.group_calls.specs.declared.member.MemberReply.TheVariants.{Gone}
use Rattle.group_calls.specs.Member.{is_memory_call}
use Rattle.member_core.specs.Kept.{living_reply}
use Rattle.member_core.proofs.state.State.reply.Goals.{in_default-via-in-Some+else-not-is_memory_call, in_default-via-in_default}
use Rattle.member_core.proofs.state.State.reply.Goals as goal

pub returns-in_default-clause-told : goal.returns-in_default-clause-told
returns-in_default-clause-told c = λ f told.
    let s = c.args.self.now in
    let lives : (is_some s.killed && not (is_memory_call c.args.call.now)) ≡ false = elim c.in_default.branch [
      | in_default-via-in-Some+else-not-is_memory_call w ↦
          (let outlives : is_memory_call c.args.call.now ≡ true = sym w.is_memory_call.ensures ∙ w.if-not-is_memory_call.false in rw (w.in-Some.is, outlives) refl)
      | in_default-via-in_default w ↦ rw w.in_default.is refl
    ] in
    subst (λ (gone : Bool). IfOk c.living_answer.result (λ answer. answer.told ≡ (if gone then Gone (unwrap_or s.killed 0) else living_reply s f c.args.call.now))) (sym lives) (c.living_answer.ensures.told f told)
