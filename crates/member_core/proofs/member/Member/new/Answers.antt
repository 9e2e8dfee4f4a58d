use Rattle.std.proofs.Common.{List, [], sym, subst}
use Rattle.group_calls.specs.MemberEntries.{MemberEntry}
use Rattle.member_core.specs.declared.state.State.{State}
use Rattle.member_core.specs.Kept.{Keeps}
use Rattle.member_core.proofs.Standing.{keeps_new}
use Rattle.member_core.proofs.member.Member.new.Goals as goal

pub invariant_of-result : goal.invariant_of-result
invariant_of-result c =
    let d = c.in_ok-device.ensures in
    let start = keeps_new (record { id = c.args.id; pages = c.args.pages; kind = c.args.kind }) c.in_ok-device.device d.made d.registers d.memory d.disk d.waiting in
    subst (λ (h : List MemberEntry). Keeps c.new-2.result h) (sym c.new-3.ensures) (subst (λ (s : State). Keeps s []) (sym c.new-2.ensures) start)
