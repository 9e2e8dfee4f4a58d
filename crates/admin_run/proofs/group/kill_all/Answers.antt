use Rattle.std.proofs.Common.{List, ℕ, rules}
use Rattle.group_calls.specs.declared.member.MemberCall.TheVariants.{Kill}
use Rattle.admin_run.specs.Group.{MemberCell, called, floor_after_kill}
use Rattle.admin_run.proofs.Members.{call_one, map_next}
use Rattle.admin_run.proofs.group.kill_all.Goals as goal

pub members-preserved : goal.members-preserved
members-preserved c =
    let xs : List MemberCell = c.args.members.now.items in
    let i : ℕ = c.members.index in
    let old : MemberCell = c.index_mut.result.now in
    let one = call_one (called Kill) xs c.members.members.items i old c.kill.new.member (search rules) c.members.invariant.killed (search rules) c.in_ok-kill.ensures.member in
    record {
      killed = one.0;
      floors = search (rules, one.1, map_next floor_after_kill xs i old);
    }
