use Rattle.std.proofs.Common.{arith, ◌≤◌, length}
use Rattle.actor_core.proofs.Boards.{member_begins}
use Rattle.actor_core.proofs.lines.finishing.Goals as goal

pub returns-then-member-guests-clause-last : goal.returns-then-member-guests-clause-last
returns-then-member-guests-clause-last c =
    let few : c.args.member ≤ length c.args.script.now.guests = omega (arith, c.if-member-guests.true, c.guests.ensures.value) in
    member_begins c.args.script.now c.args.member few
