use Rattle.std.proofs.Common.{◌≡◌}
use Rattle.history.specs.Places.{before}
use Rattle.group_calls.specs.Owner.{refusal_floor}
use Rattle.owner_core.proofs.looking.floor_found.Given as goal

abbrev pub invariant-loop-at : goal.invariant-loop-at
invariant-loop-at l = l.floor ≡ refusal_floor (before l.at l.log.entries) l.member
