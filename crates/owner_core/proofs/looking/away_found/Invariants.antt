use Rattle.std.proofs.Common.{◌≡◌}
use Rattle.history.specs.Places.{before}
use Rattle.group_calls.specs.Owner.{is_away}
use Rattle.owner_core.proofs.looking.away_found.Given as goal

abbrev pub invariant-loop-at : goal.invariant-loop-at
invariant-loop-at l = l.away ≡ is_away (before l.at l.log.entries) l.member
