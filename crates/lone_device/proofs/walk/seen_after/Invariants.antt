use Rattle.history.specs.Places.{before}
use Rattle.group_calls.specs.Lone.{as_history}
use Rattle.lone_device.specs.Seen.{Stands}
use Rattle.lone_device.proofs.walk.seen_after.Given as goal

-- the events before the index were seen
abbrev pub invariant-items : goal.invariant-items
invariant-items l = Stands l.made l.seen (as_history l.made (before l.index l.past))
