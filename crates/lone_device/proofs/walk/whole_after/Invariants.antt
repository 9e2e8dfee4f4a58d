use Rattle.history.specs.Places.{before}
use Rattle.group_calls.specs.Lone.{as_history}
use Rattle.lone_device.specs.Seen.{Stands}
use Rattle.lone_device.specs.Service.{IsSized, Holds}
use Rattle.lone_device.proofs.walk.whole_after.Given as goal

-- the events before the index were seen
abbrev pub invariant-items : goal.invariant-items
invariant-items l = record {
  seen : Stands l.made l.seen (as_history l.made (before l.index l.past));
  stored : Holds l.made l.stored (as_history l.made (before l.index l.past));
  sized : IsSized l.stored;
}
