use Rattle.std.proofs.Common.{◌≡◌}
use Rattle.history.specs.Places.{before}
use Rattle.load_run.specs.Load.{total_of}
use Rattle.load_run.proofs.reads.total_of.Given as goal

-- of the entries before the place
abbrev pub invariant-entries : goal.invariant-entries
invariant-entries l = l.total ≡ total_of (before l.place l.member.history)
