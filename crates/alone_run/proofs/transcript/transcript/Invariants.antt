use Rattle.std.proofs.Common.{drop, codes}
use Rattle.alone_run.specs.Transcript.{made_for}
use Rattle.alone_run.specs.Kept.{SoFar}
use Rattle.alone_run.proofs.transcript.transcript.Given as goal

-- the lines before the place are shown
abbrev pub invariant-lines : goal.invariant-lines
invariant-lines l = SoFar (made_for l.initial.guest.setup) l.guest (codes "guest 1\n") l.output.items (drop l.index l.script.lines) l.script.lines
