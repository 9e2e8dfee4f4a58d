use Rattle.std.proofs.Common.{sym, ap, ◌∙◌, arith}
use Rattle.history.proofs.PlaceLemmas.{before-none, before-all}
use Rattle.load_run.specs.Load.{total_of}
use Rattle.load_run.proofs.Counting.{total_on}
use Rattle.load_run.proofs.reads.total_of.Goals as goal

pub entries-init : goal.entries-init
entries-init c = sym (ap total_of (before-none c.args.member.now.history))

pub entries-preserved : goal.entries-preserved
entries-preserved c = c.in_ok-total.ensures ∙ total_on c.args.member.now.history c.entries.place c.entries.total c.entry.result.now c.entry.ensures c.entries.invariant

pub returns : goal.returns
returns c = c.entries.invariant ∙ ap total_of (before-all c.args.member.now.history c.entries.place (omega arith))
