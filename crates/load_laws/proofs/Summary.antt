-- The summary over lines and histories is the summary of what each guest performed.
use Rattle.std.proofs.Common.{◌≡◌, ◌≤◌, true, get_or, sym, ap, ◌∙◌, arith, true≢false}
use Rattle.std.specs.List.{All}
use Rattle.board_script.specs.declared.script.ActorLine.{ActorLine}
use Rattle.board_script.specs.declared.script.What.{What}
use Rattle.board_script.specs.declared.script.What.TheVariants as what
use Rattle.board_script.specs.Script.{Whole}
use Rattle.board_script.specs.Bounds.{IsScript, MayAsk}
use Rattle.journal.specs.Lines.{members_of, numbers}
use Rattle.journal.specs.Journals.{Journal, IsLegalJournal}
use Rattle.journal.specs.Texts.{Tally, commands_in, tally_all, tally_lines, summary}
use Rattle.load_run.specs.Load.{is_read, is_write, tally_in, load_summary}
use Rattle.load_laws.specs.Summed.{IsSummed}
use Rattle.load_laws.proofs.Counts.{over_guests}
use Rattle.load_laws.proofs.Tallies.{all_reads, all_writes, all_total}
use Rattle.load_laws.proofs.Totals.{sum_is_total}

-- ---- reads and writes are guests' lines

reader_is_guest : (s : Whole) (line : ActorLine) (w : What) → MayAsk s.board.queues s.board.workers s.guests line.who w → is_read (record line { what = w }) ≡ true → (1 ≤ line.who) × (line.who ≤ members_of s)
reader_is_guest s line (what.BarRead offset count queue once) may is = (may.0.low, may.0.exists)
reader_is_guest s line _ may is = absurd (true≢false (sym is))

writer_is_guest : (s : Whole) (line : ActorLine) (w : What) → MayAsk s.board.queues s.board.workers s.guests line.who w → is_write (record line { what = w }) ≡ true → (1 ≤ line.who) × (line.who ≤ members_of s)
writer_is_guest s line (what.BarWrite offset bytes queue once) may is = (may.0.low, may.0.exists)
writer_is_guest s line _ may is = absurd (true≢false (sym is))

-- ---- the tally

module _ (s : Whole) (j : Journal) (script : IsScript s) (legal : IsLegalJournal s j) (summed : All (λ line. IsSummed line.what) s.lines) where
  abbrev tally : Tally
  tally = tally_all s j (numbers 1 (members_of s))

  same_reads : (tally_in s j).reads ≡ tally.reads
  same_reads =
      sym (all_reads s j legal 1 (members_of s) (omega arith)
      ∙ over_guests is_read (members_of s) s.lines (λ k d low. reader_is_guest s (get_or s.lines k d) (get_or s.lines k d).what (script.lines k d low)))

  same_writes : (tally_in s j).writes ≡ tally.writes
  same_writes =
      sym (all_writes s j legal 1 (members_of s) (omega arith)
      ∙ over_guests is_write (members_of s) s.lines (λ k d low. writer_is_guest s (get_or s.lines k d) (get_or s.lines k d).what (script.lines k d low)))

  same_total : (tally_in s j).total ≡ tally.total
  same_total = sym (all_total s j legal 1 (members_of s) (λ g low high. sum_is_total s j script legal summed g (low, omega (arith, high))))

  pub same_summary : load_summary s j ≡ summary s j
  same_summary = ap (tally_lines (commands_in j (numbers 0 s.board.queues))) (λ i. record { reads = same_reads i; writes = same_writes i; total = same_total i })
