-- The summary of what each guest performed, part by part.
use Rattle.std.proofs.Common.{◌≡◌, ℕ, zero, suc, ◌+◌, ◌<◌, ◌≤◌, cond, List, [], ◌∷◌, Option, sum, refl, arith}
use Rattle.history.specs.Look.{count}
use Rattle.vfio_driver.specs.declared.access.Answer.{Answer}
use Rattle.board_script.specs.declared.script.ActorLine.{ActorLine}
use Rattle.board_script.specs.declared.script.What.{What}
use Rattle.board_script.specs.declared.script.What.TheVariants as what
use Rattle.board_script.specs.Script.{Whole}
use Rattle.journal.specs.Lines.{Line, counts_members, brings_up, performs, empties, finishes, numbers, script_lines}
use Rattle.journal.specs.Performing.{Performed}
use Rattle.journal.specs.Answers.{answer_of}
use Rattle.journal.specs.Journals.{Journal, IsLegalJournal}
use Rattle.journal.specs.Texts.{Tally, bytes_read, and_what, tally_of, tally_all}
use Rattle.load_run.specs.Load.{is_read, is_write, total_of, total_in}
use Rattle.load_laws.proofs.Counts.{on_line, passed, guest_counts, over}

-- ---- the bytes that a guest read

abbrev pub line_sum : What → Option Answer → ℕ
line_sum (what.BarRead offset count queue once) answer = sum (bytes_read count answer)
line_sum _ answer = 0

abbrev pub sum_of : Whole → ℕ → List Performed → ℕ
sum_of s g [] = 0
sum_of s g (p ∷ past) = sum_of s g past + elim p.line [ performs line ↦ line_sum line.what (answer_of s g past p) | _ ↦ 0 ]

-- ---- a line

abbrev with_line : Line → Option Answer → Tally → Tally
with_line l answer t = elim l [ performs line ↦ and_what line.what answer t | _ ↦ t ]

what_reads : (line : ActorLine) (w : What) (answer : Option Answer) (t : Tally) (n m : ℕ) → t.reads ≡ n + m → (and_what w answer t).reads ≡ cond (is_read (record line { what = w })) (n + 1) n + m
what_reads line (what.BarRead offset count queue once) answer t n m is = omega (arith, is)
what_reads line _ answer t n m is = is

what_writes : (line : ActorLine) (w : What) (answer : Option Answer) (t : Tally) (n m : ℕ) → t.writes ≡ n + m → (and_what w answer t).writes ≡ cond (is_write (record line { what = w })) (n + 1) n + m
what_writes line (what.BarWrite offset bytes queue once) answer t n m is = omega (arith, is)
what_writes line _ answer t n m is = is

what_total : (w : What) (answer : Option Answer) (t : Tally) (n m : ℕ) → t.total ≡ n + m → (and_what w answer t).total ≡ n + line_sum w answer + m
what_total (what.BarRead offset count queue once) answer t n m is = omega (arith, is)
what_total _ answer t n m is = omega (arith, is)

line_reads : (l : Line) (answer : Option Answer) (t : Tally) (n m : ℕ) → t.reads ≡ n + m → (with_line l answer t).reads ≡ cond (on_line is_read l) (n + 1) n + m
line_reads (performs line) answer t n m is = what_reads line line.what answer t n m is
line_reads counts_members answer t n m is = is
line_reads (brings_up member) answer t n m is = is
line_reads (empties queue) answer t n m is = is
line_reads (finishes member queue) answer t n m is = is

line_writes : (l : Line) (answer : Option Answer) (t : Tally) (n m : ℕ) → t.writes ≡ n + m → (with_line l answer t).writes ≡ cond (on_line is_write l) (n + 1) n + m
line_writes (performs line) answer t n m is = what_writes line line.what answer t n m is
line_writes counts_members answer t n m is = is
line_writes (brings_up member) answer t n m is = is
line_writes (empties queue) answer t n m is = is
line_writes (finishes member queue) answer t n m is = is

line_total : (l : Line) (answer : Option Answer) (t : Tally) (n m : ℕ) → t.total ≡ n + m
    → (with_line l answer t).total ≡ n + elim l [ performs line ↦ line_sum line.what answer | _ ↦ 0 ] + m
line_total (performs line) answer t n m is = what_total line.what answer t n m is
line_total counts_members answer t n m is = omega (arith, is)
line_total (brings_up member) answer t n m is = omega (arith, is)
line_total (empties queue) answer t n m is = omega (arith, is)
line_total (finishes member queue) answer t n m is = omega (arith, is)

-- ---- a guest's lines

reads_of : (s : Whole) (g : ℕ) (past : List Performed) (t : Tally) → (tally_of s g past t).reads ≡ passed is_read past + t.reads
reads_of s g [] t = omega arith
reads_of s g (p ∷ past) t = line_reads p.line (answer_of s g past p) (tally_of s g past t) (passed is_read past) t.reads (reads_of s g past t)

writes_of : (s : Whole) (g : ℕ) (past : List Performed) (t : Tally) → (tally_of s g past t).writes ≡ passed is_write past + t.writes
writes_of s g [] t = omega arith
writes_of s g (p ∷ past) t = line_writes p.line (answer_of s g past p) (tally_of s g past t) (passed is_write past) t.writes (writes_of s g past t)

total_is : (s : Whole) (g : ℕ) (past : List Performed) (t : Tally) → (tally_of s g past t).total ≡ sum_of s g past + t.total
total_is s g [] t = omega arith
total_is s g (p ∷ past) t = line_total p.line (answer_of s g past p) (tally_of s g past t) (sum_of s g past) t.total (total_is s g past t)

-- ---- all guests

module _ (s : Whole) (j : Journal) (legal : IsLegalJournal s j) where
  pub all_reads : (from most : ℕ) → 1 ≤ from → (tally_all s j (numbers from most)).reads ≡ over (λ g. count is_read (script_lines s g)) (numbers from most)
  all_reads from zero low = refl
  all_reads from (suc most) low =
      let here = reads_of s from (j.past from) (tally_all s j (numbers (from + 1) most)) in
      let lines = guest_counts s j legal is_read from low in
      let rest = all_reads (from + 1) most (omega arith) in
      omega (arith, here, lines, rest)

  pub all_writes : (from most : ℕ) → 1 ≤ from → (tally_all s j (numbers from most)).writes ≡ over (λ g. count is_write (script_lines s g)) (numbers from most)
  all_writes from zero low = refl
  all_writes from (suc most) low =
      let here = writes_of s from (j.past from) (tally_all s j (numbers (from + 1) most)) in
      let lines = guest_counts s j legal is_write from low in
      let rest = all_writes (from + 1) most (omega arith) in
      omega (arith, here, lines, rest)

  pub all_total : (from most : ℕ) → ((g : ℕ) → from ≤ g → g < from + most → sum_of s g (j.past g) ≡ total_of (j.member g)) → (tally_all s j (numbers from most)).total ≡ total_in j (numbers from most)
  all_total from zero each = refl
  all_total from (suc most) each =
      let here = total_is s from (j.past from) (tally_all s j (numbers (from + 1) most)) in
      let member = each from (omega arith) (omega arith) in
      let rest = all_total (from + 1) most (λ g low high. each g (omega (arith, low)) (omega (arith, high))) in
      omega (arith, here, member, rest)
