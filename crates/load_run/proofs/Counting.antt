-- Counting through a history, the lines of a script, and the cells.
use Rattle.std.proofs.Common.{◌≡◌, ℕ, suc, ◌+◌, ◌-◌, ◌<◌, ◌≤◌, Bool, true, false, cond, List, [], ◌∷◌, length, Option, Some, None, refl, sym, ap, ◌∙◌, arith, drop}
use Rattle.std.specs.Prelude.{is_some}
use Rattle.std.specs.List.{slice_get}
use Rattle.std.proofs.lemmas.Option.{slice_get_within, get_or_from_slice_get}
use Rattle.std.proofs.lemmas.List.{drop_more}
use Rattle.history.specs.Look.{count}
use Rattle.history.specs.Places.{entry_at, before}
use Rattle.history.proofs.PlaceLemmas.{before-more}
use Rattle.group_calls.specs.Queue.{RingEntry, Posted, posted_by, posted}
use Rattle.group_calls.specs.MemberEntries.{MemberEntry}
use Rattle.journal.specs.Lines.{numbers}
use Rattle.journal.specs.Journals.{Journal}
use Rattle.journal.specs.Texts.{commands_in}
use Rattle.load_run.specs.Load.{bytes_of, total_of, total_in}
use Rattle.std.specs.Prelude.{sum}

-- ---- one more, or none

pub few_on : (b : Bool) (n m : ℕ) → n ≤ m → cond b (n + 1) n ≤ m + 1
few_on true n m few = omega arith
few_on false n m few = omega arith

-- ---- a history

posted-more : (e : RingEntry) (past : List RingEntry) → length (posted (e ∷ past)) ≡ cond (is_some (posted_by e)) (length (posted past) + 1) (length (posted past))
posted-more e past = go (posted_by e)
  where
    go : (o : Option Posted) → length {A = Posted} (elim o [ None ↦ posted past | Some p ↦ p ∷ posted past ]) ≡ cond (is_some o) (length (posted past) + 1) (length (posted past))
    go None = refl
    go (Some p) = omega arith

pub posted_on : (h : List RingEntry) (place n : ℕ) (e : RingEntry) → entry_at place h ≡ Some e → n ≡ length (posted (before place h)) → cond (is_some (posted_by e)) (n + 1) n ≡ length (posted (before (place + 1) h))
posted_on h place n e at is =
    ap (λ (n : ℕ). cond (is_some (posted_by e)) (n + 1) n) is ∙ sym (posted-more e (before place h)) ∙ ap (λ (h : List RingEntry). length (posted h)) (sym (before-more h place e at))

pub total_on : (h : List MemberEntry) (place n : ℕ) (e : MemberEntry) → entry_at place h ≡ Some e → n ≡ total_of (before place h) → n + sum (bytes_of e) ≡ total_of (before (place + 1) h)
total_on h place n e at is = ap (λ (n : ℕ). n + sum (bytes_of e)) is ∙ ap total_of (sym (before-more h place e at))

-- ---- a list of lines, or of others

line_at : {A : Type 0} → (lines : List A) (index : ℕ) (line : A) → slice_get lines index ≡ Some line → drop index lines ≡ line ∷ drop (index + 1) lines
line_at {A} lines index line is =
    drop_more lines index line (slice_get_within lines index line is) ∙ ap (λ (l : A). l ∷ drop (index + 1) lines) (get_or_from_slice_get lines index line line is)

pub count_on : {A : Type 0} → (passes : A → Bool) (lines : List A) (index n : ℕ) (line : A) → slice_get lines index ≡ Some line → count passes lines ≡ n + count passes (drop index lines)
    → count passes lines ≡ cond (passes line) (n + 1) n + count passes (drop (index + 1) lines)
count_on {A} passes lines index n line at is = is ∙ ap (λ (l : List A). n + count passes l) (line_at lines index line at) ∙ go (passes line)
  where
    go : (b : Bool) → n + cond b (count passes (drop (index + 1) lines) + 1) (count passes (drop (index + 1) lines)) ≡ cond b (n + 1) n + count passes (drop (index + 1) lines)
    go true = omega arith
    go false = refl

-- ---- the cells

one_less : (from index count : ℕ) → index < count → numbers from (count - index) ≡ from ∷ numbers (from + 1) (count - (index + 1))
one_less from index count less =
    let same : count - index ≡ suc (count - (index + 1)) = omega arith in
    ap (numbers from) same

none_left : (from index count : ℕ) → count ≤ index → numbers from (count - index) ≡ []
none_left from index count past =
    let none : count - index ≡ 0 = omega arith in
    ap (numbers from) none

pub commands_on : (j : Journal) (index queues n m all : ℕ) → index < queues → m ≡ length (posted (j.queue index)) → all ≡ n + commands_in j (numbers index (queues - index)) → all ≡ (n + m) + commands_in j (numbers (index + 1) (queues - (index + 1)))
commands_on j index queues n m all less is so_far =
    let more = ap (commands_in j) (one_less index index queues less) in
    omega arith

pub commands_end : (j : Journal) (index queues n all : ℕ) → queues ≤ index → all ≡ n + commands_in j (numbers index (queues - index)) → n ≡ all
commands_end j index queues n all past so_far =
    let none = ap (commands_in j) (none_left index index queues past) in
    omega arith

pub total_on_members : (j : Journal) (index members n m all : ℕ) → index < members → m ≡ total_of (j.member (index + 1)) → all ≡ n + total_in j (numbers (index + 1) (members - index))
    → all ≡ (n + m) + total_in j (numbers (index + 1 + 1) (members - (index + 1)))
total_on_members j index members n m all less is so_far =
    let more = ap (total_in j) (one_less (index + 1) index members less) in
    omega arith

pub total_end : (j : Journal) (index members n all : ℕ) → members ≤ index → all ≡ n + total_in j (numbers (index + 1) (members - index)) → n ≡ all
total_end j index members n all past so_far =
    let none = ap (total_in j) (none_left (index + 1) index members past) in
    omega arith
