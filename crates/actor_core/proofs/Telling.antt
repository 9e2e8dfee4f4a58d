-- What a guest is shown, behind a line that begins and behind one answer more.
use Rattle.std.proofs.Common.{◌≡◌, ℕ, ◌≤◌, zero, suc, Bool, true, false, List, [], ◌∷◌, ◌++◌, Option, None, Some, refl, sym, ap, ◌∙◌, subst, arith, append-nil, append_assoc, if◌then◌else◌}
use Rattle.std.specs.Prelude.{◌==◌, filter, is_none, option_map}
use Rattle.std.specs.List.{slice_get}
use Rattle.std.proofs.lemmas.Bool.Decides.{nat_tests}
use Rattle.group_calls.specs.declared.ask.Ask.{Ask}
use Rattle.group_calls.specs.declared.ask.Told.{Told}
use Rattle.group_calls.specs.Asks.{Exchange}
use Rattle.serve_machine.specs.declared.stage.Stage.TheVariants.{Popping, Judging, Acting, Completing, Ended}
use Rattle.vfio_driver.specs.declared.access.Answer.{Answer}
use Rattle.vfio_driver.specs.declared.access.Answer.TheVariants.{RefusedFull}
use Rattle.vfio_driver.specs.declared.access.Stage.{Stage as AccessStage}
use Rattle.vfio_driver.specs.declared.access.Known.{Known}
use Rattle.vfio_driver.specs.declared.access.After.{After}
use Rattle.vfio_driver.specs.Access.{after as access_turned}
use Rattle.guest_lines.specs.Lines.{outside_words}
use Rattle.board_script.specs.Bounds.{MayAsk}
use Rattle.board_script.specs.declared.script.Setup.{Setup}
use Rattle.board_script.specs.declared.script.ActorLine.{ActorLine}
use Rattle.board_script.specs.declared.script.What.{What}
use Rattle.board_script.specs.declared.script.What.TheVariants as what
use Rattle.board_script.specs.Script.{Whole}
use Rattle.journal.specs.Lines.{Line, counts_members, brings_up, performs, empties as empties_line, finishes, kind_of, lines_of, script_lines}
use Rattle.journal.specs.Knowing.{knows}
use Rattle.journal.specs.Doing.{Doing, asks, accesses, brings, serves, empties, hosts, steps, done, raised, after, answered, access_goes_on}
use Rattle.journal.specs.Performing.{Performed, all_asked, io_before, what_begins, begins, doing, is_over}
use Rattle.journal.specs.Answers.{line_words}
use Rattle.journal.specs.Texts.{answer_line, answer_lines}
use Rattle.journal.specs.Settling.{has_ended}
use Rattle.actor_core.specs.declared.items.AnswerItem.{AnswerItem}
use Rattle.actor_core.specs.declared.outside.Outside.{Outside}
use Rattle.actor_core.specs.declared.performer.Performer.{Performer}
use Rattle.actor_core.specs.Kept.{number_of}
use Rattle.actor_core.specs.Tasks.{is_loose}
use Rattle.actor_core.specs.Performers.{known_by, now_doing, asks_next, ending_by}
use Rattle.actor_core.specs.Stands.{Stands}
use Rattle.actor_core.specs.Actors.{begun}
use Rattle.actor_core.specs.Shown.{answer_text, answers_text, host_words, ending_text, text_where}
use Rattle.actor_core.specs.Answered.{ended_of, IsOutside, is_guests}
use Rattle.actor_core.proofs.Unread.{asks_own}
use Rattle.actor_core.specs.declared.lines.Line.{Line as CodeLine}
use Rattle.actor_core.specs.declared.lines.Line.TheVariants as code
use Rattle.actor_core.specs.Boards.{IsOwnLine, IsLineOf, line_of}
use Rattle.actor_core.proofs.Upcoming.{line_at}
use Rattle.actor_core.proofs.Resting.{rests}
use Rattle.actor_core.proofs.Ending.{line_shown}

-- ---- one answer more

pub one_more_text : (items : List AnswerItem) (item : AnswerItem) → answers_text (items ++ item ∷ []) ≡ answers_text items ++ answer_text item
one_more_text [] item = append-nil (answer_text item)
one_more_text (x ∷ items) item = ap (λ l. answer_text x ++ l) (one_more_text items item) ∙ sym (append_assoc (answer_text x) (answers_text items) (answer_text item))

-- ---- a guest's lines are one ask or an access

pub guest_begins : (s : Whole) (who queues workers : ℕ) (guests : List Setup) (past : List Performed) (asked : What) → who ≤ 16 → MayAsk queues workers guests who asked → is_guests (what_begins s who past asked) ≡ true
guest_begins s who queues workers guests past (what.BarRead offset count queue once) few may = refl
guest_begins s who queues workers guests past (what.BarWrite offset bytes queue once) few may = refl
guest_begins s who queues workers guests past (what.Mem addr bytes) few may = refl
guest_begins s who queues workers guests past (what.Peek addr count) few may = refl
guest_begins s who queues workers guests past (what.Msix on) few may = refl
guest_begins s who queues workers guests past (what.Io on) few may = refl
guest_begins s who queues workers guests past (what.Cfg offset count) few may = refl
guest_begins s who queues workers guests past what.Irqs few may = refl
guest_begins s who queues workers guests past (what.Poll queue) few may = refl
guest_begins s who queues workers guests past (what.Serve queue) few may = let low = may.0.low in absurd (omega arith)
guest_begins s who queues workers guests past (what.WorkerPoll member queue) few may = refl
guest_begins s who queues workers guests past (what.Frame member frame) few may = let host = may.0 in absurd (omega arith)
guest_begins s who queues workers guests past (what.Flr member) few may = let host = may.0 in absurd (omega arith)
guest_begins s who queues workers guests past (what.Disable member) few may = let host = may.0 in absurd (omega arith)
guest_begins s who queues workers guests past what.Reset few may = absurd (omega (arith, may))

answered_guests : (queue : ℕ) (once : Bool) (access : AccessStage) (answer : Answer) → is_guests (answered queue once access answer) ≡ true
answered_guests queue true access (RefusedFull full at) = refl
answered_guests queue false access (RefusedFull full at) = refl
answered_guests queue once access _ = refl

access_guests : (queue : ℕ) (once : Bool) (access stage : AccessStage) (known : Known) (answer : Option Answer) (told : Told) → is_guests (access_goes_on queue once access (record { stage = stage; known = known; answer = answer }) told) ≡ true
access_guests queue once access stage known None told = refl
access_guests queue once access stage known (Some answer) told = answered_guests queue once access answer

pub guest_goes_on : (s : Whole) (known : Known) (doing : Doing) (told : Told) → is_guests doing ≡ true → is_guests (after s known doing told) ≡ true
guest_goes_on s known (asks ask) told mine = refl
guest_goes_on s known done told mine = refl
guest_goes_on s known (accesses queue once access Ended) told mine =
    let t : After = access_turned known access told in access_guests queue once access t.stage t.known t.answer told
guest_goes_on s known (accesses queue once access Popping) told mine = refl
guest_goes_on s known (accesses queue once access (Judging command bytes)) told mine = refl
guest_goes_on s known (accesses queue once access (Acting command to call)) told mine = refl
guest_goes_on s known (accesses queue once access (Completing seq bytes floor)) told mine = refl
guest_goes_on s known (brings member way service) told mine = absurd (cc)
guest_goes_on s known (serves queue service) told mine = absurd (cc)
guest_goes_on s known (empties queue service) told mine = absurd (cc)
guest_goes_on s known (hosts going) told mine = absurd (cc)
guest_goes_on s known (steps member queue left) told mine = absurd (cc)

-- ---- the lines are the actor's own

one_passes : {X : Type 0} (p : X → Bool) (xs : List X) (y : X) (n : ℕ) (x : X) (b : Bool) → p y ≡ b → ((k : ℕ) → slice_get (filter p xs) k ≡ Some x → p x ≡ true) → slice_get (if b then y ∷ filter p xs else filter p xs) n ≡ Some x → p x ≡ true
one_passes p xs y zero x true e rest is = let same : y ≡ x = cc in ap p (sym same) ∙ e
one_passes p xs y (suc n) x true e rest is = rest n is
one_passes p xs y n x false e rest is = rest n is

passes : {X : Type 0} (p : X → Bool) (xs : List X) (n : ℕ) (x : X) → slice_get (filter p xs) n ≡ Some x → p x ≡ true
passes p [] n x is = absurd (cc)
passes p (y ∷ xs) n x is = one_passes p xs y n x (p y) refl (λ k h. passes p xs k x h) is

same_number : (m n : ℕ) → (m == n) ≡ true → m ≡ n
same_number m n same = grind (arith, nat_tests)

own_script_line : (s : Whole) (who n : ℕ) (line : Line) → option_map performs (slice_get (script_lines s who) n) ≡ Some line → IsOwnLine who line
own_script_line s who n line is = by (slice_get (script_lines s who) n) refl is
  where
    by : (o : Option ActorLine) → slice_get (script_lines s who) n ≡ o → option_map performs o ≡ Some line → IsOwnLine who line
    by None found e = absurd (cc)
    by (Some at) found e = let same : performs at ≡ line = cc in subst (IsOwnLine who) same (same_number at.who who (passes (λ l. l.who == who) s.lines n at found))

-- a line of a guest is its own
pub own_line_of : (s : Whole) (who n : ℕ) (line : Line) → 1 ≤ who → slice_get (lines_of s who) n ≡ Some line → IsOwnLine who line
own_line_of s who n line some is = own_script_line s who n line (sym (line_at s who n some) ∙ is)

pub own_taken : (s : Whole) (who : ℕ) (taken : CodeLine) (begins : Line) → IsLineOf who taken → line_of s taken ≡ Some begins → (1 ≤ who → IsOwnLine who begins) → IsOwnLine who begins
own_taken s who (code.Performs index) begins own is script = script own
own_taken s who code.CountsMembers begins own is script = let e : counts_members ≡ begins = cc in subst (IsOwnLine who) e tt
own_taken s who (code.BringsUp member) begins own is script = let e : brings_up member ≡ begins = cc in subst (IsOwnLine who) e tt
own_taken s who (code.Empties queue) begins own is script = let e : empties_line queue ≡ begins = cc in subst (IsOwnLine who) e tt
own_taken s who (code.Finishes member queue) begins own is script = let e : finishes member queue ≡ begins = cc in subst (IsOwnLine who) e tt
own_taken s who code.Ends begins own is script = absurd (cc)

-- ---- by what has ended

abbrev where_over : Whole → ℕ → List Performed → Performed → Bool → List ℕ
where_over s who past p true = answer_lines s who past ++ answer_line s who past p
where_over s who past p false = answer_lines s who past

over_lines : (s : Whole) (who : ℕ) (past : List Performed) (p : Performed) (b : Bool) → answer_lines s who (if b then p ∷ past else past) ≡ where_over s who past p b
over_lines s who past p true = refl
over_lines s who past p false = refl

pub ended_lines : (s : Whole) (who : ℕ) (past : List Performed) (p : Performed) → answer_lines s who (ended_of s who (p ∷ past)) ≡ where_over s who past p (is_over s who past p)
ended_lines s who past p = over_lines s who past p (is_over s who past p)

pub all_ended : (s : Whole) (who : ℕ) (past : List Performed) → has_ended s who past ≡ true → ended_of s who past ≡ past
all_ended s who [] over = refl
all_ended s who (p ∷ past) over = ap (λ b. if b then p ∷ past else past) over

with_words : (s : Whole) (who : ℕ) (past : List Performed) (line : ActorLine) (asked : List Exchange) (b : Bool) (shown : List ℕ)
    → shown ≡ text_where b line.number (line_words s who past line.what (record { line = performs line; asked = asked })) → answer_lines s who past ++ shown ≡ where_over s who past (record { line = performs line; asked = asked }) b
with_words s who past line asked true shown is = ap (λ l. answer_lines s who past ++ l) is
with_words s who past line asked false shown is = ap (λ l. answer_lines s who past ++ l) is ∙ append-nil (answer_lines s who past)

-- ---- behind a line that begins

begun_text_at : (s : Whole) (who : ℕ) (past : List Performed) (old new : Performer) (line : Line) (number : ℕ) (host : Outside) (text : List ℕ) → Stands s who past old → Stands s who (begun line ∷ past) new → asks_next old ≡ None
    → number ≡ number_of line → IsOutside s who (begun line ∷ past) host → text ≡ answer_lines s who (ended_of s who past)
    → text ++ text_where (is_none (asks_next new)) number (host_words host) ≡ answer_lines s who (ended_of s who (begun line ∷ past))
begun_text_at s who past old new (performs line) number host text before behind over number_is outside is =
    let ended = all_ended s who past (sym (rests s who past old before) ∙ ap is_none over) in
    ap (λ l. l ++ text_where (is_none (asks_next new)) number (host_words host)) (is ∙ ap (answer_lines s who) ended)
    ∙ ap (λ b. answer_lines s who past ++ text_where b number (host_words host)) (rests s who (begun (performs line) ∷ past) new behind)
    ∙ with_words s who past line [] (is_over s who past (begun (performs line))) (text_where (is_over s who past (begun (performs line))) number (host_words host))
    (ap (λ n. text_where (is_over s who past (begun (performs line))) n (host_words host)) number_is ∙ ap (text_where (is_over s who past (begun (performs line))) line.number) outside)
    ∙ sym (ended_lines s who past (begun (performs line)))
begun_text_at s who past old new counts_members number host text before behind over number_is outside is = absurd outside
begun_text_at s who past old new (brings_up member) number host text before behind over number_is outside is = absurd outside
begun_text_at s who past old new (empties_line queue) number host text before behind over number_is outside is = absurd outside
begun_text_at s who past old new (finishes member queue) number host text before behind over number_is outside is = absurd outside

pub begun_text : (s : Whole) (who : ℕ) (past : List Performed) (old new : Performer) (line : Line) (number : ℕ) (host : Outside) (text shown : List ℕ) → Stands s who past old → Stands s who (begun line ∷ past) new → asks_next old ≡ None
    → number ≡ number_of line → IsOutside s who (begun line ∷ past) host → text ≡ answer_lines s who (ended_of s who past) → shown ≡ text ++ text_where (is_none (asks_next new)) number (host_words host)
    → shown ≡ answer_lines s who (ended_of s who (begun line ∷ past))
begun_text s who past old new line number host text shown before behind over number_is outside is added =
    added ∙ begun_text_at s who past old new line number host text before behind over number_is outside is

-- ---- behind one answer more

module _ (s : Whole) (who : ℕ) (past : List Performed) (old : Performer) (ask : Ask) (told : Told) (asked : List Exchange) (host : Outside) (text : List ℕ) where
  fed_text_of : (line : ActorLine) (number : ℕ) → Stands s who (record { line = performs line; asked = asked } ∷ past) old → asks_next old ≡ Some ask → is_loose (now_doing old) ≡ false
      → is_guests (doing s who past (performs line) asked) ≡ true → number ≡ line.number → host_words host ≡ outside_words (kind_of s who) (io_before past) line.what → 1 ≤ who
      → text ≡ answer_lines s who (ended_of s who (record { line = performs line; asked = asked } ∷ past))
      → text ++ ending_text number host told (ending_by old.driver.known (now_doing old) ask told) ≡ answer_lines s who (ended_of s who (record { line = performs line; asked = (ask, told) ∷ asked } ∷ past))
  fed_text_of line number stands next held mine number_is outside guest is =
      let p : Performed = record { line = performs line; asked = asked } in
      let later : Performed = record { line = performs line; asked = (ask, told) ∷ asked } in
      let known = knows who who (asked ++ all_asked past) in
      let d = doing s who past (performs line) asked in
      let still : is_over s who past p ≡ false = sym (rests s who (p ∷ past) old stands) ∙ ap is_none next in
      let asks_it = sym (ap (option_map (raised (known_by old))) (asks_own s who (p ∷ past) old stands)) ∙ next in
      let shown = line_shown s who line.number (kind_of s who) (io_before past) line.what host known (knows who who (((ask, told) ∷ asked) ++ all_asked past)) (known_by old)
      (λ m. knows who m (((ask, told) ∷ asked) ++ all_asked past)) ask told asked d asks_it mine (ap is_loose (sym stands.doing_is) ∙ held) outside in
      ap (λ l. l ++ ending_text number host told (ending_by old.driver.known (now_doing old) ask told)) (is ∙ ended_lines s who past p ∙ ap (where_over s who past p) still)
      ∙ ap (λ k. answer_lines s who past ++ ending_text number host told (ending_by k (now_doing old) ask told)) (stands.own guest)
      ∙ ap (λ e. answer_lines s who past ++ ending_text number host told (ending_by known e ask told)) stands.doing_is
      ∙ ap (λ n. answer_lines s who past ++ ending_text n host told (ending_by known d ask told)) number_is
      ∙ with_words s who past line ((ask, told) ∷ asked) (is_over s who past later) (ending_text line.number host told (ending_by known d ask told)) shown
      ∙ sym (ended_lines s who past later)

  pub fed_text : (line : Line) (number : ℕ) → Stands s who (record { line = line; asked = asked } ∷ past) old → asks_next old ≡ Some ask → is_loose (now_doing old) ≡ false → is_guests (doing s who past line asked) ≡ true
      → number ≡ number_of line → IsOutside s who (record { line = line; asked = asked } ∷ past) host → 1 ≤ who → text ≡ answer_lines s who (ended_of s who (record { line = line; asked = asked } ∷ past))
      → text ++ ending_text number host told (ending_by old.driver.known (now_doing old) ask told) ≡ answer_lines s who (ended_of s who (record { line = line; asked = (ask, told) ∷ asked } ∷ past))
  fed_text (performs line) number stands next held mine number_is outside guest is = fed_text_of line number stands next held mine number_is outside guest is
  fed_text counts_members number stands next held mine number_is outside guest is = absurd outside
  fed_text (brings_up member) number stands next held mine number_is outside guest is = absurd outside
  fed_text (empties_line queue) number stands next held mine number_is outside guest is = absurd outside
  fed_text (finishes member queue) number stands next held mine number_is outside guest is = absurd outside
