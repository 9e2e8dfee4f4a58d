-- The lines that an actor performs for now, and what comes next of them.
use Rattle.std.proofs.Common.{◌≡◌, ℕ, ◌+◌, ◌<◌, ◌≤◌, ◌⊎◌, inl, inr, zero, suc, Bool, true, false, List, [], ◌∷◌, ◌++◌, length, map, drop, Option, None, Some, refl, sym, ap, ◌∙◌, arith}
use Rattle.std.proofs.lemmas.Bool.Decides.{nat_tests}
use Rattle.std.specs.Prelude.{not, ◌||◌, nat_lt, is_none}
use Rattle.group_calls.specs.declared.ask.Ask.{Ask}
use Rattle.board_script.specs.Script.{Whole}
use Rattle.journal.specs.Lines.{Line, brings_up, lines_of, first_lines, last_lines, members_of, numbers}
use Rattle.journal.specs.Performing.{Performed, next_ask}
use Rattle.journal.specs.Settling.{has_ended, has_work}
use Rattle.actor_core.specs.declared.actor.Actor.{Actor}
use Rattle.actor_core.specs.declared.lines.Lines.{Lines}
use Rattle.actor_core.specs.declared.lines.Lines.TheVariants.{OfScript, OfBoard}
use Rattle.actor_core.specs.Boards.{AreBegun, lines_now, lines_due}
use Rattle.actor_core.specs.Stands.{ask_behind}
use Rattle.actor_core.specs.Actors.{StandsWhole, begun, from_line, upcoming_in, upcoming}
use Rattle.actor_core.proofs.Upcoming.{by_ask, upcoming_is, line_comes_first}

-- ---- of the other actors all lines are due

pub script_lines_now : (s : Whole) (who begun : ℕ) (lines : Lines) → 1 ≤ who → AreBegun s who begun lines → lines_now s who lines ≡ lines_of s who
script_lines_now s who begun (OfScript lines) some are = refl
script_lines_now s who begun (OfBoard next drains) some are = let board : who ≡ 0 = are.0 in absurd (omega arith)

pub lines_of_script : (s : Whole) (who : ℕ) (past : List Performed) (a : Actor) → 1 ≤ who → StandsWhole s who past a → lines_now s who a.lines ≡ lines_of s who
lines_of_script s who past a some stands = script_lines_now s who (length past) a.lines some stands.lines

-- ---- each line of bring-up asks at once

abbrev AsksAtOnce : Whole → List Performed → Line → Type 0
AsksAtOnce s past line = (ask : Ask) × (next_ask s 0 past line [] ≡ Some ask)

brings_at_once : (s : Whole) (past : List Performed) (member : ℕ) → AsksAtOnce s past (brings_up member)
brings_at_once s past zero = (_, refl)
brings_at_once s past (suc member) = (_, refl)

abbrev AllAsk : Whole → List Performed → List Line → Type 0
AllAsk s past [] = Unit {0}
AllAsk s past (line ∷ lines) = AsksAtOnce s past line × AllAsk s past lines

all_bring : (s : Whole) (past : List Performed) (from n : ℕ) → AllAsk s past (map brings_up (numbers from n))
all_bring s past from zero = tt
all_bring s past from (suc n) = (brings_at_once s past from, all_bring s past (from + 1) n)

pub first_lines_ask : (s : Whole) (past : List Performed) → AllAsk s past (first_lines s)
first_lines_ask s past = ((_, refl), all_bring s past 0 (members_of s + 1))

-- ---- while bring-up has work, what comes next of its lines comes next of all

first_comes : (s : Whole) (past : List Performed) (n : ℕ) (first last : List Line) → AllAsk s past first → n < length first → from_line s 0 (drop n first) past ≡ from_line s 0 (drop n (first ++ last)) past
first_comes s past n [] last ask within = absurd (omega arith)
first_comes s past zero (line ∷ first) last ask within =
    line_comes_first s 0 past line first ∙ ap (by_ask (begun line ∷ past) (from_line s 0 first (begun line ∷ past))) ask.0.1
    ∙ sym (line_comes_first s 0 past line (first ++ last) ∙ ap (by_ask (begun line ∷ past) (from_line s 0 (first ++ last) (begun line ∷ past))) ask.0.1)
first_comes s past (suc n) (line ∷ first) last ask within = first_comes s past n first last ask.1 (omega arith)

no_ask_ended : (s : Whole) (past : List Performed) → ask_behind s 0 past ≡ None → has_ended s 0 past ≡ true
no_ask_ended s [] is = refl
no_ask_ended s (p ∷ past) is = ap is_none is

work_left : (ended : Bool) (n due : ℕ) → ended ≡ true → (not ended || nat_lt n due) ≡ true → n < due
work_left true n due is work = below n due work
  where
    below : (m k : ℕ) → nat_lt m k ≡ true → m < k
    below m k less = grind (arith, nat_tests)
work_left false n due is work = absurd (cc)

pub bring_up_comes : (s : Whole) (past : List Performed) → has_work (length (first_lines s)) s 0 past ≡ true → upcoming_in s 0 (first_lines s) past ≡ upcoming s 0 past
bring_up_comes s past work =
    upcoming_is s 0 (first_lines s) past ∙ by (ask_behind s 0 past) refl ∙ sym (upcoming_is s 0 (lines_of s 0) past)
  where
    by : (o : Option Ask) → ask_behind s 0 past ≡ o
        → by_ask past (from_line s 0 (drop (length past) (first_lines s)) past) (ask_behind s 0 past) ≡ by_ask past (from_line s 0 (drop (length past) (lines_of s 0)) past) (ask_behind s 0 past)
    by (Some ask) e = ap (by_ask past (from_line s 0 (drop (length past) (first_lines s)) past)) e ∙ sym (ap (by_ask past (from_line s 0 (drop (length past) (lines_of s 0)) past)) e)
    by None e =
        let within : length past < length (first_lines s) = work_left (has_ended s 0 past) (length past) (length (first_lines s)) (no_ask_ended s past e) work in
        ap (by_ask past (from_line s 0 (drop (length past) (first_lines s)) past)) e
        ∙ first_comes s past (length past) (first_lines s) (last_lines s) (first_lines_ask s past) within
        ∙ sym (ap (by_ask past (from_line s 0 (drop (length past) (lines_of s 0)) past)) e)

-- ---- an actor with something to do

due_by : (s : Whole) (past : List Performed) (lines : Lines) → AreBegun s 0 (length past) lines → has_work (lines_due s 0 lines) s 0 past ≡ true → upcoming_in s 0 (lines_now s 0 lines) past ≡ upcoming s 0 past
due_by s past (OfScript lines) are work = refl
due_by s past (OfBoard next true) are work = refl
due_by s past (OfBoard next false) are work = bring_up_comes s past work

due_where : (s : Whole) (who : ℕ) (past : List Performed) (lines : Lines) → AreBegun s who (length past) lines → has_work (lines_due s who lines) s who past ≡ true → upcoming_in s who (lines_now s who lines) past ≡ upcoming s who past
due_where s zero past lines are work = due_by s past lines are work
due_where s (suc who) past lines are work = let some : 1 ≤ suc who = omega arith in ap (λ l. upcoming_in s (suc who) l past) (script_lines_now s (suc who) (length past) lines some are)

pub comes_due : (s : Whole) (who : ℕ) (past : List Performed) (a : Actor) → StandsWhole s who past a → (1 ≤ who) ⊎ (has_work (lines_due s who a.lines) s who past ≡ true) → upcoming_in s who (lines_now s who a.lines) past ≡ upcoming s who past
comes_due s who past a stands (inl some) = ap (λ l. upcoming_in s who l past) (lines_of_script s who past a some stands)
comes_due s who past a stands (inr work) = due_where s who past a.lines stands.lines work
