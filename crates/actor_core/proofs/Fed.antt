-- An actor behind a line that begins, and behind one answer more.
use Rattle.std.proofs.Common.{◌≡◌, ℕ, ◌+◌, Bool, true, false, if◌then◌else◌, List, [], ◌∷◌, ◌++◌, map, length, Option, None, Some, refl, sym, ap, ◌∙◌, subst, arith}
use Rattle.std.specs.Prelude.{IsSomeAnd}
use Rattle.group_calls.specs.declared.ask.Ask.{Ask}
use Rattle.group_calls.specs.declared.ask.Told.{Told}
use Rattle.group_calls.specs.Asks.{AnswersAsk, Exchange}
use Rattle.board_script.specs.Script.{Whole}
use Rattle.journal.specs.Lines.{Line, counts_members, brings_up, performs, empties, finishes}
use Rattle.journal.specs.Knowing.{knows}
use Rattle.journal.specs.Performing.{Performed, all_asked, doing}
use Rattle.journal.specs.Settling.{is_used_up, left_by}
use Rattle.journal.specs.Texts.{answer_lines}
use Rattle.actor_core.specs.declared.actor.Actor.{Actor}
use Rattle.actor_core.specs.declared.items.TraceItem.{TraceItem}
use Rattle.actor_core.specs.declared.lines.Lines.{Lines}
use Rattle.actor_core.specs.declared.performer.Performer.{Performer}
use Rattle.actor_core.specs.Kept.{number_of, trace_of, left_pair, and_left, has_left, with_item}
use Rattle.actor_core.specs.Boards.{AreBegun}
use Rattle.actor_core.specs.Performers.{asks_next, now_doing, known_by, ending_by, left_by as left_of}
use Rattle.actor_core.specs.Stands.{Stands}
use Rattle.actor_core.specs.Shown.{answers_text, ending_text}
use Rattle.actor_core.specs.Answered.{IsGuestNumber, IsOutside, ended_of}
use Rattle.actor_core.specs.Actors.{StandsWhole, IsGiven, IsHeard, IsNoted, IsNotedBut, begun, and_asked}
use Rattle.actor_core.specs.Found.{HasBegun}
use Rattle.actor_core.proofs.Leaving.{asks_unused, left_next}
use Rattle.actor_core.proofs.Telling.{guest_goes_on, begun_text, fed_text}

-- a line that begins has left nothing
nothing_left : (s : Whole) (past : List Performed) (line : Line) → left_by s (begun line ∷ past) ≡ left_by s past
nothing_left s past counts_members = refl
nothing_left s past (brings_up member) = refl
nothing_left s past (performs line) = refl
nothing_left s past (empties queue) = refl
nothing_left s past (finishes member queue) = refl

pub next_begun : (s : Whole) (who : ℕ) (past : List Performed) (line : Line) (old new : Actor) (taken : Lines) → Stands s who past old.performer → old.kept.trace.items.items ≡ trace_of past → (who ≡ 0 → map left_pair old.kept.left.items.items ≡ left_by s past)
    → asks_next old.performer ≡ None → (IsGuestNumber who → answers_text old.kept.answers.items.items ≡ answer_lines s who (ended_of s who past)) → HasBegun s who past line old new
    → AreBegun s who (length past + 1) taken → new.lines ≡ taken → StandsWhole s who (begun line ∷ past) new
next_begun s who past line old new taken stands trace left over answers has are same =
    let next : Performed = begun line in
    let later : length past + 1 ≡ length (next ∷ past) = omega arith in
    record {
      performer = has.performer stands;
      lines = subst (AreBegun s who (length (next ∷ past))) (sym same) (subst (λ n. AreBegun s who n taken) later are);
      number = has.number;
      trace = has.trace ∙ trace;
      left = λ board. ap (map left_pair) has.left ∙ left board ∙ sym (nothing_left s past line);
      guests = has.guests;
      outside = λ guest. has.outside guest.0 stands;
      answers = λ guest. begun_text s who past old.performer new.performer line new.number new.outside (answers_text old.kept.answers.items.items) (answers_text new.kept.answers.items.items) stands (has.performer stands) over has.number
          (has.outside guest.0 stands) (answers guest) (has.answers guest stands);
    }

pub stands_whole_fed : (s : Whole) (who : ℕ) (performed : Performed) (past : List Performed) (old new : Actor) (ask : Ask) (told : Told) → StandsWhole s who (performed ∷ past) old → asks_next old.performer ≡ Some ask
    → Stands s who (and_asked ask told performed ∷ past) new.performer → new.lines ≡ old.lines → new.number ≡ old.number → new.kept.trace.items.items ≡ with_item old.number (ask, told) old.kept.trace.items.items
    → new.kept.left.items.items ≡ and_left (left_of (now_doing new.performer)) old.kept.left.items.items → new.outside ≡ old.outside
    → (IsGuestNumber who → answers_text new.kept.answers.items.items ≡ answers_text old.kept.answers.items.items ++ ending_text old.number old.outside told (ending_by old.performer.driver.known (now_doing old.performer) ask told)) → StandsWhole s who (and_asked ask told performed ∷ past) new
stands_whole_fed s who performed past old new ask told stands asked performer lines number trace left outside answers = record {
  performer = performer;
  lines = subst (AreBegun s who (length (performed ∷ past))) (sym lines) stands.lines;
  number = number ∙ stands.number;
  trace = trace ∙ ap (λ n. with_item n (ask, told) old.kept.trace.items.items) stands.number ∙ ap (with_item (number_of performed.line) (ask, told)) stands.trace;
  left = λ board.
      let behind : (before : List Exchange) → doing s who past performed.line before ≡ doing s 0 past performed.line before = λ before. ap (λ n. doing s n past performed.line before) board in
      let now : List Exchange = (ask, told) ∷ performed.asked in
      let items = old.kept.left.items.items in
      let unused : is_used_up (doing s 0 past performed.line performed.asked) ≡ false =
      ap is_used_up (sym (stands.performer.doing_is ∙ behind performed.asked)) ∙ asks_unused old.performer.who old.performer.driver.known (known_by old.performer) (now_doing old.performer) ask asked in
      ap (map left_pair) left ∙ ap (λ d. map left_pair (and_left (left_of d) items)) (performer.doing_is ∙ behind now) ∙ left_next s past performed.line performed.asked now items unused (stands.left board);
  guests = λ guest. guest_goes_on s (knows who who (performed.asked ++ all_asked past)) (doing s who past performed.line performed.asked) told (stands.guests guest);
  outside = λ guest. subst (IsOutside s who (and_asked ask told performed ∷ past)) (sym outside) (stands.outside guest);
  answers = λ guest. answers guest ∙ fed_text s who past old.performer ask told performed.asked old.outside (answers_text old.kept.answers.items.items) performed.line old.number stands.performer asked old.performer.held
      (stands.guests guest) stands.number (stands.outside guest) guest.0 (stands.answers guest);
}

-- the ask that was given out
pub given_at : (given : Option Ask) (P : Ask → Type 0) → IsSomeAnd given P → (ask : Ask) × (given ≡ Some ask)
given_at None P some = absurd some
given_at (Some ask) P some = (ask, refl)

-- an answer that left an entry is traced, and another isn't
pub with_kept : (number : ℕ) (ask : Ask) (told : Told) (items : List TraceItem) → has_left told ≡ true → with_item number (ask, told) items ≡ items ++ record { line = number; ask = ask; told = told } ∷ []
with_kept number ask told items left = ap (λ (b : Bool). if b then items ++ record { line = number; ask = ask; told = told } ∷ [] else items) left

pub with_lost : (number : ℕ) (ask : Ask) (told : Told) (items : List TraceItem) → has_left told ≡ false → with_item number (ask, told) items ≡ items
with_lost number ask told items left = ap (λ (b : Bool). if b then items ++ record { line = number; ask = ask; told = told } ∷ [] else items) left

-- the performer has gone on, the queue that it left is noted, and what it was told is; and then the ask is traced
pub behind_answer : (s : Whole) (who : ℕ) (performed : Performed) (past : List Performed) (old heard left noted new : Actor) (told : Told) → IsGiven old told → IsSomeAnd old.given (λ ask. IsHeard old heard ask told)
    → IsNotedBut heard left → left.given ≡ heard.given → (left.short ≡ false → left.kept.left.items.items ≡ and_left (left_of (now_doing heard.performer)) heard.kept.left.items.items)
    → left.kept.answers.items.items ≡ heard.kept.answers.items.items → IsNoted left noted → noted.given ≡ left.given
    → new.performer ≡ noted.performer → new.lines ≡ noted.lines → new.number ≡ noted.number → new.outside ≡ noted.outside
    → ((ask : Ask) → noted.given ≡ Some ask → new.kept.trace.items.items ≡ with_item noted.number (ask, told) noted.kept.trace.items.items)
    → new.kept.left.items.items ≡ noted.kept.left.items.items → new.kept.answers.items.items ≡ noted.kept.answers.items.items
    → StandsWhole s who (performed ∷ past) old → noted.short ≡ false → IsSomeAnd old.given (λ ask. StandsWhole s who (and_asked ask told performed ∷ past) new)
behind_answer s who performed past old heard left noted new told given hears but left_given and_queue left_answers is noted_given performer lines number outside traced kept_left kept_answers stands short =
    let at = given_at old.given (λ a. (asks_next old.performer ≡ Some a) × AnswersAsk a told) given in
    let ask = at.0 in
    let x : Exchange = (ask, told) in
    let heard_is = subst (λ o. IsSomeAnd o (λ a. IsHeard old heard a told)) at.1 hears in
    let asked = (subst (λ o. IsSomeAnd o (λ a. (asks_next old.performer ≡ Some a) × AnswersAsk a told)) at.1 given).0 in
    let performer_is : new.performer ≡ heard.performer = performer ∙ is.but.performer ∙ but.performer in
    let number_is : noted.number ≡ old.number = is.but.number ∙ but.number ∙ heard_is.number in
    let trace = is.but.trace ∙ but.trace ∙ heard_is.trace in
    let lent = noted_given ∙ left_given ∙ heard_is.given ∙ at.1 in
    subst (λ o. IsSomeAnd o (λ a. StandsWhole s who (and_asked a told performed ∷ past) new)) (sym at.1)
    (stands_whole_fed s who performed past old new ask told stands asked
    (subst (λ (p : Performer). Stands s who (and_asked ask told performed ∷ past) p) (sym performer_is) (heard_is.stands s who performed past stands.performer))
    (lines ∙ is.but.lines ∙ but.lines ∙ heard_is.lines)
    (number ∙ number_is)
    (traced ask lent ∙ ap (λ n. with_item n x noted.kept.trace.items.items) number_is ∙ ap (with_item old.number x) trace)
    (kept_left ∙ is.left ∙ and_queue (is.but.short short)
    ∙ ap (λ p. and_left (left_of (now_doing p)) heard.kept.left.items.items) (sym performer_is) ∙ ap (and_left (left_of (now_doing new.performer))) heard_is.left)
    (outside ∙ is.but.outside ∙ but.outside ∙ heard_is.outside)
    (λ guest. ap answers_text (kept_answers ∙ is.answers ∙ left_answers) ∙ heard_is.answers (subst IsGuestNumber (sym stands.performer.who_is) guest) (but.short (is.but.short short))))
