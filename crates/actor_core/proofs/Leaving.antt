-- What a drain has left, behind one answer more.
use Rattle.std.proofs.Common.{◌≡◌, ℕ, zero, suc, Bool, true, false, List, [], ◌∷◌, ◌++◌, map, Option, None, Some, refl, sym, ap, ◌∙◌, if◌then◌else◌}
use Rattle.std.proofs.lemmas.List.{map-append}
use Rattle.std.specs.Prelude.{option_map}
use Rattle.group_calls.specs.declared.ask.Ask.{Ask}
use Rattle.group_calls.specs.declared.ask.Told.{Told}
use Rattle.group_calls.specs.Asks.{Exchange}
use Rattle.serve_machine.specs.declared.stage.Stage.TheVariants.{Popping, Judging, Acting, Completing, Ended}
use Rattle.vfio_driver.specs.declared.access.Answer.{Answer}
use Rattle.vfio_driver.specs.declared.access.Answer.TheVariants.{RefusedFull}
use Rattle.vfio_driver.specs.declared.access.Stage.{Stage as AccessStage}
use Rattle.vfio_driver.specs.declared.access.Known.{Known}
use Rattle.vfio_driver.specs.declared.access.After.{After}
use Rattle.vfio_driver.specs.declared.bring_stage.BringStage.{BringStage}
use Rattle.vfio_driver.specs.declared.bring_stage.BringStage.TheVariants.{Posting, Taking, Over}
use Rattle.vfio_driver.specs.Access.{after as access_turned}
use Rattle.vfio_driver.specs.Bring.{after as bring_turned}
use Rattle.board_script.specs.declared.script.What.{What}
use Rattle.board_script.specs.declared.script.What.TheVariants as what
use Rattle.board_script.specs.Script.{Whole}
use Rattle.journal.specs.Lines.{Line, counts_members, brings_up, performs, empties as empties_line, finishes}
use Rattle.journal.specs.Knowing.{knows}
use Rattle.journal.specs.Doing.{Doing, asks, accesses, brings, serves, empties, hosts, steps, done, own_ask, raised, after, answered, access_goes_on, bring_goes_on, ends_steps}
use Rattle.journal.specs.Performing.{Performed, all_asked, what_begins, begins, doing}
use Rattle.journal.specs.Settling.{is_used_up, left_by}
use Rattle.actor_core.specs.declared.items.LeftItem.{LeftItem}
use Rattle.actor_core.specs.Kept.{left_pair, and_left}
use Rattle.actor_core.specs.Performers.{left_by as left_of}

-- ---- steps are those of the line

abbrev IsStepping : Line → Doing → Type 0
IsStepping line (steps member queue left) = line ≡ finishes member queue
IsStepping line _ = Unit {0}

what_steps : (s : Whole) (who : ℕ) (past : List Performed) (line : Line) (asked : What) → IsStepping line (what_begins s who past asked)
what_steps s who past line (what.BarRead offset count queue once) = tt
what_steps s who past line (what.BarWrite offset bytes queue once) = tt
what_steps s who past line (what.Mem addr bytes) = tt
what_steps s who past line (what.Peek addr count) = tt
what_steps s who past line (what.Msix on) = tt
what_steps s who past line (what.Io on) = tt
what_steps s who past line (what.Cfg offset count) = tt
what_steps s who past line what.Irqs = tt
what_steps s who past line (what.Poll queue) = tt
what_steps s who past line (what.Serve queue) = tt
what_steps s who past line (what.WorkerPoll member queue) = tt
what_steps s who past line (what.Frame member frame) = tt
what_steps s who past line (what.Flr member) = tt
what_steps s who past line (what.Disable member) = tt
what_steps s who past line what.Reset = tt

begins_steps : (s : Whole) (who : ℕ) (past : List Performed) (line : Line) → IsStepping line (begins s who past line)
begins_steps s who past counts_members = tt
begins_steps s who past (brings_up member) = tt
begins_steps s who past (performs line) = what_steps s who past (performs line) line.what
begins_steps s who past (empties_line queue) = tt
begins_steps s who past (finishes member queue) = refl

answered_steps : (line : Line) (queue : ℕ) (once : Bool) (access : AccessStage) (answer : Answer) → IsStepping line (answered queue once access answer)
answered_steps line queue true access (RefusedFull full at) = tt
answered_steps line queue false access (RefusedFull full at) = tt
answered_steps line queue once access _ = tt

access_steps : (line : Line) (queue : ℕ) (once : Bool) (access stage : AccessStage) (known : Known) (answer : Option Answer) (told : Told) → IsStepping line (access_goes_on queue once access (record { stage = stage; known = known; answer = answer }) told)
access_steps line queue once access stage known None told = tt
access_steps line queue once access stage known (Some answer) told = answered_steps line queue once access answer

brings_steps : (line : Line) (member : ℕ) (way : BringStage) (told : Told) → IsStepping line (bring_goes_on member way told)
brings_steps line member (Over brought) told = tt
brings_steps line member (Posting step) told = tt
brings_steps line member (Taking step seq) told = tt

fewer_steps : (line : Line) (b : Bool) (member queue left : ℕ) → line ≡ finishes member queue → IsStepping line (if b then done else steps member queue left)
fewer_steps line true member queue left is = tt
fewer_steps line false member queue left is = is

after_steps : (s : Whole) (known : Known) (line : Line) (doing : Doing) (told : Told) → IsStepping line doing → IsStepping line (after s known doing told)
after_steps s known line (asks ask) told is = tt
after_steps s known line (accesses queue once access Ended) told is =
    let t : After = access_turned known access told in access_steps line queue once access t.stage t.known t.answer told
after_steps s known line (accesses queue once access Popping) told is = tt
after_steps s known line (accesses queue once access (Judging command bytes)) told is = tt
after_steps s known line (accesses queue once access (Acting command to call)) told is = tt
after_steps s known line (accesses queue once access (Completing seq bytes floor)) told is = tt
after_steps s known line (brings member way Ended) told is = brings_steps line member (bring_turned way told) told
after_steps s known line (brings member way Popping) told is = tt
after_steps s known line (brings member way (Judging command bytes)) told is = tt
after_steps s known line (brings member way (Acting command to call)) told is = tt
after_steps s known line (brings member way (Completing seq bytes floor)) told is = tt
after_steps s known line (serves queue service) told is = tt
after_steps s known line (empties queue service) told is = tt
after_steps s known line (hosts going) told is = tt
after_steps s known line (steps member queue zero) told is = is
after_steps s known line (steps member queue (suc left)) told is = fewer_steps line (ends_steps told) member queue left is
after_steps s known line done told is = tt

doing_steps : (s : Whole) (who : ℕ) (past : List Performed) (line : Line) (asked : List Exchange) → IsStepping line (doing s who past line asked)
doing_steps s who past line [] = begins_steps s who past line
doing_steps s who past line (x ∷ asked) = after_steps s (knows who who (asked ++ all_asked past)) line (doing s who past line asked) x.1 (doing_steps s who past line asked)

-- ---- what asks isn't used up

pub asks_unused : (who : ℕ) (known : Known) (kept : ℕ → Known) (doing : Doing) (ask : Ask) → option_map (raised kept) (own_ask who known doing) ≡ Some ask → is_used_up doing ≡ false
asks_unused who known kept (steps member queue zero) ask is = absurd (cc)
asks_unused who known kept (steps member queue (suc left)) ask is = refl
asks_unused who known kept (asks own) ask is = refl
asks_unused who known kept (accesses queue once access service) ask is = refl
asks_unused who known kept (brings member way service) ask is = refl
asks_unused who known kept (serves queue service) ask is = refl
asks_unused who known kept (empties queue service) ask is = refl
asks_unused who known kept (hosts going) ask is = refl
asks_unused who known kept done ask is = refl

-- ---- what is left

abbrev and_pair : Bool → ℕ → ℕ → List (ℕ × ℕ) → List (ℕ × ℕ)
and_pair true member queue lefts = lefts ++ (member, queue) ∷ []
and_pair false member queue lefts = lefts

pair_is : (s : Whole) (past : List Performed) (member queue : ℕ) (b : Bool) → elim b [ true ↦ left_by s past ++ (member, queue) ∷ [] | false ↦ left_by s past ] ≡ and_pair b member queue (left_by s past)
pair_is s past member queue true = refl
pair_is s past member queue false = refl

steps_left : (member queue : ℕ) (doing : Doing) (items : List LeftItem) (lefts : List (ℕ × ℕ)) → IsStepping (finishes member queue) doing → map left_pair items ≡ lefts
    → map left_pair (and_left (left_of doing) items) ≡ and_pair (is_used_up doing) member queue lefts
steps_left member queue (steps m q zero) items lefts is same =
    let e : (m, q) ≡ (member, queue) = cc in
    map-append left_pair items (record { member = m; queue = q } ∷ []) ∙ ap (λ l. l ++ (m, q) ∷ []) same ∙ ap (λ p. lefts ++ p ∷ []) e
steps_left member queue (steps m q (suc left)) items lefts is same = same
steps_left member queue (asks ask) items lefts is same = same
steps_left member queue (accesses k once access service) items lefts is same = same
steps_left member queue (brings m way service) items lefts is same = same
steps_left member queue (serves k service) items lefts is same = same
steps_left member queue (empties k service) items lefts is same = same
steps_left member queue (hosts going) items lefts is same = same
steps_left member queue done items lefts is same = same

none_of : (line : Line) (doing : Doing) → IsStepping line doing → ((member queue : ℕ) → line ≡ finishes member queue → ⊥) → left_of doing ≡ None
none_of line (steps member queue zero) is other = absurd (other member queue is)
none_of line (steps member queue (suc left)) is other = refl
none_of line (asks ask) is other = refl
none_of line (accesses k once access service) is other = refl
none_of line (brings m way service) is other = refl
none_of line (serves k service) is other = refl
none_of line (empties k service) is other = refl
none_of line (hosts going) is other = refl
none_of line done is other = refl

abbrev at_line : Line → List Exchange → Performed
at_line line asked = record { line = line; asked = asked }

pub left_next : (s : Whole) (past : List Performed) (line : Line) (before now : List Exchange) (items : List LeftItem) → is_used_up (doing s 0 past line before) ≡ false → map left_pair items ≡ left_by s (at_line line before ∷ past)
    → map left_pair (and_left (left_of (doing s 0 past line now)) items) ≡ left_by s (at_line line now ∷ past)
left_next s past counts_members before now items unused same =
    ap (λ o. map left_pair (and_left o items)) (none_of counts_members (doing s 0 past counts_members now) (doing_steps s 0 past counts_members now) (λ member queue is. cc)) ∙ same
left_next s past (brings_up m) before now items unused same =
    ap (λ o. map left_pair (and_left o items)) (none_of (brings_up m) (doing s 0 past (brings_up m) now) (doing_steps s 0 past (brings_up m) now) (λ member queue is. cc)) ∙ same
left_next s past (performs line) before now items unused same =
    ap (λ o. map left_pair (and_left o items)) (none_of (performs line) (doing s 0 past (performs line) now) (doing_steps s 0 past (performs line) now) (λ member queue is. cc)) ∙ same
left_next s past (empties_line k) before now items unused same =
    ap (λ o. map left_pair (and_left o items)) (none_of (empties_line k) (doing s 0 past (empties_line k) now) (doing_steps s 0 past (empties_line k) now) (λ member queue is. cc)) ∙ same
left_next s past (finishes member queue) before now items unused same =
    let first = same ∙ pair_is s past member queue (is_used_up (doing s 0 past (finishes member queue) before)) ∙ ap (λ b. and_pair b member queue (left_by s past)) unused in
    steps_left member queue (doing s 0 past (finishes member queue) now) items (left_by s past) (doing_steps s 0 past (finishes member queue) now) first
    ∙ sym (pair_is s past member queue (is_used_up (doing s 0 past (finishes member queue) now)))
