-- What a guest is shown as its line ends.
use Rattle.std.proofs.Common.{◌≡◌, ℕ, Bool, true, false, List, [], ◌∷◌, Option, None, Some, refl, sym, ap, ◌∙◌, if◌then◌else◌}
use Rattle.std.specs.Prelude.{◌==◌, ◌&&◌, not, is_none, is_some, max, option_map}
use Rattle.history.specs.Look.{or_else}
use Rattle.legacy_regs.specs.declared.device.Kind.{Kind}
use Rattle.admin_wire.specs.Done.{parts_of}
use Rattle.admin_wire.specs.declared.done.DoneParts.{DoneParts}
use Rattle.group_calls.specs.declared.ask.Ask.{Ask}
use Rattle.group_calls.specs.declared.ask.Told.{Told}
use Rattle.group_calls.specs.declared.ask.Told.TheVariants.{Queue as FromQueue, Member as FromMember}
use Rattle.group_calls.specs.declared.queue.RingReply.{RingReply}
use Rattle.group_calls.specs.declared.queue.RingReply.TheVariants.{Seq, Closed, Ready, Lost}
use Rattle.group_calls.specs.declared.member.MemberReply.{MemberReply}
use Rattle.group_calls.specs.declared.member.MemberReply.TheVariants.{Gone}
use Rattle.group_calls.specs.Asks.{Exchange}
use Rattle.serve_machine.specs.declared.stage.Stage.{Stage}
use Rattle.serve_machine.specs.declared.stage.Stage.TheVariants.{Popping, Judging, Acting, Completing, Ended}
use Rattle.serve_machine.specs.Service.{next_ask as service_ask, after as service_after}
use Rattle.vfio_driver.specs.declared.access.Answer.{Answer}
use Rattle.vfio_driver.specs.declared.access.Answer.TheVariants.{Data, Written, Ones, RefusedFull, RefusedMemory}
use Rattle.vfio_driver.specs.declared.access.Stage.{Stage as AccessStage}
use Rattle.vfio_driver.specs.declared.access.Stage.TheVariants.{Nothing, Ringing, Posting, Taking}
use Rattle.vfio_driver.specs.declared.access.Known.{Known}
use Rattle.vfio_driver.specs.declared.access.After.{After}
use Rattle.vfio_driver.specs.Access.{is_open, next_ask, ended, lost, after_notify as ringing, after_post as posting, after_done as completed, after_take as taking, after as turned}
use Rattle.guest_lines.specs.Lines.{outside_words}
use Rattle.guest_lines.specs.Earlier.{numbered}
use Rattle.board_script.specs.declared.script.What.{What}
use Rattle.board_script.specs.Script.{Whole}
use Rattle.journal.specs.Doing.{Doing, asks, accesses, brings, serves, empties, hosts, steps, done, own_ask, raised, after, service_meanwhile}
use Rattle.journal.specs.Answers.{driver_answer, answer_words, words_by}
use Rattle.actor_core.specs.declared.outside.Outside.{Outside}
use Rattle.actor_core.specs.declared.performer.Ending.TheVariants.{Answered}
use Rattle.actor_core.specs.Tasks.{is_refused, is_loose}
use Rattle.actor_core.specs.Performers.{ending_by, told_where}
use Rattle.actor_core.specs.Refused.{ends_refused}
use Rattle.actor_core.specs.Shown.{host_words, driver_words, ending_text, text_where}
use Rattle.actor_core.specs.Answered.{is_guests}
use Rattle.actor_core.proofs.Drivers.{either, by_answer, goes_on, tried_again}

-- ---- an access without an answer is open

abbrev IsOpenStill : After → Type 0
IsOpenStill t = is_some t.answer ≡ false → is_open t.stage ≡ true

rung : (known : Known) (at : ℕ) (reply : MemberReply) → IsOpenStill (ringing known (FromMember (record { at = at; reply = reply })))
rung known at (Gone floor) none = absurd (cc)
rung known at _ none = absurd (cc)

rings : (known : Known) (told : Told) → IsOpenStill (ringing known told)
rings known (FromMember placed) none = rung known placed.at placed.reply none
rings known _ none = absurd (cc)

posted : (known : Known) (queue : ℕ) (reads : Bool) (at : ℕ) (reply : RingReply) → IsOpenStill (posting known queue reads (FromQueue (record { at = at; reply = reply })))
posted known queue reads at (Seq seq) none = refl
posted known queue reads at (Closed floor) none = absurd (cc)
posted known queue reads at _ none = absurd (cc)

posts : (known : Known) (queue : ℕ) (reads : Bool) (told : Told) → IsOpenStill (posting known queue reads told)
posts known queue reads (FromQueue placed) none = posted known queue reads placed.at placed.reply none
posts known queue reads _ none = absurd (cc)

completes : (known : Known) (reads : Bool) (parts : DoneParts) → IsOpenStill (completed known reads parts)
completes known reads parts =
    let good = if reads then ended known (Data parts.payload) else ended known Written in
    let refused = if parts.qualifier == 2 then ended known Ones else lost known 0 in
    let bad = if parts.status == 12 then ended known RefusedMemory else refused in
    either IsOpenStill (parts.status == 0) good bad (either IsOpenStill reads (ended known (Data parts.payload)) (ended known Written) (λ none. absurd (cc)) (λ none. absurd (cc)))
    (either IsOpenStill (parts.status == 12) (ended known RefusedMemory) refused (λ none. absurd (cc)) (either IsOpenStill (parts.qualifier == 2) (ended known Ones) (lost known 0) (λ none. absurd (cc)) (λ none. absurd (cc))))

taken : (known : Known) (queue seq : ℕ) (reads : Bool) (at : ℕ) (reply : RingReply) → IsOpenStill (taking known queue seq reads (FromQueue (record { at = at; reply = reply })))
taken known queue seq reads at (Ready bytes floor) none = completes (record { floor = max known.floor floor; gone = known.gone }) reads (parts_of bytes) none
taken known queue seq reads at (Lost floor) none = absurd (cc)
taken known queue seq reads at _ none = refl

takes : (known : Known) (queue seq : ℕ) (reads : Bool) (told : Told) → IsOpenStill (taking known queue seq reads told)
takes known queue seq reads (FromQueue placed) none = taken known queue seq reads placed.at placed.reply none
takes known queue seq reads _ none = refl

pub asked_open : (guest : ℕ) (kept : ℕ → Known) (known : Known) (access : AccessStage) (ask : Ask) → option_map (raised kept) (next_ask guest known access) ≡ Some ask → is_open access ≡ true
asked_open guest kept known Nothing ask asked = absurd (cc)
asked_open guest kept known (Ringing number) ask asked = refl
asked_open guest kept known (Posting queue bytes writable reads) ask asked = refl
asked_open guest kept known (Taking queue seq reads) ask asked = refl

pub unanswered_open : (known : Known) (access : AccessStage) (told : Told) → is_open access ≡ true → is_some (turned known access told).answer ≡ false → is_open (turned known access told).stage ≡ true
unanswered_open known Nothing told was none = absurd (cc)
unanswered_open known (Ringing number) told was none = rings known told none
unanswered_open known (Posting queue bytes writable reads) told was none = posts known queue reads told none
unanswered_open known (Taking queue seq reads) told was none = takes known queue seq reads told none

-- ---- an open access asks

open_asks : (guest queue : ℕ) (kept : ℕ → Known) (known : Known) (service : Stage) (access : AccessStage) → is_open access ≡ true → is_none (option_map (raised kept) (or_else (service_ask queue service) (next_ask guest known access))) ≡ false
open_asks guest queue kept known Popping access opened = refl
open_asks guest queue kept known (Judging command bytes) access opened = refl
open_asks guest queue kept known (Acting command to call) access opened = refl
open_asks guest queue kept known (Completing seq bytes floor) access opened = refl
open_asks guest queue kept known Ended Nothing opened = absurd (cc)
open_asks guest queue kept known Ended (Ringing number) opened = refl
open_asks guest queue kept known Ended (Posting k bytes writable reads) opened = refl
open_asks guest queue kept known Ended (Taking k seq reads) opened = refl

-- ---- what is shown

abbrev IsShown : (s : Whole) (guest number : ℕ) (kind : Kind) (io : Bool) (asked : What) (host : Outside) (known later : Known) (kept : ℕ → Known) (doing : Doing) (ask : Ask) (told : Told) (earlier : List Exchange) → Type 0
IsShown s guest number kind io asked host known later kept doing ask told earlier =
    ending_text number host told (ending_by known doing ask told)
    ≡ text_where (is_none (option_map (raised kept) (own_ask guest later (after s known doing told)))) number (words_by kind io asked (driver_answer known doing told) ((ask, told) ∷ earlier))

same_answer : (kind : Kind) (io : Bool) (asked : What) (host : Outside) (answer : Answer) → host_words host ≡ outside_words kind io asked → driver_words host answer ≡ answer_words kind io asked answer
same_answer kind io asked host (Data bytes) same = refl
same_answer kind io asked host Written same = refl
same_answer kind io asked host Ones same = same
same_answer kind io asked host (RefusedFull queue at) same = refl
same_answer kind io asked host RefusedMemory same = refl

both_true : (a b : Bool) → (a && b) ≡ true → (a ≡ true) × (b ≡ true)
both_true true b is = (refl, is)
both_true false b is = absurd (cc)

not_true : (b : Bool) → not b ≡ true → b ≡ false
not_true true is = absurd (cc)
not_true false is = refl

module _ (s : Whole) (guest number : ℕ) (kind : Kind) (io : Bool) (asked : What) (host : Outside) (known later : Known) (before kept : ℕ → Known) (ask : Ask) (told : Told) (earlier : List Exchange) where
  abbrev text_after : Doing → Option Answer → List ℕ
  text_after d answer = text_where (is_none (option_map (raised kept) (own_ask guest later d))) number (words_by kind io asked answer ((ask, told) ∷ earlier))

  answered_shown : (queue : ℕ) (once : Bool) (t : After) (answer : Option Answer) → host_words host ≡ outside_words kind io asked → (is_some answer ≡ false → is_open t.stage ≡ true)
      → ending_text number host told (option_map Answered answer) ≡ text_after (by_answer queue once t answer told) answer
  answered_shown queue once t None same opened =
      sym (ap (λ b. text_where b number (words_by kind io asked None ((ask, told) ∷ earlier))) (open_asks guest queue kept later (service_meanwhile told) t.stage (opened refl)))
  answered_shown queue once t (Some answer) same opened = ap (numbered number) (same_answer kind io asked host answer same)

  driver_shown : (queue : ℕ) (once : Bool) (access : AccessStage) (b : Bool) → (is_refused ask told && not once) ≡ b → option_map (raised before) (next_ask guest known access) ≡ Some ask → host_words host ≡ outside_words kind io asked
      → ending_text number host told (if b then None else option_map Answered (turned known access told).answer) ≡ text_after (after s known (accesses queue once access Ended) told) (turned known access told).answer
  driver_shown queue once access true is next same =
      let two = both_true (is_refused ask told) (not once) is in
      let again = tried_again s once guest queue before known access ask told next (not_true once two.1) two.0 in
      ap (λ d. text_after d (turned known access told).answer) (sym again)
  driver_shown queue once access false is next same =
      let t = turned known access told in
      answered_shown queue once t t.answer same (unanswered_open known access told (asked_open guest before known access ask next))
      ∙ ap (λ d. text_after d t.answer) (sym (goes_on s once guest queue before known access ask told next is))

  service_shown : (queue : ℕ) (once : Bool) (access : AccessStage) (service : Stage) → is_open access ≡ true → [] ≡ text_after (accesses queue once access service) None
  service_shown queue once access service opened =
      sym (ap (λ b. text_where b number (words_by kind io asked None ((ask, told) ∷ earlier))) (open_asks guest queue kept later service access opened))

  open_held : (b : Bool) → not b ≡ false → b ≡ true
  open_held true is = refl
  open_held false is = absurd (cc)

  pub line_shown : (doing : Doing) → option_map (raised before) (own_ask guest known doing) ≡ Some ask → is_guests doing ≡ true → is_loose doing ≡ false → host_words host ≡ outside_words kind io asked
      → IsShown s guest number kind io asked host known later kept doing ask told earlier
  line_shown (asks own) next mine held same = refl
  line_shown (accesses queue once access Ended) next mine held same = driver_shown queue once access (is_refused ask told && not once) refl next same
  line_shown (accesses queue once access Popping) next mine held same = service_shown queue once access (service_after Popping told) (open_held (is_open access) held)
  line_shown (accesses queue once access (Judging command bytes)) next mine held same = service_shown queue once access (service_after (Judging command bytes) told) (open_held (is_open access) held)
  line_shown (accesses queue once access (Acting command to call)) next mine held same = service_shown queue once access (service_after (Acting command to call) told) (open_held (is_open access) held)
  line_shown (accesses queue once access (Completing seq bytes floor)) next mine held same = service_shown queue once access (service_after (Completing seq bytes floor) told) (open_held (is_open access) held)
  line_shown done next mine held same = absurd (cc)
  line_shown (brings member way service) next mine held same = absurd (cc)
  line_shown (serves queue service) next mine held same = absurd (cc)
  line_shown (empties queue service) next mine held same = absurd (cc)
  line_shown (hosts going) next mine held same = absurd (cc)
  line_shown (steps member queue left) next mine held same = absurd (cc)

-- ---- a line that is shown by its own answer is no refused access

pub told_unrefused : (ended : Bool) → ends_refused (told_where ended) ≡ true → ⊥
told_unrefused true is = cc
told_unrefused false is = cc
