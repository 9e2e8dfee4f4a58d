-- An access that is tried until its command is posted isn't answered full.
use Rattle.std.proofs.Common.{◌≡◌, ℕ, Bool, true, false, List, [], ◌∷◌, ◌++◌, Option, None, Some, refl, sym, ap, ◌∙◌, true≢false}
use Rattle.std.specs.Prelude.{is_none}
use Rattle.group_calls.specs.declared.ask.Told.{Told}
use Rattle.group_calls.specs.Asks.{Exchange}
use Rattle.serve_machine.specs.declared.stage.Stage.TheVariants.{Ended}
use Rattle.vfio_driver.specs.declared.access.Answer.{Answer}
use Rattle.vfio_driver.specs.declared.access.Answer.TheVariants.{Data, Written, Ones, RefusedFull, RefusedMemory}
use Rattle.vfio_driver.specs.declared.access.Known.{Known}
use Rattle.vfio_driver.specs.declared.access.After.{After}
use Rattle.vfio_driver.specs.declared.access.Stage.{Stage as AccessStage}
use Rattle.vfio_driver.specs.Access.{after as access_turned}
use Rattle.board_script.specs.declared.script.ActorLine.{ActorLine}
use Rattle.board_script.specs.Script.{Whole}
use Rattle.journal.specs.Lines.{performs, queue_used}
use Rattle.journal.specs.Knowing.{knows}
use Rattle.journal.specs.Doing.{Doing, accesses, doing_ask, access_goes_on, after}
use Rattle.journal.specs.Performing.{Performed, all_asked, doing, is_over}
use Rattle.journal.specs.Answers.{driver_answer, answer_of, is_full}
use Rattle.journal.specs.Journals.{AreAsked}
use Rattle.journal_laws.specs.Posted.{Accessing, access_in, route_in, IsWholeAccess, asks_nothing, rings, is_refused, is_taken_back}
use Rattle.journal_laws.specs.Order.{performing}
use Rattle.journal_laws.proofs.Posted.{accesses_whole}

-- behind a full queue a service follows
service_follows : (who k : ℕ) (known : ℕ → Known) (access stage : AccessStage) (mine : Known) (answer : Option Answer) (told : Told) → is_full answer ≡ true
    → is_none (doing_ask who known (access_goes_on k false access (record { stage = stage; known = mine; answer = answer }) told)) ≡ false
service_follows who k known access stage mine None told full = absurd (true≢false (sym full))
service_follows who k known access stage mine (Some (RefusedFull queue at)) told full = refl
service_follows who k known access stage mine (Some (Data bytes)) told full = absurd (true≢false (sym full))
service_follows who k known access stage mine (Some Written) told full = absurd (true≢false (sym full))
service_follows who k known access stage mine (Some Ones) told full = absurd (true≢false (sym full))
service_follows who k known access stage mine (Some RefusedMemory) told full = absurd (true≢false (sym full))

-- so the line isn't over
goes_on : (s : Whole) (who k : ℕ) (known : ℕ → Known) (mine : Known) (access : AccessStage) (told : Told) → is_full (driver_answer mine (accesses k false access Ended) told) ≡ true
    → is_none (doing_ask who known (after s mine (accesses k false access Ended) told)) ≡ false
goes_on s who k known mine access told full = let t : After = access_turned mine access told in service_follows who k known access t.stage t.known t.answer told full

module _ (s : Whole) (g : ℕ) (lines : List Performed) (line : ActorLine) (asked : List Exchange) (over : is_over s g lines (performing line asked) ≡ true) where
  abbrev answer_here : Option Answer
  answer_here = answer_of s g lines (performing line asked)

  by_latest : (x : Exchange) (rest : List Exchange) (k : ℕ) (once : Bool) (access : AccessStage) → asked ≡ x ∷ rest → once ≡ false → doing s g lines (performs line) rest ≡ accesses k once access Ended → is_full answer_here ≡ false
  by_latest x rest k once access one again was = go (is_full answer_here) refl
    where
      now : doing s g lines (performs line) rest ≡ accesses k false access Ended
      now = was ∙ ap (λ (b : Bool). accesses k b access Ended) again

      mine : Known
      mine = knows g g (rest ++ all_asked lines)

      answer_is : answer_here ≡ driver_answer mine (accesses k false access Ended) x.1
      answer_is = ap (λ l. answer_of s g lines (performing line l)) one ∙ ap (λ (d : Doing). driver_answer mine d x.1) now

      over_is : is_none (doing_ask g (λ m. knows g m (x ∷ rest ++ all_asked lines)) (after s mine (accesses k false access Ended) x.1)) ≡ true
      over_is = ap (λ (d : Doing). is_none (doing_ask g (λ m. knows g m (x ∷ rest ++ all_asked lines)) (after s mine d x.1))) (sym now) ∙ (ap (λ l. is_over s g lines (performing line l)) (sym one) ∙ over)

      go : (b : Bool) → is_full answer_here ≡ b → is_full answer_here ≡ false
      go false is = is
      go true is = absurd (true≢false (sym over_is ∙ goes_on s g k (λ m. knows g m (x ∷ rest ++ all_asked lines)) mine access x.1 (sym (ap is_full answer_is) ∙ is)))

  by_access : (a : Accessing) → a.once ≡ false → IsWholeAccess s g lines line (queue_used s g a.queue) a.once (route_in s g lines a.access) asked → is_full answer_here ≡ false
  by_access a again (asks_nothing none why) = ap (λ l. is_full (answer_of s g lines (performing line l))) none
  by_access a again (rings number x one there goes asks now) = by_latest x [] _ a.once _ one again now
  by_access a again (is_refused command x rest one there goes asks unposted none now) = by_latest x rest _ a.once _ one again now
  by_access a again (is_taken_back command seq at reply rest one there goes given opens now) = by_latest _ rest _ a.once _ one again now

  pub not_full : (a : Accessing) → access_in line.what ≡ Some a → a.once ≡ false → AreAsked s g lines (performs line) asked → is_full answer_here ≡ false
  not_full a found again are = by_access a again (accesses_whole s g lines line asked a found are over)
