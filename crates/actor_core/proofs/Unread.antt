-- The board makes no access, so that what it knows of itself isn't read.
use Rattle.std.proofs.Common.{◌≡◌, ℕ, ◌≤◌, zero, suc, Bool, true, false, List, refl, ap, ◌∙◌, arith, if◌then◌else◌}
use Rattle.group_calls.specs.declared.ask.Told.{Told}
use Rattle.serve_machine.specs.declared.stage.Stage.TheVariants.{Popping, Judging, Acting, Completing, Ended}
use Rattle.vfio_driver.specs.declared.access.Known.{Known}
use Rattle.vfio_driver.specs.declared.bring_stage.BringStage.{BringStage}
use Rattle.vfio_driver.specs.declared.bring_stage.BringStage.TheVariants.{Posting, Taking, Over}
use Rattle.vfio_driver.specs.Bring.{after as bring_turned}
use Rattle.board_script.specs.Script.{Whole}
use Rattle.journal.specs.Knowing.{knows}
use Rattle.journal.specs.Doing.{Doing, asks, accesses, brings, serves, empties, hosts, steps, done, own_ask, after, bring_goes_on, ends_steps}
use Rattle.journal.specs.Performing.{Performed, all_asked}
use Rattle.journal.specs.Settling.{latest_doing}
use Rattle.actor_core.specs.declared.performer.Performer.{Performer}
use Rattle.actor_core.specs.Performers.{now_doing}
use Rattle.actor_core.specs.Stands.{Stands, is_access}

-- ---- what is asked

asks_alike : (who : ℕ) (one two : Known) (doing : Doing) → is_access doing ≡ false → own_ask who one doing ≡ own_ask who two doing
asks_alike who one two (accesses queue once access service) none = absurd (cc)
asks_alike who one two (asks ask) none = refl
asks_alike who one two (brings member way service) none = refl
asks_alike who one two (serves queue service) none = refl
asks_alike who one two (empties queue service) none = refl
asks_alike who one two (hosts going) none = refl
asks_alike who one two (steps member queue zero) none = refl
asks_alike who one two (steps member queue (suc left)) none = refl
asks_alike who one two done none = refl

-- ---- after an answer

goes_on_alike : (s : Whole) (one two : Known) (doing : Doing) (told : Told) → is_access doing ≡ false → after s one doing told ≡ after s two doing told
goes_on_alike s one two (accesses queue once access service) told none = absurd (cc)
goes_on_alike s one two (asks ask) told none = refl
goes_on_alike s one two (brings member way Ended) told none = refl
goes_on_alike s one two (brings member way Popping) told none = refl
goes_on_alike s one two (brings member way (Judging command bytes)) told none = refl
goes_on_alike s one two (brings member way (Acting command to access)) told none = refl
goes_on_alike s one two (brings member way (Completing seq bytes floor)) told none = refl
goes_on_alike s one two (serves queue service) told none = refl
goes_on_alike s one two (empties queue service) told none = refl
goes_on_alike s one two (hosts going) told none = refl
goes_on_alike s one two (steps member queue zero) told none = refl
goes_on_alike s one two (steps member queue (suc left)) told none = refl
goes_on_alike s one two done told none = refl

brings_no_access : (member : ℕ) (way : BringStage) (told : Told) → is_access (bring_goes_on member way told) ≡ false
brings_no_access member (Over brought) told = refl
brings_no_access member (Posting step) told = refl
brings_no_access member (Taking step seq) told = refl

steps_no_access : (b : Bool) (member queue left : ℕ) → is_access (if b then done else steps member queue left) ≡ false
steps_no_access true member queue left = refl
steps_no_access false member queue left = refl

pub still_no_access : (s : Whole) (known : Known) (doing : Doing) (told : Told) → is_access doing ≡ false → is_access (after s known doing told) ≡ false
still_no_access s known (accesses queue once access service) told none = absurd (cc)
still_no_access s known (asks ask) told none = refl
still_no_access s known (brings member way Ended) told none = brings_no_access member (bring_turned way told) told
still_no_access s known (brings member way Popping) told none = refl
still_no_access s known (brings member way (Judging command bytes)) told none = refl
still_no_access s known (brings member way (Acting command to access)) told none = refl
still_no_access s known (brings member way (Completing seq bytes floor)) told none = refl
still_no_access s known (serves queue service) told none = refl
still_no_access s known (empties queue service) told none = refl
still_no_access s known (hosts going) told none = refl
still_no_access s known (steps member queue zero) told none = refl
still_no_access s known (steps member queue (suc left)) told none = steps_no_access (ends_steps told) member queue left
still_no_access s known done told none = refl

-- ---- of an actor, board or not

pub asks_own : (s : Whole) (who : ℕ) (past : List Performed) (p : Performer) → Stands s who past p → own_ask p.who p.driver.known (now_doing p) ≡ own_ask who (knows who who (all_asked past)) (latest_doing s who past)
asks_own s who past p stands = ap (λ n. own_ask n p.driver.known (now_doing p)) stands.who_is ∙ ap (own_ask who p.driver.known) stands.doing_is ∙ by who stands.own stands.no_access
  where
    by : (n : ℕ) → (1 ≤ n → p.driver.known ≡ knows who who (all_asked past)) → (n ≡ 0 → is_access (latest_doing s who past) ≡ false)
        → own_ask who p.driver.known (latest_doing s who past) ≡ own_ask who (knows who who (all_asked past)) (latest_doing s who past)
    by zero own none = asks_alike who p.driver.known (knows who who (all_asked past)) (latest_doing s who past) (none refl)
    by (suc n) own none = let low : 1 ≤ suc n = omega arith in ap (λ k. own_ask who k (latest_doing s who past)) (own low)

pub goes_own : (s : Whole) (who : ℕ) (past : List Performed) (p : Performer) (told : Told) → Stands s who past p → after s p.driver.known (now_doing p) told ≡ after s (knows who who (all_asked past)) (latest_doing s who past) told
goes_own s who past p told stands = ap (λ d. after s p.driver.known d told) stands.doing_is ∙ by who stands.own stands.no_access
  where
    by : (n : ℕ) → (1 ≤ n → p.driver.known ≡ knows who who (all_asked past)) → (n ≡ 0 → is_access (latest_doing s who past) ≡ false)
        → after s p.driver.known (latest_doing s who past) told ≡ after s (knows who who (all_asked past)) (latest_doing s who past) told
    by zero own none = goes_on_alike s p.driver.known (knows who who (all_asked past)) (latest_doing s who past) told (none refl)
    by (suc n) own none = let low : 1 ≤ suc n = omega arith in ap (λ k. after s k (latest_doing s who past) told) (own low)
