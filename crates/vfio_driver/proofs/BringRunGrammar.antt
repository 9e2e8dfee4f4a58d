-- The runs of the machine of bring-up are bring-up by the grammar.
use Rattle.std.proofs.Common.{◌≡◌, ◌≢◌, ◌⊎◌, inl, inr, ℕ, ◌<◌, Bool, true, false, List, [], ◌∷◌, ◌++◌, Some, None, refl, sym, ap, subst, ◌∙◌, if◌then◌else◌, arith}
use Rattle.std.specs.Prelude.{IsSome, ◌↔◌, ◌==◌, ◌&&◌, not}
use Rattle.std.proofs.lemmas.Bool.Decides.{eqb_tells}
use Rattle.admin_wire.specs.Numbers.{ok}
use Rattle.admin_wire.specs.Done.{parts_of}
use Rattle.admin_wire.specs.declared.done.DoneParts.{DoneParts}
use Rattle.group_calls.specs.declared.ask.Ask.TheVariants.{Queue}
use Rattle.group_calls.specs.declared.ask.Told.{Told}
use Rattle.group_calls.specs.declared.ask.Told.TheVariants.{Queue as FromQueue, NoMemory}
use Rattle.group_calls.specs.declared.queue.RingCall.TheVariants.{Post, Take}
use Rattle.group_calls.specs.declared.queue.RingReply.{RingReply}
use Rattle.group_calls.specs.declared.queue.RingReply.TheVariants.{Seq, Full, Closed, Ready, NotYet, Lost, Stale}
use Rattle.group_calls.specs.Asks.{AnswersAsk, Exchange, AreAnswered}
use Rattle.vfio_driver.specs.declared.bring_stage.Brought.{Brought}
use Rattle.vfio_driver.specs.declared.bring_stage.Brought.TheVariants.{Ready as Usable, Unfit}
use Rattle.vfio_driver.specs.declared.bring_stage.BringCommand.{BringCommand}
use Rattle.vfio_driver.specs.declared.bring_stage.BringCommand.TheVariants.{Query, Use, Info}
use Rattle.vfio_driver.specs.declared.bring_stage.BringStage.{BringStage}
use Rattle.vfio_driver.specs.declared.bring_stage.BringStage.TheVariants.{Posting, Taking, Over}
use Rattle.vfio_driver.specs.Bring.{command_bytes, command_room, first_stage, next_ask, after_done, after_post, after_take, after}
use Rattle.vfio_driver.specs.Brought.{is_fit, has_opcodes, has_notify_entry}
use Rattle.vfio_driver.specs.Grammar.{IsPosted, IsTake, IsTaken, IsNotTaken}
use Rattle.vfio_driver.specs.BringGrammar.{IsPost, IsFull, IsNeverPosted, AreRetries, isnt_tried, is_full, AreWaits, is_posted, is_not_taken, IsCommand, is_never_posted, is_taken_back, lists_opcodes, IsBringUp, is_queried, is_used, is_informed, IsAnsweredBringUp, BeginsBringUp}
use Rattle.vfio_driver.specs.BringRuns.{stage_after, AreAsked, IsWholeRun, IsOpenRun}
use Rattle.vfio_driver.proofs.Replies.{some_same, is_some_next, IsPostReply, IsPostTold, post_told, take_told}
use Rattle.vfio_driver.proofs.RunGrammar.{take_splits}

-- ---- the stage after each answer

-- a Post was answered Full, or never posts, or has a number
post_splits : (told : Told) → IsPostTold told → IsFull told ⊎ (IsNeverPosted told ⊎ ((seq : ℕ) × IsPosted seq told))
post_splits (FromQueue placed) is = by placed.at placed.reply is
  where
    by : (at : ℕ) (reply : RingReply) → IsPostReply reply → IsFull (FromQueue (record { at = at; reply = reply })) ⊎ (IsNeverPosted (FromQueue (record { at = at; reply = reply })) ⊎ ((seq : ℕ) × IsPosted seq (FromQueue (record { at = at; reply = reply }))))
    by at (Seq seq) is = inr (inr (seq, refl))
    by at Full is = inl tt
    by at (Closed floor) is = inr (inl tt)
    by at _ is = absurd is
post_splits NoMemory is = inr (inl tt)
post_splits _ is = absurd is

full_step : (command : BringCommand) (told : Told) → IsFull told → after_post command told ≡ Posting command
full_step command (FromQueue placed) is = by placed.at placed.reply is
  where
    by : (at : ℕ) (reply : RingReply) → IsFull (FromQueue (record { at = at; reply = reply })) → after_post command (FromQueue (record { at = at; reply = reply })) ≡ Posting command
    by at Full is = refl
    by at _ is = absurd is
full_step command _ is = absurd is

posted_step : (command : BringCommand) (seq : ℕ) (told : Told) → IsPosted seq told → after_post command told ≡ Taking command seq
posted_step command seq (FromQueue placed) is = ap (λ reply. after_post command (FromQueue (record { at = placed.at; reply = reply }))) is
posted_step command seq _ is = absurd is

never_step : (command : BringCommand) (told : Told) → IsNeverPosted told → (brought : Brought) × (after_post command told ≡ Over brought)
never_step command (FromQueue placed) is = by placed.at placed.reply is
  where
    by : (at : ℕ) (reply : RingReply) → IsNeverPosted (FromQueue (record { at = at; reply = reply })) → (brought : Brought) × (after_post command (FromQueue (record { at = at; reply = reply })) ≡ Over brought)
    by at (Closed floor) is = (Unfit 22 0 0, refl)
    by at _ is = absurd is
never_step command NoMemory is = (Unfit 12 0 0, refl)
never_step command _ is = absurd is

never_lists : (told : Told) → IsNeverPosted told → lists_opcodes told ≡ false
never_lists (FromQueue placed) is = by placed.at placed.reply is
  where
    by : (at : ℕ) (reply : RingReply) → IsNeverPosted (FromQueue (record { at = at; reply = reply })) → lists_opcodes (FromQueue (record { at = at; reply = reply })) ≡ false
    by at (Closed floor) is = refl
    by at _ is = absurd is
never_lists NoMemory is = refl
never_lists _ is = absurd is

not_taken_step : (command : BringCommand) (seq : ℕ) (told : Told) → IsNotTaken told → after_take command seq told ≡ Taking command seq
not_taken_step command seq (FromQueue placed) is = by placed.at placed.reply is
  where
    by : (at : ℕ) (reply : RingReply) → IsNotTaken (FromQueue (record { at = at; reply = reply })) → after_take command seq (FromQueue (record { at = at; reply = reply })) ≡ Taking command seq
    by at NotYet is = refl
    by at Stale is = refl
    by at _ is = absurd is
not_taken_step command seq _ is = absurd is

-- a completion of LIST_QUERY
query_tests : (good listed : Bool) (bad lacking : Brought) → good && listed ≡ true → (if not good then Over bad else if listed then Posting Use else Over lacking) ≡ Posting Use
query_tests true true bad lacking is = refl
query_tests true false bad lacking is = absurd (cc)
query_tests false listed bad lacking is = absurd (cc)

query_fails : (good listed : Bool) (bad lacking : Brought) → good && listed ≡ false → (brought : Brought) × ((if not good then Over bad else if listed then Posting Use else Over lacking) ≡ Over brought)
query_fails true true bad lacking is = absurd (cc)
query_fails true false bad lacking is = (lacking, refl)
query_fails false listed bad lacking is = (bad, refl)

-- and of the last command
last_over : (good : Bool) (bad : Brought) (stage : BringStage) → ((brought : Brought) × (stage ≡ Over brought)) → (brought : Brought) × ((if not good then Over bad else stage) ≡ Over brought)
last_over true bad stage is = is
last_over false bad stage is = (bad, refl)

info_over : (fits : Bool) (good bad : Brought) → (brought : Brought) × ((if fits then Over good else Over bad) ≡ Over brought)
info_over true good bad = (good, refl)
info_over false good bad = (bad, refl)

done_over : (command : BringCommand) (done : DoneParts) (floor : ℕ) → (command ≡ Query → is_fit Query done ≡ false) → (brought : Brought) × (after_done command done floor ≡ Over brought)
done_over Query done floor lacks = query_fails (done.status == ok) (has_opcodes done) _ _ (lacks refl)
done_over Use done floor lacks = last_over (done.status == ok) _ _ (Usable floor, refl)
done_over Info done floor lacks = last_over (done.status == ok) _ _ (info_over (has_notify_entry done) _ _)

taken_over : (command : BringCommand) (seq : ℕ) (told : Told) → IsTaken told → (command ≡ Query → lists_opcodes told ≡ false) → (brought : Brought) × (after_take command seq told ≡ Over brought)
taken_over command seq (FromQueue placed) is lacks = by placed.at placed.reply is lacks
  where
    by : (at : ℕ) (reply : RingReply) → IsTaken (FromQueue (record { at = at; reply = reply })) → (command ≡ Query → lists_opcodes (FromQueue (record { at = at; reply = reply })) ≡ false)
        → (brought : Brought) × (after_take command seq (FromQueue (record { at = at; reply = reply })) ≡ Over brought)
    by at (Ready bytes floor) is lacks = done_over command (parts_of bytes) floor lacks
    by at (Lost floor) is lacks = (Unfit 22 0 0, refl)
    by at _ is lacks = absurd is
taken_over command seq _ is lacks = absurd is

taken_listed : (seq : ℕ) (told : Told) → lists_opcodes told ≡ true → after_take Query seq told ≡ Posting Use
taken_listed seq (FromQueue placed) is = by placed.at placed.reply is
  where
    by : (at : ℕ) (reply : RingReply) → lists_opcodes (FromQueue (record { at = at; reply = reply })) ≡ true → after_take Query seq (FromQueue (record { at = at; reply = reply })) ≡ Posting Use
    by at (Ready bytes floor) is = let done = parts_of bytes in query_tests (done.status == ok) (has_opcodes done) _ _ is
    by at _ is = absurd (cc)
taken_listed seq _ is = absurd (cc)

other_use : Use ≡ Query → ⊥
other_use e = cc

other_info : Info ≡ Query → ⊥
other_info e = cc

-- ---- from a run to the grammar

module _ (member : ℕ) where
  -- what is asked before a command
  data Stands : BringCommand → List Exchange → Type 0 where
    first : member ≡ 0 → Stands Query []
    second : (x : Exchange) (past : List Exchange) → member ≡ 0 → IsCommand member Query [] (x ∷ past) → lists_opcodes x.1 ≡ true → Stands Use (x ∷ past)
    alone : 0 < member → Stands Info []

  -- bring-up that has come to a stage
  data Has : BringStage → List Exchange → Type 0 where
    posts : (command : BringCommand) (before past : List Exchange) → Stands command before → AreRetries member command before past → Has (Posting command) past
    waits : (command : BringCommand) (seq : ℕ) (before past : List Exchange) → Stands command before → AreWaits member command before seq past → Has (Taking command seq) past
    ends : (brought : Brought) (xs : List Exchange) → IsBringUp member xs → Has (Over brought) xs

  begins : Has (first_stage member) []
  begins = from (eqb_tells member 0)
    where
      from : (((member == 0) ≡ true) × (member ≡ 0)) ⊎ (((member == 0) ≡ false) × (member ≢ 0)) → Has (first_stage member) []
      from (inl is) = subst (λ b. Has (if b then Posting Query else Posting Info) []) (sym is.0) (posts Query [] [] (first is.1) isnt_tried)
      from (inr isnt) = let some : 0 < member = (let lacks = isnt.1 in omega arith) in subst (λ b. Has (if b then Posting Query else Posting Info) []) (sym isnt.0) (posts Info [] [] (alone some) isnt_tried)

  -- bring-up ends with a command, but not with a fit LIST_QUERY
  finished : (command : BringCommand) (before : List Exchange) (x : Exchange) (past : List Exchange) → Stands command before → IsCommand member command before (x ∷ past) → (command ≡ Query → lists_opcodes x.1 ≡ false) → IsBringUp member (x ∷ past)
  finished _ _ x past (first zero) is lacks = is_queried x past zero is (lacks refl)
  finished _ _ x past (second y earlier zero query listed) is lacks = is_used y earlier (x ∷ past) zero query listed is
  finished _ _ x past (alone some) is lacks = is_informed (x ∷ past) some is

  post_has : (command : BringCommand) (before past : List Exchange) → Stands command before → AreRetries member command before past → (x : Exchange) → IsPost member command x
      → IsFull x.1 ⊎ (IsNeverPosted x.1 ⊎ ((seq : ℕ) × IsPosted seq x.1)) → Has (after_post command x.1) (x ∷ past)
  post_has command before past stands retries x is (inl full) =
      subst (λ s. Has s (x ∷ past)) (sym (full_step command x.1 full)) (posts command before (x ∷ past) stands (is_full x past retries is full))
  post_has command before past stands retries x is (inr (inl never)) =
      let over = never_step command x.1 never in
      subst (λ s. Has s (x ∷ past)) (sym over.1) (ends over.0 (x ∷ past) (finished command before x past stands (is_never_posted x past retries is never) (λ query. never_lists x.1 never)))
  post_has command before past stands retries x is (inr (inr some)) =
      subst (λ s. Has s (x ∷ past)) (sym (posted_step command some.0 x.1 some.1)) (waits command some.0 before (x ∷ past) stands (is_posted x past retries is some.1))

  ended : (command : BringCommand) (before : List Exchange) (x : Exchange) (past : List Exchange) → Stands command before → IsCommand member command before (x ∷ past) → (seq : ℕ) → IsTaken x.1 → (command ≡ Query → lists_opcodes x.1 ≡ false)
      → Has (after_take command seq x.1) (x ∷ past)
  ended command before x past stands is seq taken lacks =
      let over = taken_over command seq x.1 taken lacks in
      subst (λ s. Has s (x ∷ past)) (sym over.1) (ends over.0 (x ∷ past) (finished command before x past stands is lacks))

  taken_has : (command : BringCommand) (before : List Exchange) (x : Exchange) (past : List Exchange) → Stands command before → IsCommand member command before (x ∷ past) → (seq : ℕ) → IsTaken x.1 → (b : Bool) → lists_opcodes x.1 ≡ b
      → Has (after_take command seq x.1) (x ∷ past)
  taken_has command before x past stands is seq taken false lacks = ended command before x past stands is seq taken (λ query. lacks)
  taken_has _ _ x past (first zero) is seq taken true listed =
      subst (λ s. Has s (x ∷ past)) (sym (taken_listed seq x.1 listed)) (posts Use (x ∷ past) (x ∷ past) (second x past zero is listed) isnt_tried)
  taken_has _ _ x past (second y earlier zero query good) is seq taken true listed = ended Use (y ∷ earlier) x past (second y earlier zero query good) is seq taken (λ e. absurd (other_use e))
  taken_has _ _ x past (alone some) is seq taken true listed = ended Info [] x past (alone some) is seq taken (λ e. absurd (other_info e))

  take_has : (command : BringCommand) (seq : ℕ) (before past : List Exchange) → Stands command before → AreWaits member command before seq past → (x : Exchange) → IsTake 0 seq x → IsTaken x.1 ⊎ IsNotTaken x.1 → Has (after_take command seq x.1) (x ∷ past)
  take_has command seq before past stands are x is (inl taken) = taken_has command before x past stands (is_taken_back seq x past are is taken) seq taken (lists_opcodes x.1) refl
  take_has command seq before past stands are x is (inr not) =
      subst (λ s. Has s (x ∷ past)) (sym (not_taken_step command seq x.1 not)) (waits command seq before (x ∷ past) stands (is_not_taken x past are is not))

  has_more : (stage : BringStage) (xs : List Exchange) → Has stage xs → (x : Exchange) → next_ask member stage ≡ Some x.0 → AnswersAsk x.0 x.1 → Has (after stage x.1) (x ∷ xs)
  has_more _ _ (posts command before past stands retries) x next answers =
      let is = sym (some_same _ _ next) in
      post_has command before past stands retries x is
      (post_splits x.1 (post_told 0 (command_bytes member command) (command_room command) (record { guest = member; floor = 0 }) x.1 (subst (λ ask. AnswersAsk ask x.1) is answers)))
  has_more _ _ (waits command seq before past stands are) x next answers =
      let is = sym (some_same _ _ next) in
      take_has command seq before past stands are x is (take_splits x.1 (take_told 0 seq x.1 (subst (λ ask. AnswersAsk ask x.1) is answers)))
  has_more _ _ (ends brought xs is) x next answers = absurd (cc)

  has : (xs : List Exchange) → AreAnswered xs → AreAsked member xs → Has (stage_after member xs) xs
  has [] answered asked = begins
  has (x ∷ past) answered asked = has_more (stage_after member past) past (has past answered.1 asked.1) x asked.0 answered.0

  over : (stage : BringStage) (xs : List Exchange) → Has stage xs → next_ask member stage ≡ None → IsBringUp member xs
  over _ _ (posts command before past stands retries) none = absurd (cc)
  over _ _ (waits command seq before past stands are) none = absurd (cc)
  over _ _ (ends brought xs is) none = is

  -- open bring-up can be ended
  goes_on : (stage : BringStage) (xs : List Exchange) → Has stage xs → IsSome (next_ask member stage) → (next : Exchange) × (more : List Exchange) × IsBringUp member (more ++ next ∷ xs)
  goes_on _ _ (posts command before past stands retries) some =
      let post : Exchange = (Queue 0 (Post (command_bytes member command) (command_room command) (record { guest = member; floor = 0 })), NoMemory) in
      (post, [], finished command before post past stands (is_never_posted post past retries refl tt) (λ query. refl))
  goes_on _ _ (waits command seq before past stands are) some =
      let take : Exchange = (Queue 0 (Take seq), FromQueue (record { at = 0; reply = Lost 0 })) in
      (take, [], finished command before take past stands (is_taken_back seq take past are refl tt) (λ query. refl))
  goes_on _ _ (ends brought xs is) some = absurd (cc)

  -- ---- and from the grammar to a run

  -- what is asked is the machine's, which is at a stage
  abbrev IsAt : BringStage → List Exchange → Type 0
  IsAt stage xs = AreAsked member xs × (stage_after member xs ≡ stage)

  abbrev IsEnded : List Exchange → Type 0
  IsEnded xs = AreAsked member xs × ((brought : Brought) × (stage_after member xs ≡ Over brought))

  asked_more : (stage : BringStage) (xs : List Exchange) (x : Exchange) → IsAt stage xs → next_ask member stage ≡ Some x.0 → IsAt (after stage x.1) (x ∷ xs)
  asked_more stage xs x is next = ((ap (next_ask member) is.1 ∙ next, is.0), ap (λ s. after s x.1) is.1)

  at_same : (stage other : BringStage) (xs : List Exchange) → stage ≡ other → IsAt stage xs → IsAt other xs
  at_same stage other xs same is = (is.0, is.1 ∙ same)

  retries_run : (command : BringCommand) (before : List Exchange) → IsAt (Posting command) before → (xs : List Exchange) → AreRetries member command before xs → IsAt (Posting command) xs
  retries_run command before start _ isnt_tried = start
  retries_run command before start _ (is_full post past retries is full) =
      at_same _ _ (post ∷ past) (full_step command post.1 full) (asked_more (Posting command) past post (retries_run command before start past retries) (ap Some (sym is)))

  waits_run : (command : BringCommand) (seq : ℕ) (before : List Exchange) → IsAt (Posting command) before → (xs : List Exchange) → AreWaits member command before seq xs → IsAt (Taking command seq) xs
  waits_run command seq before start _ (is_posted post past retries is posted) =
      at_same _ _ (post ∷ past) (posted_step command seq post.1 posted) (asked_more (Posting command) past post (retries_run command before start past retries) (ap Some (sym is)))
  waits_run command seq before start _ (is_not_taken take past are is not) =
      at_same _ _ (take ∷ past) (not_taken_step command seq take.1 not) (asked_more (Taking command seq) past take (waits_run command seq before start past are) (ap Some (sym is)))

  never_run : (command : BringCommand) (before : List Exchange) → IsAt (Posting command) before → (post : Exchange) (past : List Exchange) → AreRetries member command before past → IsPost member command post → IsNeverPosted post.1 → IsEnded (post ∷ past)
  never_run command before start post past retries is never =
      let more = asked_more (Posting command) past post (retries_run command before start past retries) (ap Some (sym is)) in
      let over = never_step command post.1 never in
      (more.0, (over.0, more.1 ∙ over.1))

  taken_run : (command : BringCommand) (seq : ℕ) (before : List Exchange) → IsAt (Posting command) before → (take : Exchange) (past : List Exchange) → AreWaits member command before seq past → IsTake 0 seq take → IsAt (after_take command seq take.1) (take ∷ past)
  taken_run command seq before start take past are is = asked_more (Taking command seq) past take (waits_run command seq before start past are) (ap Some (sym is))

  last_run : (command : BringCommand) (before : List Exchange) → (command ≡ Query → ⊥) → IsAt (Posting command) before → (xs : List Exchange) → IsCommand member command before xs → IsEnded xs
  last_run command before other start _ (is_never_posted post past retries is never) = never_run command before start post past retries is never
  last_run command before other start _ (is_taken_back seq take past are is taken) =
      let more = taken_run command seq before start take past are is in
      let over = taken_over command seq take.1 taken (λ e. absurd (other e)) in
      (more.0, (over.0, more.1 ∙ over.1))

  query_run : (xs : List Exchange) → IsCommand member Query [] xs → IsAt (Posting Query) [] → (x : Exchange) (past : List Exchange) → xs ≡ x ∷ past → lists_opcodes x.1 ≡ false → IsEnded xs
  query_run _ (is_never_posted post past retries is never) start x earlier same lacks = never_run Query [] start post past retries is never
  query_run _ (is_taken_back seq take past are is taken) start x earlier same lacks =
      let more = taken_run Query seq [] start take past are is in
      let head : take ≡ x = cc in
      let over = taken_over Query seq take.1 taken (λ e. ap (λ (y : Exchange). lists_opcodes y.1) head ∙ lacks) in
      (more.0, (over.0, more.1 ∙ over.1))

  listed_run : (xs : List Exchange) → IsCommand member Query [] xs → IsAt (Posting Query) [] → (x : Exchange) (past : List Exchange) → xs ≡ x ∷ past → lists_opcodes x.1 ≡ true → IsAt (Posting Use) xs
  listed_run _ (is_never_posted post past retries is never) start x earlier same listed =
      let head : post ≡ x = cc in
      absurd (let lacks = never_lists post.1 never in let yes = ap (λ (y : Exchange). lists_opcodes y.1) head ∙ listed in cc)
  listed_run _ (is_taken_back seq take past are is taken) start x earlier same listed =
      let head : take ≡ x = cc in
      at_same _ _ (take ∷ past) (taken_listed seq take.1 (ap (λ (y : Exchange). lists_opcodes y.1) head ∙ listed)) (taken_run Query seq [] start take past are is)

  starts_query : member ≡ 0 → IsAt (Posting Query) []
  starts_query zero = (tt, ap first_stage zero)

  starts_info : 0 < member → IsAt (Posting Info) []
  starts_info some = (tt, from (eqb_tells member 0))
    where
      from : (((member == 0) ≡ true) × (member ≡ 0)) ⊎ (((member == 0) ≡ false) × (member ≢ 0)) → first_stage member ≡ Posting Info
      from (inl is) = absurd (let zero = is.1 in omega arith)
      from (inr isnt) = ap (λ b. if b then Posting Query else Posting Info) isnt.0

  run_of : (xs : List Exchange) → IsBringUp member xs → IsEnded xs
  run_of _ (is_queried x past zero is lacks) = query_run (x ∷ past) is (starts_query zero) x past refl lacks
  run_of _ (is_used x past xs zero query listed uses) = last_run Use (x ∷ past) other_use (listed_run (x ∷ past) query (starts_query zero) x past refl listed) xs uses
  run_of _ (is_informed xs some is) = last_run Info [] other_info (starts_info some) xs is

  asked_before : (more xs : List Exchange) → AreAsked member (more ++ xs) → AreAsked member xs
  asked_before [] xs asked = asked
  asked_before (x ∷ more) xs asked = asked_before more xs asked.1

  -- ---- both ways

  pub whole : (xs : List Exchange) → IsWholeRun member xs ↔ IsAnsweredBringUp member xs
  whole xs = (
    λ run. (run.0, over (stage_after member xs) xs (has xs run.0 run.1) run.2),
    λ is. let run = run_of xs is.1 in (is.0, run.0, ap (next_ask member) run.1.1),
  )

  pub begun : (xs : List Exchange) → IsOpenRun member xs ↔ BeginsBringUp member xs
  begun xs = (
    λ run. (run.0, goes_on (stage_after member xs) xs (has xs run.0 run.1) run.2),
    λ is.
        let rest = is.1 in
        let asked = asked_before rest.1 (rest.0 ∷ xs) (run_of (rest.1 ++ rest.0 ∷ xs) rest.2).0 in
        (is.0, asked.1, is_some_next (next_ask member (stage_after member xs)) rest.0.0 asked.0),
  )
