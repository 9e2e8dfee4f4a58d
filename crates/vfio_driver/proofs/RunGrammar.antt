-- The asks of the machine, whatever floors they have, are the accesses of the grammar.
use Rattle.std.proofs.Common.{◌≡◌, ◌⊎◌, inl, inr, ℕ, ◌+◌, Bool, true, false, List, [], ◌∷◌, ◌++◌, Some, None, refl, sym, ap, subst, ◌∙◌, if◌then◌else◌}
use Rattle.std.specs.Prelude.{IsSome}
use Rattle.admin_wire.specs.Done.{parts_of}
use Rattle.admin_wire.specs.Numbers.{fixed_size}
use Rattle.admin_wire.specs.Writing.{legacy_bytes, result_length}
use Rattle.admin_wire.specs.declared.command.LegacyCmd.{LegacyCmd}
use Rattle.group_calls.specs.declared.ask.Ask.{Ask}
use Rattle.group_calls.specs.declared.ask.Ask.TheVariants.{Queue, Member}
use Rattle.group_calls.specs.declared.ask.Told.{Told}
use Rattle.group_calls.specs.declared.ask.Told.TheVariants.{Queue as FromQueue, NoMemory}
use Rattle.group_calls.specs.declared.queue.RingCall.TheVariants.{Post, Take}
use Rattle.group_calls.specs.declared.queue.RingReply.{RingReply}
use Rattle.group_calls.specs.declared.queue.RingReply.TheVariants.{Seq, Full, Closed, Ready, NotYet, Lost, Stale}
use Rattle.group_calls.specs.declared.member.MemberCall.TheVariants.{Notify}
use Rattle.group_calls.specs.Asks.{AnswersAsk, Exchange, AreAnswered}
use Rattle.io_bar.specs.declared.access.Route.{Route}
use Rattle.io_bar.specs.declared.access.Route.TheVariants.{Command, Doorbell, Local}
use Rattle.vfio_driver.specs.declared.access.Stage.{Stage}
use Rattle.vfio_driver.specs.declared.access.Stage.TheVariants.{Nothing, Ringing, Posting, Taking}
use Rattle.vfio_driver.specs.declared.access.Known.{Known}
use Rattle.vfio_driver.specs.Access.{is_read, stage_by, next_ask}
use Rattle.vfio_driver.specs.Grammar.{IsPost, IsPosted, IsNotPosted, IsTake, IsTaken, IsNotTaken, AreWaits, IsAccess, asks_nothing, is_rung, is_not_posted, is_taken_back}
use Rattle.vfio_driver.proofs.Replies.{some_same, either, IsPostReply, IsPostTold, post_told, IsTakeReply, IsTakeTold, take_told}
use Rattle.vfio_driver.proofs.Stages.{step, notify_stage, done_stage}

-- ---- the kinds of answers to a Post and to a Take

pub post_splits : (told : Told) → IsPostTold told → IsNotPosted told ⊎ ((seq : ℕ) × IsPosted seq told)
post_splits (FromQueue placed) is = by placed.at placed.reply is
  where
    by : (at : ℕ) (reply : RingReply) → IsPostReply reply → IsNotPosted (FromQueue (record { at = at; reply = reply })) ⊎ ((seq : ℕ) × IsPosted seq (FromQueue (record { at = at; reply = reply })))
    by at (Seq seq) is = inr (seq, refl)
    by at Full is = inl tt
    by at (Closed floor) is = inl tt
    by at _ is = absurd is
post_splits NoMemory is = inl tt
post_splits _ is = absurd is

pub take_splits : (told : Told) → IsTakeTold told → IsTaken told ⊎ IsNotTaken told
take_splits (FromQueue placed) is = by placed.at placed.reply is
  where
    by : (at : ℕ) (reply : RingReply) → IsTakeReply reply → IsTaken (FromQueue (record { at = at; reply = reply })) ⊎ IsNotTaken (FromQueue (record { at = at; reply = reply }))
    by at (Ready bytes floor) is = inl tt
    by at (Lost floor) is = inl tt
    by at NotYet is = inr tt
    by at Stale is = inr tt
    by at _ is = absurd is
take_splits _ is = absurd is

-- ---- the stage after each

posted_step : (queue seq : ℕ) (bytes : List ℕ) (writable : ℕ) (reads : Bool) (told : Told) → IsPosted seq told → step (Posting queue bytes writable reads) told ≡ Taking queue seq reads
posted_step queue seq bytes writable reads (FromQueue placed) is = ap (λ reply. step (Posting queue bytes writable reads) (FromQueue (record { at = placed.at; reply = reply }))) is
posted_step queue seq bytes writable reads _ is = absurd is

not_posted_step : (queue : ℕ) (bytes : List ℕ) (writable : ℕ) (reads : Bool) (told : Told) → IsNotPosted told → step (Posting queue bytes writable reads) told ≡ Nothing
not_posted_step queue bytes writable reads (FromQueue placed) is = by placed.at placed.reply is
  where
    by : (at : ℕ) (reply : RingReply) → IsNotPosted (FromQueue (record { at = at; reply = reply })) → step (Posting queue bytes writable reads) (FromQueue (record { at = at; reply = reply })) ≡ Nothing
    by at Full is = refl
    by at (Closed floor) is = refl
    by at _ is = absurd is
not_posted_step queue bytes writable reads NoMemory is = refl
not_posted_step queue bytes writable reads _ is = absurd is

taken_step : (queue seq : ℕ) (reads : Bool) (told : Told) → IsTaken told → step (Taking queue seq reads) told ≡ Nothing
taken_step queue seq reads (FromQueue placed) is = by placed.at placed.reply is
  where
    by : (at : ℕ) (reply : RingReply) → IsTaken (FromQueue (record { at = at; reply = reply })) → step (Taking queue seq reads) (FromQueue (record { at = at; reply = reply })) ≡ Nothing
    by at (Ready bytes floor) is = done_stage (record { floor = _; gone = false }) reads (parts_of bytes)
    by at (Lost floor) is = refl
    by at _ is = absurd is
taken_step queue seq reads _ is = absurd is

not_taken_step : (queue seq : ℕ) (reads : Bool) (told : Told) → IsNotTaken told → step (Taking queue seq reads) told ≡ Taking queue seq reads
not_taken_step queue seq reads (FromQueue placed) is = by placed.at placed.reply is
  where
    by : (at : ℕ) (reply : RingReply) → IsNotTaken (FromQueue (record { at = at; reply = reply })) → step (Taking queue seq reads) (FromQueue (record { at = at; reply = reply })) ≡ Taking queue seq reads
    by at NotYet is = refl
    by at Stale is = refl
    by at _ is = absurd is
not_taken_step queue seq reads _ is = absurd is

-- ---- asks under any floor

abbrev pub knows : ℕ → Known
knows floor = record { floor = floor; gone = false }

-- the next ask of a stage under some floor
abbrev pub IsNext : ℕ → Stage → Ask → Type 0
IsNext guest stage ask = (floor : ℕ) × (next_ask guest (knows floor) stage ≡ Some ask)

abbrev pub begun_at : ℕ → Bool → ℕ → Route → Stage
begun_at guest gone queue route = if gone then Nothing else stage_by guest route queue

abbrev pub stage_of : ℕ → Bool → ℕ → Route → List Exchange → Stage
stage_of guest gone queue route [] = begun_at guest gone queue route
stage_of guest gone queue route (x ∷ past) = step (stage_of guest gone queue route past) x.1

abbrev pub AreNext : ℕ → Bool → ℕ → Route → List Exchange → Type 0
AreNext guest gone queue route [] = Unit {0}
AreNext guest gone queue route (x ∷ past) = IsNext guest (stage_of guest gone queue route past) x.0 × AreNext guest gone queue route past

-- ---- from a run to the grammar

-- an access that has come to a stage
pub data Has (guest : ℕ) (gone : Bool) (queue : ℕ) : Route → Stage → List Exchange → Type 0 where
  rings : (number : ℕ) → gone ≡ false → Has guest gone queue (Doorbell number) (Ringing number) []
  posts : (command : LegacyCmd) → gone ≡ false → Has guest gone queue (Command command) (Posting queue (legacy_bytes guest command) (fixed_size + result_length command) (is_read command)) []
  waits : (command : LegacyCmd) (seq : ℕ) (post : Exchange) (xs : List Exchange) → gone ≡ false → IsPost guest queue command post → IsPosted seq post.1 → AreWaits queue seq xs
      → Has guest gone queue (Command command) (Taking queue seq (is_read command)) (xs ++ post ∷ [])
  ends : (route : Route) (xs : List Exchange) → IsAccess guest gone queue route xs → Has guest gone queue route Nothing xs

module _ (guest : ℕ) (gone : Bool) (queue : ℕ) where
  abbrev HasCome : Route → Stage → List Exchange → Type 0
  HasCome route stage xs = Has guest gone queue route stage xs

  come_to : (route : Route) (stage : Stage) (xs : List Exchange) → stage ≡ Nothing → IsAccess guest gone queue route xs → HasCome route stage xs
  come_to route stage xs over is = subst (λ s. HasCome route s xs) (sym over) (ends route xs is)

  begins_there : (route : Route) → gone ≡ false → HasCome route (stage_by guest route queue) []
  begins_there Local there = ends Local [] (asks_nothing Local (inr refl))
  begins_there (Doorbell number) there = rings number there
  begins_there (Command command) there = posts command there

  begins : (route : Route) (b : Bool) → gone ≡ b → HasCome route (if b then Nothing else stage_by guest route queue) []
  begins route true is = ends route [] (asks_nothing route (inl is))
  begins route false there = begins_there route there

  post_has : (command : LegacyCmd) (x : Exchange) → gone ≡ false → IsPost guest queue command x → IsNotPosted x.1 ⊎ ((seq : ℕ) × IsPosted seq x.1)
      → HasCome (Command command) (step (Posting queue (legacy_bytes guest command) (fixed_size + result_length command) (is_read command)) x.1) (x ∷ [])
  post_has command x there is (inl not) =
      come_to (Command command) _ (x ∷ []) (not_posted_step queue (legacy_bytes guest command) (fixed_size + result_length command) (is_read command) x.1 not) (is_not_posted command x there is not)
  post_has command x there is (inr some) =
      subst (λ s. HasCome (Command command) s (x ∷ [])) (sym (posted_step queue some.0 (legacy_bytes guest command) (fixed_size + result_length command) (is_read command) x.1 some.1)) (waits command some.0 x [] there is some.1 tt)

  take_has : (command : LegacyCmd) (seq : ℕ) (post : Exchange) (xs : List Exchange) → gone ≡ false → IsPost guest queue command post → IsPosted seq post.1 → AreWaits queue seq xs
      → (x : Exchange) → IsTake queue seq x → IsTaken x.1 ⊎ IsNotTaken x.1 → HasCome (Command command) (step (Taking queue seq (is_read command)) x.1) (x ∷ (xs ++ post ∷ []))
  take_has command seq post xs there is_post posted are x is (inl taken) =
      come_to (Command command) _ (x ∷ (xs ++ post ∷ [])) (taken_step queue seq (is_read command) x.1 taken) (is_taken_back command seq post xs x there is_post posted are is taken)
  take_has command seq post xs there is_post posted are x is (inr not) =
      subst (λ s. HasCome (Command command) s (x ∷ (xs ++ post ∷ []))) (sym (not_taken_step queue seq (is_read command) x.1 not)) (waits command seq post (x ∷ xs) there is_post posted (is, not, are))

  has_more : (route : Route) (stage : Stage) (xs : List Exchange) → HasCome route stage xs → (x : Exchange) → IsNext guest stage x.0 → AnswersAsk x.0 x.1 → HasCome route (step stage x.1) (x ∷ xs)
  has_more _ _ _ (rings number there) x next answers =
      come_to (Doorbell number) _ (x ∷ []) (notify_stage (knows 0) x.1) (is_rung number x there (next.0, sym (some_same _ _ next.1)))
  has_more _ _ _ (posts command there) x next answers =
      let is = sym (some_same _ _ next.1) in
      post_has command x there (next.0, is)
      (post_splits x.1 (post_told queue (legacy_bytes guest command) (fixed_size + result_length command) (record { guest = guest; floor = next.0 }) x.1 (subst (λ ask. AnswersAsk ask x.1) is answers)))
  has_more _ _ _ (waits command seq post xs there is_post posted are) x next answers =
      let is = sym (some_same _ _ next.1) in
      take_has command seq post xs there is_post posted are x is (take_splits x.1 (take_told queue seq x.1 (subst (λ ask. AnswersAsk ask x.1) is answers)))
  has_more _ _ _ (ends route xs is) x next answers = absurd (let none = next.1 in cc)

  pub has : (route : Route) (xs : List Exchange) → AreAnswered xs → AreNext guest gone queue route xs → HasCome route (stage_of guest gone queue route xs) xs
  has route [] answered next = begins route gone refl
  has route (x ∷ past) answered next = has_more route _ past (has route past answered.1 next.1) x next.0 answered.0

  pub over : (route : Route) (floor : ℕ) (stage : Stage) (xs : List Exchange) → HasCome route stage xs → next_ask guest (knows floor) stage ≡ None → IsAccess guest gone queue route xs
  over _ _ _ _ (rings number there) none = absurd (cc)
  over _ _ _ _ (posts command there) none = absurd (cc)
  over _ _ _ _ (waits command seq post xs there is_post posted are) none = absurd (cc)
  over _ _ _ _ (ends route xs is) none = is

  -- an open access can be ended
  pub goes_on : (route : Route) (floor : ℕ) (stage : Stage) (xs : List Exchange) → HasCome route stage xs → IsSome (next_ask guest (knows floor) stage) → (next : Exchange) × (more : List Exchange) × IsAccess guest gone queue route (more ++ next ∷ xs)
  goes_on _ floor _ _ (rings number there) some = ((Member guest 0 (Notify number), NoMemory), [], is_rung number (Member guest 0 (Notify number), NoMemory) there (0, refl))
  goes_on _ floor _ _ (posts command there) some =
      let post : Exchange = (Queue queue (Post (legacy_bytes guest command) (fixed_size + result_length command) (record { guest = guest; floor = 0 })), NoMemory) in
      (post, [], is_not_posted command post there (0, refl) tt)
  goes_on _ floor _ _ (waits command seq post xs there is_post posted are) some =
      let take : Exchange = (Queue queue (Take seq), FromQueue (record { at = 0; reply = Lost 0 })) in
      (take, [], is_taken_back command seq post xs take there is_post posted are refl tt)
  goes_on _ floor _ _ (ends route xs is) some = absurd (cc)

  -- ---- and from the grammar to a run

  opens : (route : Route) → gone ≡ false → begun_at guest gone queue route ≡ stage_by guest route queue
  opens route there = ap (λ b. if b then Nothing else stage_by guest route queue) there

  opens_nothing : (route : Route) → (gone ≡ true) ⊎ (route ≡ Local) → begun_at guest gone queue route ≡ Nothing
  opens_nothing route (inl is) = ap (λ b. if b then Nothing else stage_by guest route queue) is
  opens_nothing route (inr local) = ap (λ r. begun_at guest gone queue r) local ∙ either (λ stage. stage ≡ Nothing) gone Nothing Nothing refl refl

  -- it is the next of the stage that this equals
  next_at : (stage other : Stage) (ask : Ask) → stage ≡ other → IsNext guest other ask → IsNext guest stage ask
  next_at stage other ask same next = (next.0, ap (next_ask guest (knows next.0)) same ∙ next.1)

  waits_run : (command : LegacyCmd) (seq : ℕ) (post : Exchange) (xs : List Exchange) → gone ≡ false → IsPost guest queue command post → IsPosted seq post.1 → AreWaits queue seq xs
      → AreNext guest gone queue (Command command) (xs ++ post ∷ []) × (stage_of guest gone queue (Command command) (xs ++ post ∷ []) ≡ Taking queue seq (is_read command))
  waits_run command seq post [] there is_post posted are =
      let at = opens (Command command) there in (
        (next_at _ _ post.0 at (is_post.0, ap Some (sym is_post.1)), tt),
        ap (λ s. step s post.1) at ∙ posted_step queue seq (legacy_bytes guest command) (fixed_size + result_length command) (is_read command) post.1 posted,
      )
  waits_run command seq post (x ∷ xs) there is_post posted are =
      let earlier = waits_run command seq post xs there is_post posted are.2 in
      ((next_at _ _ x.0 earlier.1 (0, ap Some (sym are.0)), earlier.0), ap (λ s. step s x.1) earlier.1 ∙ not_taken_step queue seq (is_read command) x.1 are.1)

  pub run_of : (route : Route) (xs : List Exchange) → IsAccess guest gone queue route xs → AreNext guest gone queue route xs × (stage_of guest gone queue route xs ≡ Nothing)
  run_of _ _ (asks_nothing route nothing) = (tt, opens_nothing route nothing)
  run_of _ _ (is_rung number x there is) =
      let at = opens (Doorbell number) there in
      ((next_at _ _ x.0 at (is.0, ap Some (sym is.1)), tt), ap (λ s. step s x.1) at ∙ notify_stage (knows 0) x.1)
  run_of _ _ (is_not_posted command post there is not) =
      let at = opens (Command command) there in
      ((next_at _ _ post.0 at (is.0, ap Some (sym is.1)), tt), ap (λ s. step s post.1) at ∙ not_posted_step queue (legacy_bytes guest command) (fixed_size + result_length command) (is_read command) post.1 not)
  run_of _ _ (is_taken_back command seq post xs take there is_post posted are is taken) =
      let earlier = waits_run command seq post xs there is_post posted are in
      ((next_at _ _ take.0 earlier.1 (0, ap Some (sym is)), earlier.0), ap (λ s. step s take.1) earlier.1 ∙ taken_step queue seq (is_read command) take.1 taken)

  pub next_before : (route : Route) (more xs : List Exchange) → AreNext guest gone queue route (more ++ xs) → AreNext guest gone queue route xs
  next_before route [] xs next = next
  next_before route (x ∷ more) xs next = next_before route more xs next.1
