-- What each answer makes of an access: its stage, what is known, and the answer.
use Rattle.std.proofs.Common.{◌≡◌, ℕ, Bool, true, false, List, Some, None, refl, sym, ◌∙◌, if◌then◌else◌}
use Rattle.std.specs.Prelude.{◌↔◌, ◌==◌, ◌&&◌, ◌||◌, not, max}
use Rattle.std.proofs.Math.Nat.{max-zero}
use Rattle.admin_wire.specs.Numbers.{ok, enomem, invalid_field}
use Rattle.admin_wire.specs.Done.{parts_of}
use Rattle.admin_wire.specs.declared.done.DoneParts.{DoneParts}
use Rattle.group_calls.specs.declared.ask.Told.{Told}
use Rattle.group_calls.specs.declared.ask.Told.TheVariants.{Queue as FromQueue, Member as FromMember, NoMemory}
use Rattle.group_calls.specs.declared.queue.RingReply.{RingReply}
use Rattle.group_calls.specs.declared.queue.RingReply.TheVariants.{Seq, Full, Closed, Ready, NotYet, Lost, Stale}
use Rattle.group_calls.specs.declared.member.MemberReply.{MemberReply}
use Rattle.group_calls.specs.declared.member.MemberReply.TheVariants.{Gone}
use Rattle.vfio_driver.specs.declared.access.Answer.TheVariants.{Data, Written, Ones, RefusedMemory}
use Rattle.vfio_driver.specs.declared.access.Stage.{Stage}
use Rattle.vfio_driver.specs.declared.access.Stage.TheVariants.{Nothing, Ringing, Posting, Taking}
use Rattle.vfio_driver.specs.declared.access.Known.{Known}
use Rattle.vfio_driver.specs.declared.access.After.{After}
use Rattle.vfio_driver.specs.Access.{ended, lost, after_notify, after_post, after_done, after_take, after}
use Rattle.vfio_driver.specs.Heard.{floor_told, tells_gone, is_refused, answer_in, answer_by, GoesOn}
use Rattle.vfio_driver.proofs.Replies.{IsNotifyTold, IsPostTold, IsTakeTold, IsTakeReply, IsPostReply}

or_false : (b : Bool) → b ≡ b || false
or_false true = refl
or_false false = refl

or_true : (b : Bool) → true ≡ b || true
or_true true = refl
or_true false = refl

-- ---- a completion

-- what a completion makes of it, by its status and qualifier
abbrev by_tests : Known → Bool → List ℕ → Bool → Bool → Bool → After
by_tests known reads payload good full field =
    if good then (if reads then ended known (Data payload) else ended known Written) else
    if full then ended known RefusedMemory else
    if field then ended known Ones else
    lost known 0

tests_stage : (known : Known) (reads : Bool) (payload : List ℕ) (good full field : Bool) → (by_tests known reads payload good full field).stage ≡ Nothing
tests_stage known true payload true full field = refl
tests_stage known false payload true full field = refl
tests_stage known reads payload false true field = refl
tests_stage known reads payload false false true = refl
tests_stage known reads payload false false false = refl

tests_floor : (known : Known) (reads : Bool) (payload : List ℕ) (good full field : Bool) → (by_tests known reads payload good full field).known.floor ≡ known.floor
tests_floor known true payload true full field = refl
tests_floor known false payload true full field = refl
tests_floor known reads payload false true field = refl
tests_floor known reads payload false false true = refl
tests_floor known reads payload false false false = max-zero known.floor

tests_gone : (known : Known) (reads : Bool) (payload : List ℕ) (good full field : Bool) → (by_tests known reads payload good full field).known.gone ≡ known.gone || ((not good && not full) && not field)
tests_gone known true payload true full field = or_false known.gone
tests_gone known false payload true full field = or_false known.gone
tests_gone known reads payload false true field = or_false known.gone
tests_gone known reads payload false false true = or_false known.gone
tests_gone known reads payload false false false = or_true known.gone

tests_answer : (known : Known) (reads : Bool) (payload : List ℕ) (good full field : Bool)
    → (by_tests known reads payload good full field).answer ≡ Some (if good then (if reads then Data payload else Written) else if full then RefusedMemory else Ones)
tests_answer known true payload true full field = refl
tests_answer known false payload true full field = refl
tests_answer known reads payload false true field = refl
tests_answer known reads payload false false true = refl
tests_answer known reads payload false false false = refl

pub done_stage : (known : Known) (reads : Bool) (done : DoneParts) → (after_done known reads done).stage ≡ Nothing
done_stage known reads done = tests_stage known reads done.payload (done.status == ok) (done.status == enomem) (done.qualifier == invalid_field)

done_floor : (known : Known) (reads : Bool) (done : DoneParts) → (after_done known reads done).known.floor ≡ known.floor
done_floor known reads done = tests_floor known reads done.payload (done.status == ok) (done.status == enomem) (done.qualifier == invalid_field)

done_gone : (known : Known) (reads : Bool) (done : DoneParts) → (after_done known reads done).known.gone ≡ known.gone || (is_refused done && not (done.qualifier == invalid_field))
done_gone known reads done = tests_gone known reads done.payload (done.status == ok) (done.status == enomem) (done.qualifier == invalid_field)

done_answer : (known : Known) (reads : Bool) (done : DoneParts) → (after_done known reads done).answer ≡ Some (answer_in reads done)
done_answer known reads done = tests_answer known reads done.payload (done.status == ok) (done.status == enomem) (done.qualifier == invalid_field)

abbrev raised : Known → ℕ → Known
raised known floor = record { floor = max known.floor floor; gone = known.gone }

-- ---- a doorbell

pub notify_stage : (known : Known) (told : Told) → (after_notify known told).stage ≡ Nothing
notify_stage known (FromMember placed) = by placed.at placed.reply
  where
    by : (at : ℕ) (reply : MemberReply) → (after_notify known (FromMember (record { at = at; reply = reply }))).stage ≡ Nothing
    by at (Gone floor) = refl
    by at _ = refl
notify_stage known _ = refl

pub record IsLookedBack (known : Known) (queue : ℕ) (reads : Bool) (told : Told) (now : After) : Type 0 where
  pub floor : now.known.floor ≡ max known.floor (floor_told told)
  pub gone : now.known.gone ≡ known.gone || tells_gone told
  pub answer : now.answer ≡ answer_by queue reads told
  pub goes_on : (answer_by queue reads told ≡ None) ↔ GoesOn told

pub notify_looked : (known : Known) (queue : ℕ) (reads : Bool) (told : Told) → IsNotifyTold told → IsLookedBack known queue reads told (after_notify known told)
notify_looked known queue reads (FromMember placed) is = by placed.at placed.reply
  where
    by : (at : ℕ) (reply : MemberReply) → IsLookedBack known queue reads (FromMember (record { at = at; reply = reply })) (after_notify known (FromMember (record { at = at; reply = reply })))
    by at (Gone floor) = record { floor = refl; gone = or_true known.gone; answer = refl; goes_on = (λ e. absurd (cc), λ is. absurd is) }
    by at _ = record { floor = refl; gone = or_false known.gone; answer = refl; goes_on = (λ e. absurd (cc), λ is. absurd is) }
notify_looked known queue reads NoMemory is = record { floor = sym (max-zero known.floor); gone = or_false known.gone; answer = refl; goes_on = (λ e. absurd (cc), λ is. absurd is) }
notify_looked known queue reads _ is = absurd is

-- ---- a Post

pub post_looked : (known : Known) (queue : ℕ) (reads : Bool) (told : Told) → IsPostTold told → IsLookedBack known queue reads told (after_post known queue reads told)
post_looked known queue reads (FromQueue placed) is = by placed.at placed.reply is
  where
    by : (at : ℕ) (reply : RingReply) → IsPostReply reply → IsLookedBack known queue reads (FromQueue (record { at = at; reply = reply })) (after_post known queue reads (FromQueue (record { at = at; reply = reply })))
    by at (Seq seq) is = record { floor = sym (max-zero known.floor); gone = or_false known.gone; answer = refl; goes_on = (λ e. tt, λ is. refl) }
    by at Full is = record { floor = sym (max-zero known.floor); gone = or_false known.gone; answer = refl; goes_on = (λ e. absurd (cc), λ is. absurd is) }
    by at (Closed floor) is = record { floor = refl; gone = or_true known.gone; answer = refl; goes_on = (λ e. absurd (cc), λ is. absurd is) }
    by at _ is = absurd is
post_looked known queue reads NoMemory is = record { floor = sym (max-zero known.floor); gone = or_false known.gone; answer = refl; goes_on = (λ e. absurd (cc), λ is. absurd is) }
post_looked known queue reads _ is = absurd is

-- ---- a Take

pub take_looked : (known : Known) (queue seq : ℕ) (reads : Bool) (told : Told) → IsTakeTold told → IsLookedBack known queue reads told (after_take known queue seq reads told)
take_looked known queue seq reads (FromQueue placed) is = by placed.at placed.reply is
  where
    by : (at : ℕ) (reply : RingReply) → IsTakeReply reply → IsLookedBack known queue reads (FromQueue (record { at = at; reply = reply })) (after_take known queue seq reads (FromQueue (record { at = at; reply = reply })))
    by at (Ready bytes floor) is = record {
      floor = done_floor (raised known floor) reads (parts_of bytes);
      gone = done_gone (raised known floor) reads (parts_of bytes);
      answer = done_answer (raised known floor) reads (parts_of bytes);
      goes_on = (λ e. absurd (cc), λ is. absurd is);
    }
    by at (Lost floor) is = record { floor = refl; gone = or_true known.gone; answer = refl; goes_on = (λ e. absurd (cc), λ is. absurd is) }
    by at NotYet is = record { floor = sym (max-zero known.floor); gone = or_false known.gone; answer = refl; goes_on = (λ e. tt, λ is. refl) }
    by at Stale is = record { floor = sym (max-zero known.floor); gone = or_false known.gone; answer = refl; goes_on = (λ e. tt, λ is. refl) }
    by at _ is = absurd is
take_looked known queue seq reads _ is = absurd is

-- ---- the stage goes by the answer alone

-- whatever is known
abbrev pub step : Stage → Told → Stage
step stage told = (after (record { floor = 0; gone = false }) stage told).stage

post_stage : (known other : Known) (queue : ℕ) (reads : Bool) (told : Told) → (after_post known queue reads told).stage ≡ (after_post other queue reads told).stage
post_stage known other queue reads (FromQueue placed) = by placed.at placed.reply
  where
    by : (at : ℕ) (reply : RingReply) → (after_post known queue reads (FromQueue (record { at = at; reply = reply }))).stage ≡ (after_post other queue reads (FromQueue (record { at = at; reply = reply }))).stage
    by at (Seq seq) = refl
    by at (Closed floor) = refl
    by at _ = refl
post_stage known other queue reads _ = refl

take_stage : (known other : Known) (queue seq : ℕ) (reads : Bool) (told : Told) → (after_take known queue seq reads told).stage ≡ (after_take other queue seq reads told).stage
take_stage known other queue seq reads (FromQueue placed) = by placed.at placed.reply
  where
    by : (at : ℕ) (reply : RingReply) → (after_take known queue seq reads (FromQueue (record { at = at; reply = reply }))).stage ≡ (after_take other queue seq reads (FromQueue (record { at = at; reply = reply }))).stage
    by at (Ready bytes floor) = done_stage (raised known floor) reads (parts_of bytes) ∙ sym (done_stage (raised other floor) reads (parts_of bytes))
    by at (Lost floor) = refl
    by at _ = refl
take_stage known other queue seq reads _ = refl

pub stage_same : (known : Known) (stage : Stage) (told : Told) → (after known stage told).stage ≡ step stage told
stage_same known Nothing told = refl
stage_same known (Ringing number) told = notify_stage known told ∙ sym (notify_stage (record { floor = 0; gone = false }) told)
stage_same known (Posting queue bytes writable reads) told = post_stage known (record { floor = 0; gone = false }) queue reads told
stage_same known (Taking queue seq reads) told = take_stage known (record { floor = 0; gone = false }) queue seq reads told
