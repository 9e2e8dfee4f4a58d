-- Each answer comes exactly after its replies.
use Rattle.std.proofs.Common.{◌≡◌, ◌⊎◌, inl, inr, ℕ, Bool, true, false, List, Some, refl, sym, ap, if◌then◌else◌}
use Rattle.std.specs.Prelude.{◌↔◌, ◌==◌, ◌&&◌, not}
use Rattle.std.proofs.lemmas.Bool.Decides.{eqb_tells}
use Rattle.admin_wire.specs.Numbers.{ok, enomem}
use Rattle.admin_wire.specs.Done.{parts_of}
use Rattle.admin_wire.specs.declared.done.DoneParts.{DoneParts}
use Rattle.group_calls.specs.declared.ask.Told.{Told}
use Rattle.group_calls.specs.declared.ask.Told.TheVariants.{Owner as FromOwner, Queue as FromQueue, Member as FromMember, NoMemory}
use Rattle.group_calls.specs.declared.queue.RingReply.{RingReply}
use Rattle.group_calls.specs.declared.queue.RingReply.TheVariants.{Full, Closed, Ready, Lost}
use Rattle.group_calls.specs.declared.member.MemberReply.{MemberReply}
use Rattle.group_calls.specs.declared.member.MemberReply.TheVariants.{Gone}
use Rattle.vfio_driver.specs.declared.access.Answer.{Answer}
use Rattle.vfio_driver.specs.declared.access.Answer.TheVariants.{Data, Written, Ones, RefusedFull, RefusedMemory}
use Rattle.vfio_driver.specs.Heard.{answer_in, answer_by, GivesOnes, GivesNoMemory, GivesData, GivesWritten}

-- ---- the number of a status and what it is

equal_from : (a b : ℕ) → (a == b) ≡ true → a ≡ b
equal_from a b is = from (eqb_tells a b)
  where
    from : ((a == b ≡ true) × (a ≡ b)) ⊎ ((a == b ≡ false) × (a ≡ b → ⊥)) → a ≡ b
    from (inl same) = same.1
    from (inr other) = absurd (let no = other.0 in cc)

equal_to : (a b : ℕ) → a ≡ b → (a == b) ≡ true
equal_to a b is = from (eqb_tells a b)
  where
    from : ((a == b ≡ true) × (a ≡ b)) ⊎ ((a == b ≡ false) × (a ≡ b → ⊥)) → (a == b) ≡ true
    from (inl same) = same.0
    from (inr other) = absurd (other.1 is)

-- ---- a completion

-- by its tests
abbrev by_tests : Bool → List ℕ → Bool → Bool → Answer
by_tests reads payload good full = if good then (if reads then Data payload else Written) else if full then RefusedMemory else Ones

tests_ones : (reads : Bool) (payload : List ℕ) (good full : Bool) → (Some (by_tests reads payload good full) ≡ Some Ones) ↔ (not good && not full ≡ true)
tests_ones true payload true full = (λ e. absurd (cc), λ e. absurd (cc))
tests_ones false payload true full = (λ e. absurd (cc), λ e. absurd (cc))
tests_ones reads payload false true = (λ e. absurd (cc), λ e. absurd (cc))
tests_ones reads payload false false = (λ e. refl, λ e. refl)

tests_no_memory : (reads : Bool) (payload : List ℕ) (good full : Bool) → (Some (by_tests reads payload good full) ≡ Some RefusedMemory) ↔ ((good ≡ false) × (full ≡ true))
tests_no_memory true payload true full = (λ e. absurd (cc), λ e. absurd (let no = e.0 in cc))
tests_no_memory false payload true full = (λ e. absurd (cc), λ e. absurd (let no = e.0 in cc))
tests_no_memory reads payload false true = (λ e. (refl, refl), λ e. refl)
tests_no_memory reads payload false false = (λ e. absurd (cc), λ e. absurd (let no = e.1 in cc))

tests_data : (reads : Bool) (payload bytes : List ℕ) (good full : Bool) → (Some (by_tests reads payload good full) ≡ Some (Data bytes)) ↔ ((reads ≡ true) × (good ≡ true) × (bytes ≡ payload))
tests_data true payload bytes true full = (λ e. (refl, refl, cc), λ e. ap (λ b. Some (Data b)) (sym e.2))
tests_data false payload bytes true full = (λ e. absurd (cc), λ e. absurd (let no = e.0 in cc))
tests_data reads payload bytes false true = (λ e. absurd (cc), λ e. absurd (let no = e.1 in cc))
tests_data reads payload bytes false false = (λ e. absurd (cc), λ e. absurd (let no = e.1 in cc))

tests_written : (reads : Bool) (payload : List ℕ) (good full : Bool) → (Some (by_tests reads payload good full) ≡ Some Written) ↔ ((reads ≡ false) × (good ≡ true))
tests_written true payload true full = (λ e. absurd (cc), λ e. absurd (let no = e.0 in cc))
tests_written false payload true full = (λ e. (refl, refl), λ e. refl)
tests_written reads payload false true = (λ e. absurd (cc), λ e. absurd (let no = e.1 in cc))
tests_written reads payload false false = (λ e. absurd (cc), λ e. absurd (let no = e.1 in cc))

tests_full : (reads : Bool) (payload : List ℕ) (good full : Bool) (queue at : ℕ) → Some (by_tests reads payload good full) ≡ Some (RefusedFull queue at) → ⊥
tests_full true payload true full queue at e = cc
tests_full false payload true full queue at e = cc
tests_full reads payload false true queue at e = cc
tests_full reads payload false false queue at e = cc

-- ENOMEM is another number than OK
not_good : (status : ℕ) → status ≡ enomem → (status == ok) ≡ false
not_good status is = ap (λ n. n == ok) is

in_no_memory : (reads : Bool) (done : DoneParts) → (Some (answer_in reads done) ≡ Some RefusedMemory) ↔ (done.status ≡ enomem)
in_no_memory reads done =
    let by = tests_no_memory reads done.payload (done.status == ok) (done.status == enomem) in
    (λ e. equal_from done.status enomem (by.0 e).1, λ is. by.1 (not_good done.status is, equal_to done.status enomem is))

in_data : (reads : Bool) (bytes : List ℕ) (done : DoneParts) → (Some (answer_in reads done) ≡ Some (Data bytes)) ↔ ((reads ≡ true) × (done.status ≡ ok) × (bytes ≡ done.payload))
in_data reads bytes done =
    let by = tests_data reads done.payload bytes (done.status == ok) (done.status == enomem) in
    (λ e. let is = by.0 e in (is.0, equal_from done.status ok is.1, is.2), λ is. by.1 (is.0, equal_to done.status ok is.1, is.2))

in_written : (reads : Bool) (done : DoneParts) → (Some (answer_in reads done) ≡ Some Written) ↔ ((reads ≡ false) × (done.status ≡ ok))
in_written reads done =
    let by = tests_written reads done.payload (done.status == ok) (done.status == enomem) in
    (λ e. let is = by.0 e in (is.0, equal_from done.status ok is.1), λ is. by.1 (is.0, equal_to done.status ok is.1))

-- ---- by a reply

pub ones_by : (queue : ℕ) (reads : Bool) (told : Told) → (answer_by queue reads told ≡ Some Ones) ↔ GivesOnes told
ones_by queue reads (FromMember placed) = by placed.at placed.reply
  where
    by : (at : ℕ) (reply : MemberReply) → (answer_by queue reads (FromMember (record { at = at; reply = reply })) ≡ Some Ones) ↔ GivesOnes (FromMember (record { at = at; reply = reply }))
    by at (Gone floor) = (λ e. tt, λ is. refl)
    by at _ = (λ e. absurd (cc), λ is. absurd is)
ones_by queue reads (FromQueue placed) = by placed.at placed.reply
  where
    by : (at : ℕ) (reply : RingReply) → (answer_by queue reads (FromQueue (record { at = at; reply = reply })) ≡ Some Ones) ↔ GivesOnes (FromQueue (record { at = at; reply = reply }))
    by at (Ready bytes floor) = let done = parts_of bytes in tests_ones reads done.payload (done.status == ok) (done.status == enomem)
    by at (Lost floor) = (λ e. tt, λ is. refl)
    by at (Closed floor) = (λ e. tt, λ is. refl)
    by at Full = (λ e. absurd (cc), λ is. absurd is)
    by at _ = (λ e. absurd (cc), λ is. absurd is)
ones_by queue reads (FromOwner placed) = (λ e. absurd (cc), λ is. absurd is)
ones_by queue reads NoMemory = (λ e. absurd (cc), λ is. absurd is)

pub no_memory_by : (queue : ℕ) (reads : Bool) (told : Told) → (answer_by queue reads told ≡ Some RefusedMemory) ↔ GivesNoMemory told
no_memory_by queue reads (FromMember placed) = by placed.at placed.reply
  where
    by : (at : ℕ) (reply : MemberReply) → (answer_by queue reads (FromMember (record { at = at; reply = reply })) ≡ Some RefusedMemory) ↔ GivesNoMemory (FromMember (record { at = at; reply = reply }))
    by at (Gone floor) = (λ e. absurd (cc), λ is. absurd is)
    by at _ = (λ e. absurd (cc), λ is. absurd is)
no_memory_by queue reads (FromQueue placed) = by placed.at placed.reply
  where
    by : (at : ℕ) (reply : RingReply) → (answer_by queue reads (FromQueue (record { at = at; reply = reply })) ≡ Some RefusedMemory) ↔ GivesNoMemory (FromQueue (record { at = at; reply = reply }))
    by at (Ready bytes floor) = in_no_memory reads (parts_of bytes)
    by at (Lost floor) = (λ e. absurd (cc), λ is. absurd is)
    by at (Closed floor) = (λ e. absurd (cc), λ is. absurd is)
    by at Full = (λ e. absurd (cc), λ is. absurd is)
    by at _ = (λ e. absurd (cc), λ is. absurd is)
no_memory_by queue reads (FromOwner placed) = (λ e. absurd (cc), λ is. absurd is)
no_memory_by queue reads NoMemory = (λ e. tt, λ is. refl)

pub data_by : (queue : ℕ) (reads : Bool) (bytes : List ℕ) (told : Told) → (answer_by queue reads told ≡ Some (Data bytes)) ↔ GivesData reads bytes told
data_by queue reads bytes (FromMember placed) = by placed.at placed.reply
  where
    by : (at : ℕ) (reply : MemberReply) → (answer_by queue reads (FromMember (record { at = at; reply = reply })) ≡ Some (Data bytes)) ↔ GivesData reads bytes (FromMember (record { at = at; reply = reply }))
    by at (Gone floor) = (λ e. absurd (cc), λ is. absurd is)
    by at _ = (λ e. absurd (cc), λ is. absurd is)
data_by queue reads bytes (FromQueue placed) = by placed.at placed.reply
  where
    by : (at : ℕ) (reply : RingReply) → (answer_by queue reads (FromQueue (record { at = at; reply = reply })) ≡ Some (Data bytes)) ↔ GivesData reads bytes (FromQueue (record { at = at; reply = reply }))
    by at (Ready payload floor) = in_data reads bytes (parts_of payload)
    by at (Lost floor) = (λ e. absurd (cc), λ is. absurd is)
    by at (Closed floor) = (λ e. absurd (cc), λ is. absurd is)
    by at Full = (λ e. absurd (cc), λ is. absurd is)
    by at _ = (λ e. absurd (cc), λ is. absurd is)
data_by queue reads bytes (FromOwner placed) = (λ e. absurd (cc), λ is. absurd is)
data_by queue reads bytes NoMemory = (λ e. absurd (cc), λ is. absurd is)

pub written_by : (queue : ℕ) (reads : Bool) (told : Told) → (answer_by queue reads told ≡ Some Written) ↔ GivesWritten reads told
written_by queue reads (FromMember placed) = by placed.at placed.reply
  where
    by : (at : ℕ) (reply : MemberReply) → (answer_by queue reads (FromMember (record { at = at; reply = reply })) ≡ Some Written) ↔ GivesWritten reads (FromMember (record { at = at; reply = reply }))
    by at (Gone floor) = (λ e. absurd (cc), λ is. absurd is)
    by at _ = (λ e. tt, λ is. refl)
written_by queue reads (FromQueue placed) = by placed.at placed.reply
  where
    by : (at : ℕ) (reply : RingReply) → (answer_by queue reads (FromQueue (record { at = at; reply = reply })) ≡ Some Written) ↔ GivesWritten reads (FromQueue (record { at = at; reply = reply }))
    by at (Ready bytes floor) = in_written reads (parts_of bytes)
    by at (Lost floor) = (λ e. absurd (cc), λ is. absurd is)
    by at (Closed floor) = (λ e. absurd (cc), λ is. absurd is)
    by at Full = (λ e. absurd (cc), λ is. absurd is)
    by at _ = (λ e. absurd (cc), λ is. absurd is)
written_by queue reads (FromOwner placed) = (λ e. absurd (cc), λ is. absurd is)
written_by queue reads NoMemory = (λ e. absurd (cc), λ is. absurd is)

-- the queue's number and the place of Full
pub full_by : (queue : ℕ) (reads : Bool) (told : Told) (other at : ℕ) → answer_by queue reads told ≡ Some (RefusedFull other at) → (other ≡ queue) × (told ≡ FromQueue (record { at = at; reply = Full }))
full_by queue reads (FromMember placed) other at e = absurd (by placed.at placed.reply e)
  where
    by : (place : ℕ) (reply : MemberReply) → answer_by queue reads (FromMember (record { at = place; reply = reply })) ≡ Some (RefusedFull other at) → ⊥
    by place (Gone floor) e = cc
    by place _ e = cc
full_by queue reads (FromQueue placed) other at e = by placed.at placed.reply e
  where
    by : (place : ℕ) (reply : RingReply) → answer_by queue reads (FromQueue (record { at = place; reply = reply })) ≡ Some (RefusedFull other at) → (other ≡ queue) × (FromQueue (record { at = place; reply = reply }) ≡ FromQueue (record { at = at; reply = Full }))
    by place (Ready bytes floor) e = let done = parts_of bytes in absurd (tests_full reads done.payload (done.status == ok) (done.status == enomem) other at e)
    by place (Lost floor) e = absurd (cc)
    by place (Closed floor) e = absurd (cc)
    by place Full e = (cc, let same : place ≡ at = cc in ap (λ p. FromQueue (record { at = p; reply = Full })) same)
    by place _ e = absurd (cc)
full_by queue reads (FromOwner placed) other at e = absurd (cc)
full_by queue reads NoMemory other at e = absurd (cc)
