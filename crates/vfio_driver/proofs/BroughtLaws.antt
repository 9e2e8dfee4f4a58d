-- What bring-up comes to is by the latest reply, and each outcome comes exactly after its replies.
use Rattle.std.proofs.Common.{◌≡◌, ◌≢◌, inl, inr, ℕ, Bool, true, false, [], Option, Some, None, refl, sym, ap, subst, ◌∙◌, if◌then◌else◌}
use Rattle.std.specs.Prelude.{◌↔◌, ◌==◌, ◌&&◌, not}
use Rattle.byte_fields.specs.Places.{le64}
use Rattle.admin_wire.specs.Numbers.{ok}
use Rattle.admin_wire.specs.Done.{parts_of}
use Rattle.admin_wire.specs.declared.done.DoneParts.{DoneParts}
use Rattle.group_calls.specs.declared.ask.Ask.{Ask}
use Rattle.group_calls.specs.declared.ask.Told.{Told}
use Rattle.group_calls.specs.declared.ask.Told.TheVariants.{Queue as FromQueue, NoMemory}
use Rattle.group_calls.specs.declared.queue.RingReply.{RingReply}
use Rattle.group_calls.specs.declared.queue.RingReply.TheVariants.{Seq, Full, Closed, Ready, NotYet, Lost, Stale}
use Rattle.group_calls.specs.Asks.{AnswersAsk}
use Rattle.vfio_driver.specs.declared.bring_stage.Brought.{Brought}
use Rattle.vfio_driver.specs.declared.bring_stage.Brought.TheVariants.{Ready as Usable, Unfit}
use Rattle.vfio_driver.specs.declared.bring_stage.BringCommand.{BringCommand}
use Rattle.vfio_driver.specs.declared.bring_stage.BringCommand.TheVariants.{Query, Use, Info}
use Rattle.vfio_driver.specs.declared.bring_stage.BringStage.{BringStage}
use Rattle.vfio_driver.specs.declared.bring_stage.BringStage.TheVariants.{Posting, Taking, Over}
use Rattle.vfio_driver.specs.Bring.{command_bytes, command_room, next_ask, after_done, after_post, after_take, after, brought_by}
use Rattle.vfio_driver.specs.Brought.{completion, has_opcodes, has_notify_entry, is_fit, list_in, brought_fit, brought_with, brought_after, GivesUnfit, GivesReady, GoesOn}
use Rattle.vfio_driver.specs.BringRuns.{command_at}
use Rattle.vfio_driver.specs.Heard.{floor_told}
use Rattle.vfio_driver.proofs.Replies.{some_same, IsPostReply, IsPostTold, post_told, IsTakeReply, IsTakeTold, take_told}

-- ---- by the latest reply

query_by : (good listed : Bool) (status qualifier list : ℕ) → brought_by (if not good then Over (Unfit status qualifier 0) else if listed then Posting Use else Over (Unfit status qualifier list)) ≡ (if good && listed then None else Some (Unfit status qualifier (if good then list else 0)))
query_by true true status qualifier list = refl
query_by true false status qualifier list = refl
query_by false listed status qualifier list = refl

use_by : (good : Bool) (status qualifier floor : ℕ) → brought_by (if not good then Over (Unfit status qualifier 0) else Over (Usable floor)) ≡ (if good then Some (Usable floor) else Some (Unfit status qualifier 0))
use_by true status qualifier floor = refl
use_by false status qualifier floor = refl

info_by : (good entry : Bool) (status qualifier floor : ℕ) → brought_by (if not good then Over (Unfit status qualifier 0) else if entry then Over (Usable floor) else Over (Unfit status qualifier 0)) ≡ (if good && entry then Some (Usable floor) else Some (Unfit status qualifier 0))
info_by true true status qualifier floor = refl
info_by true false status qualifier floor = refl
info_by false entry status qualifier floor = refl

done_by : (command : BringCommand) (done : DoneParts) (floor : ℕ) → brought_by (after_done command done floor) ≡ brought_with command floor (Some done)
done_by Query done floor = query_by (done.status == ok) (has_opcodes done) done.status done.qualifier (le64 0 done.payload)
done_by Use done floor = use_by (done.status == ok) done.status done.qualifier floor
done_by Info done floor = info_by (done.status == ok) (has_notify_entry done) done.status done.qualifier floor

-- a command that never was completed
bare_by : (command : BringCommand) (told : Told) (status floor : ℕ) → (status == ok) ≡ false → brought_with command floor (Some (record { status = status; qualifier = 0; payload = [] })) ≡ Some (Unfit status 0 0)
bare_by Query told status floor bad = ap (λ b. if b && has_opcodes (record { status = status; qualifier = 0; payload = [] }) then None else Some (Unfit status 0 (if b then le64 0 [] else 0))) bad
bare_by Use told status floor bad = ap (λ b. if b then Some (Usable floor) else Some (Unfit status 0 0)) bad
bare_by Info told status floor bad = ap (λ b. if b && has_notify_entry (record { status = status; qualifier = 0; payload = [] }) then Some (Usable floor) else Some (Unfit status 0 0)) bad

post_by : (command : BringCommand) (told : Told) → IsPostTold told → brought_by (after_post command told) ≡ brought_after command told
post_by command (FromQueue placed) is = by placed.at placed.reply is
  where
    by : (at : ℕ) (reply : RingReply) → IsPostReply reply → brought_by (after_post command (FromQueue (record { at = at; reply = reply }))) ≡ brought_after command (FromQueue (record { at = at; reply = reply }))
    by at (Seq seq) is = refl
    by at Full is = refl
    by at (Closed floor) is = sym (bare_by command NoMemory 22 floor refl)
    by at _ is = absurd is
post_by command NoMemory is = sym (bare_by command NoMemory 12 0 refl)
post_by command _ is = absurd is

take_by : (command : BringCommand) (seq : ℕ) (told : Told) → IsTakeTold told → brought_by (after_take command seq told) ≡ brought_after command told
take_by command seq (FromQueue placed) is = by placed.at placed.reply is
  where
    by : (at : ℕ) (reply : RingReply) → IsTakeReply reply → brought_by (after_take command seq (FromQueue (record { at = at; reply = reply }))) ≡ brought_after command (FromQueue (record { at = at; reply = reply }))
    by at (Ready bytes floor) is = done_by command (parts_of bytes) floor
    by at (Lost floor) is = sym (bare_by command NoMemory 22 floor refl)
    by at NotYet is = refl
    by at Stale is = refl
    by at _ is = absurd is
take_by command seq _ is = absurd is

pub by_reply : (member : ℕ) (stage : BringStage) (command : BringCommand) (ask : Ask) (told : Told) → command_at stage ≡ Some command → next_ask member stage ≡ Some ask → AnswersAsk ask told → brought_by (after stage told) ≡ brought_after command told
by_reply member (Posting own) command ask told at next answers =
    post_by own told (post_told 0 (command_bytes member own) (command_room own) (record { guest = member; floor = 0 }) told (subst (λ a. AnswersAsk a told) (sym (some_same _ _ next)) answers))
    ∙ ap (λ c. brought_after c told) (some_same _ _ at)
by_reply member (Taking own seq) command ask told at next answers =
    take_by own seq told (take_told 0 seq told (subst (λ a. AnswersAsk a told) (sym (some_same _ _ next)) answers)) ∙ ap (λ c. brought_after c told) (some_same _ _ at)
by_reply member (Over brought) command ask told at next answers = absurd (cc)

-- ---- each outcome by its replies

-- of a completion, with the test whether it is fit
abbrev with_test : BringCommand → ℕ → DoneParts → Bool → Option Brought
with_test command floor done b = if b then brought_fit command floor else Some (Unfit done.status done.qualifier (list_in command done))

fit_unfit : (command : BringCommand) (floor status qualifier bits : ℕ) → brought_fit command floor ≡ Some (Unfit status qualifier bits) → ⊥
fit_unfit Query floor status qualifier bits e = cc
fit_unfit Use floor status qualifier bits e = cc
fit_unfit Info floor status qualifier bits e = cc

fit_ready : (command : BringCommand) (floor other : ℕ) → brought_fit command floor ≡ Some (Usable other) → (command ≢ Query) × (other ≡ floor)
fit_ready Query floor other e = absurd (cc)
fit_ready Use floor other e = (λ is. cc, cc)
fit_ready Info floor other e = (λ is. cc, cc)

ready_fit : (command : BringCommand) (floor : ℕ) → command ≢ Query → brought_fit command floor ≡ Some (Usable floor)
ready_fit Query floor other = absurd (other refl)
ready_fit Use floor other = refl
ready_fit Info floor other = refl

fit_none : (command : BringCommand) (floor : ℕ) → brought_fit command floor ≡ None → command ≡ Query
fit_none Query floor e = refl
fit_none Use floor e = absurd (cc)
fit_none Info floor e = absurd (cc)

pub unfit : (command : BringCommand) (told : Told) (status qualifier bits : ℕ) → (brought_after command told ≡ Some (Unfit status qualifier bits)) ↔ GivesUnfit command status qualifier bits told
unfit command told status qualifier bits = of (completion told) refl
  where
    by : (done : DoneParts) → completion told ≡ Some done → (b : Bool) → is_fit command done ≡ b → (with_test command (floor_told told) done b ≡ Some (Unfit status qualifier bits)) ↔ GivesUnfit command status qualifier bits told
    by done is true fit = (
      λ e. absurd (fit_unfit command (floor_told told) status qualifier bits e),
      λ gives.
          let same : done ≡ gives.0 = some_same _ _ (sym is ∙ gives.1) in
          let no : is_fit command done ≡ false = ap (is_fit command) same ∙ gives.2 in
          absurd (let both = sym fit ∙ no in cc),
    )
    by done is false fit = (
      λ e. (done, is, fit, cc, cc, cc),
      λ gives.
          let same : done ≡ gives.0 = some_same _ _ (sym is ∙ gives.1) in
          ap (λ (d : DoneParts). Some (Unfit d.status d.qualifier (list_in command d))) same
          ∙ ap (λ n. Some (Unfit n gives.0.qualifier (list_in command gives.0))) (sym gives.3) ∙ ap (λ n. Some (Unfit status n (list_in command gives.0))) (sym gives.4) ∙ ap (λ n. Some (Unfit status qualifier n)) (sym gives.5),
    )

    of : (o : Option DoneParts) → completion told ≡ o → (brought_with command (floor_told told) o ≡ Some (Unfit status qualifier bits)) ↔ GivesUnfit command status qualifier bits told
    of None is = (λ e. absurd (cc), λ gives. absurd (let some = gives.1 in cc))
    of (Some done) is = by done is (is_fit command done) refl

pub ready : (command : BringCommand) (told : Told) (floor : ℕ) → (brought_after command told ≡ Some (Usable floor)) ↔ GivesReady command floor told
ready command told floor = of (completion told) refl
  where
    by : (done : DoneParts) → completion told ≡ Some done → (b : Bool) → is_fit command done ≡ b → (with_test command (floor_told told) done b ≡ Some (Usable floor)) ↔ GivesReady command floor told
    by done is true fit = (
      λ e. let is_ready = fit_ready command (floor_told told) floor e in (done, is, fit, is_ready.0, is_ready.1),
      λ gives. ready_fit command (floor_told told) gives.3 ∙ ap (λ n. Some (Usable n)) (sym gives.4),
    )
    by done is false fit = (
      λ e. absurd (cc),
      λ gives.
          let same : done ≡ gives.0 = some_same _ _ (sym is ∙ gives.1) in
          let yes : is_fit command done ≡ true = ap (is_fit command) same ∙ gives.2 in
          absurd (let both = sym fit ∙ yes in cc),
    )

    of : (o : Option DoneParts) → completion told ≡ o → (brought_with command (floor_told told) o ≡ Some (Usable floor)) ↔ GivesReady command floor told
    of None is = (λ e. absurd (cc), λ gives. absurd (let some = gives.1 in cc))
    of (Some done) is = by done is (is_fit command done) refl

pub nothing : (command : BringCommand) (told : Told) → (brought_after command told ≡ None) ↔ GoesOn command told
nothing command told = of (completion told) refl
  where
    by : (done : DoneParts) → completion told ≡ Some done → (b : Bool) → is_fit command done ≡ b → (with_test command (floor_told told) done b ≡ None) ↔ GoesOn command told
    by done is true fit = (λ e. inr (done, is, fit, fit_none command (floor_told told) e), fits)
      where
        fits : GoesOn command told → brought_fit command (floor_told told) ≡ None
        fits (inl none) = absurd (cc)
        fits (inr gives) = ap (λ c. brought_fit c (floor_told told)) gives.3
    by done is false fit = (λ e. absurd (cc), fails)
      where
        fails : GoesOn command told → Some (Unfit done.status done.qualifier (list_in command done)) ≡ None
        fails (inl none) = absurd (cc)
        fails (inr gives) =
            let same : done ≡ gives.0 = some_same _ _ (sym is ∙ gives.1) in
            let yes : is_fit command done ≡ true = ap (is_fit command) same ∙ gives.2 in
            absurd (let both = sym fit ∙ yes in cc)

    of : (o : Option DoneParts) → completion told ≡ o → (brought_with command (floor_told told) o ≡ None) ↔ GoesOn command told
    of None is = (λ e. inl is, λ gives. refl)
    of (Some done) is = by done is (is_fit command done) refl
