-- The task of an access.
use Rattle.std.proofs.Common.{◌≡◌, ℕ, Bool, true, false, refl, sym, ap, ◌∙◌, if◌then◌else◌}
use Rattle.std.specs.Prelude.{not}
use Rattle.serve_machine.specs.declared.stage.Stage.{Stage}
use Rattle.serve_machine.specs.declared.stage.Stage.TheVariants.{Popping, Ended}
use Rattle.vfio_driver.specs.Access.{is_open}
use Rattle.vfio_driver.specs.declared.access.Stage.{Stage as AccessStage}
use Rattle.board_script.specs.Script.{Whole}
use Rattle.group_calls.specs.declared.ask.Told.{Told}
use Rattle.journal.specs.Doing.{accesses, is_quiet, service_meanwhile}
use Rattle.actor_core.specs.declared.task.Task.{Task}
use Rattle.actor_core.specs.declared.task.Task.TheVariants.{Accesses}
use Rattle.actor_core.specs.Tasks.{doing_of, IsWhole, IsBoards, IsAccessOf, FitsGroup, once_in, is_begun, is_stray, is_loose}
use Rattle.actor_core.proofs.Drivers.{second_false}

pub access_of : (queue : ℕ) (once : Bool) (access : AccessStage) (task : Task) → doing_of access task ≡ accesses queue once access Ended → IsAccessOf queue (once_in task) Ended task × (once_in task ≡ once)
access_of queue once access (Accesses tried server) is = ((cc, refl, cc), cc)
access_of queue once access _ is = absurd (cc)

pub access_whole : (queue : ℕ) (once : Bool) (service : Stage) (task : Task) → IsAccessOf queue once service task → IsWhole task
access_whole queue once service (Accesses tried server) is = (refl, refl)
access_whole queue once service _ is = absurd is

pub access_boards : (queue : ℕ) (once : Bool) (service : Stage) (who : ℕ) (task : Task) → IsAccessOf queue once service task → IsBoards who task
access_boards queue once service who (Accesses tried server) is = refl
access_boards queue once service who _ is = absurd is

pub access_fits : (queue : ℕ) (once : Bool) (service : Stage) (s : Whole) (task : Task) → IsAccessOf queue once service task → FitsGroup s task
access_fits queue once service s (Accesses tried server) is = tt
access_fits queue once service s _ is = absurd is

pub access_closed : (queue : ℕ) (once : Bool) (service : Stage) (access : AccessStage) (task : Task) → IsAccessOf queue once service task → is_stray access task ≡ false
access_closed queue once service access (Accesses tried server) is = refl
access_closed queue once service access _ is = absurd is

pub access_held : (queue : ℕ) (once : Bool) (service : Stage) (access : AccessStage) (task : Task) → IsAccessOf queue once service task → is_open access ≡ true → is_loose (doing_of access task) ≡ false
access_held queue once service access (Accesses tried server) is is_opened = second_false (is_begun server.stage) (not (is_open access)) (ap not is_opened)
access_held queue once service access _ is is_opened = absurd is

pub access_doing : (queue : ℕ) (once : Bool) (service : Stage) (access : AccessStage) (task : Task) → IsAccessOf queue once service task → doing_of access task ≡ accesses queue once access service
access_doing queue once service access (Accesses tried server) is =
    ap (λ q. accesses q tried access server.stage) is.0 ∙ ap (λ o. accesses queue o access server.stage) is.1 ∙ ap (accesses queue once access) is.2
access_doing queue once service access _ is = absurd is

pub served_meanwhile : (told : Told) → is_quiet told ≡ true → Popping ≡ service_meanwhile told
served_meanwhile told quiet = ap (λ (b : Bool). if b then Popping else Ended) (sym quiet)
