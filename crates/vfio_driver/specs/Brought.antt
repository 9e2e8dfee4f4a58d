-- What bring-up comes to, by the reply to its latest ask: VIRTIO 1.3, 2.12.1 (group administration commands). The opcodes and the notify information that it wants are of this project.
use Rattle.std.specs.Prelude.{◌≡◌, ◌≢◌, ◌⊎◌, ℕ, ◌%◌, ◌==◌, ◌&&◌, Bool, true, false, [], slice_index, Option, Some, None, if◌then◌else◌}
use Rattle.byte_fields.specs.Places.{le64}
use Rattle.admin_wire.specs.Numbers.{ok, enomem, einval, unqualified}
use Rattle.admin_wire.specs.Done.{parts_of}
use Rattle.admin_wire.specs.declared.done.DoneParts.{DoneParts}
use Rattle.group_calls.specs.declared.ask.Told.{Told}
use Rattle.group_calls.specs.declared.ask.Told.TheVariants.{Queue as FromQueue, NoMemory}
use Rattle.group_calls.specs.declared.queue.RingReply.TheVariants.{Closed, Ready, Lost}
use Rattle.vfio_driver.specs.declared.bring_stage.Brought.{Brought}
use Rattle.vfio_driver.specs.declared.bring_stage.Brought.TheVariants.{Ready as Usable, Unfit}
use Rattle.vfio_driver.specs.declared.bring_stage.BringCommand.{BringCommand}
use Rattle.vfio_driver.specs.declared.bring_stage.BringCommand.TheVariants.{Query, Use, Info}
use Rattle.vfio_driver.specs.Heard.{floor_told}

-- ---- what a reply shows of its command

-- Closed and Lost count as EINVAL, and want of memory as ENOMEM, each with nothing more
abbrev pub bare : ℕ → DoneParts
bare status = record { status = status; qualifier = unqualified; payload = [] }

-- the completion, if the command has come to an end
abbrev pub completion : Told → Option DoneParts
completion (FromQueue placed) = elim placed.reply [ Ready bytes floor ↦ Some (parts_of bytes) | Closed floor ↦ Some (bare einval) | Lost floor ↦ Some (bare einval) | _ ↦ None ]
completion NoMemory = Some (bare enomem)
completion _ = None

-- ---- whether the group, or the member, can be used

-- the opcodes 0 to 6 stand in the list: its lowest 7 bits are set
abbrev pub has_opcodes : DoneParts → Bool
has_opcodes done = le64 0 done.payload % 128 == 127

-- entry 0 of the notify information is the member device's: its flags are 2
abbrev pub has_notify_entry : DoneParts → Bool
has_notify_entry done = slice_index done.payload 0 == 2

-- the status is 0, and the command gave what bring-up wants
abbrev pub is_fit : BringCommand → DoneParts → Bool
is_fit Query done = (done.status == ok) && has_opcodes done
is_fit Use done = done.status == ok
is_fit Info done = (done.status == ok) && has_notify_entry done

-- the list in the completion of LIST_QUERY with status 0, else 0
abbrev pub list_in : BringCommand → DoneParts → ℕ
list_in Query done = if done.status == ok then le64 0 done.payload else 0
list_in _ done = 0

-- ---- what bring-up comes to

-- with a fit completion, under this floor: LIST_USE follows LIST_QUERY
abbrev pub brought_fit : BringCommand → ℕ → Option Brought
brought_fit Query floor = None
brought_fit Use floor = Some (Usable floor)
brought_fit Info floor = Some (Usable floor)

abbrev pub brought_with : BringCommand → ℕ → Option DoneParts → Option Brought
brought_with command floor None = None
brought_with command floor (Some done) = if is_fit command done then brought_fit command floor else Some (Unfit done.status done.qualifier (list_in command done))

-- after a reply to an ask of this command
abbrev pub brought_after : BringCommand → Told → Option Brought
brought_after command told = brought_with command (floor_told told) (completion told)

-- ---- when each comes

-- it can't be used: exactly after a completion that isn't fit
abbrev pub GivesUnfit : BringCommand → ℕ → ℕ → ℕ → Told → Type 0
GivesUnfit command status qualifier bits told =
    (done : DoneParts) × (completion told ≡ Some done) × (is_fit command done ≡ false) × (status ≡ done.status) × (qualifier ≡ done.qualifier) × (bits ≡ list_in command done)

-- it can: after a fit completion of the last command, under its floor
abbrev pub GivesReady : BringCommand → ℕ → Told → Type 0
GivesReady command floor told = (done : DoneParts) × (completion told ≡ Some done) × (is_fit command done ≡ true) × (command ≢ Query) × (floor ≡ floor_told told)

-- neither yet: there is no completion, or it is a fit one of LIST_QUERY
abbrev pub GoesOn : BringCommand → Told → Type 0
GoesOn command told = (completion told ≡ None) ⊎ ((done : DoneParts) × (completion told ≡ Some done) × (is_fit command done ≡ true) × (command ≡ Query))
