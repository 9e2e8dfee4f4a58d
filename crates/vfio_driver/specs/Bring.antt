-- Bring-up as a machine. Of this project; the commands are those of VIRTIO 1.3, 2.12.1 (group administration commands).
use Rattle.std.specs.Prelude.{ℕ, ◌+◌, ◌%◌, ◌==◌, not, List, slice_index, Option, Some, None, if◌then◌else◌}
use Rattle.byte_fields.specs.Places.{le64}
use Rattle.admin_wire.specs.Numbers.{ok, enomem, einval, unqualified, fixed_size, info_size, query_writable, use_writable}
use Rattle.admin_wire.specs.Done.{parts_of}
use Rattle.admin_wire.specs.Writing.{query_bytes, use_bytes, legacy_bytes}
use Rattle.admin_wire.specs.declared.done.DoneParts.{DoneParts}
use Rattle.admin_wire.specs.declared.command.LegacyCmd.TheVariants.{Info as AskInfo}
use Rattle.group_calls.specs.declared.ask.Ask.{Ask}
use Rattle.group_calls.specs.declared.ask.Ask.TheVariants.{Queue}
use Rattle.group_calls.specs.declared.ask.Told.{Told}
use Rattle.group_calls.specs.declared.ask.Told.TheVariants.{Queue as FromQueue}
use Rattle.group_calls.specs.declared.queue.RingCall.TheVariants.{Post, Take}
use Rattle.group_calls.specs.declared.queue.RingReply.TheVariants.{Seq, Closed, Ready as IsReady, Lost}
use Rattle.vfio_driver.specs.declared.bring_stage.Brought.{Brought}
use Rattle.vfio_driver.specs.declared.bring_stage.Brought.TheVariants.{Ready, Unfit}
use Rattle.vfio_driver.specs.declared.bring_stage.BringCommand.{BringCommand}
use Rattle.vfio_driver.specs.declared.bring_stage.BringCommand.TheVariants.{Query, Use, Info}
use Rattle.vfio_driver.specs.declared.bring_stage.BringStage.{BringStage}
use Rattle.vfio_driver.specs.declared.bring_stage.BringStage.TheVariants.{Posting, Taking, Over}

abbrev pub command_bytes : ℕ → BringCommand → List ℕ
command_bytes member Query = query_bytes
command_bytes member Use = use_bytes 0x7f
command_bytes member Info = legacy_bytes member AskInfo

abbrev pub command_room : BringCommand → ℕ
command_room Query = query_writable
command_room Use = use_writable
command_room Info = fixed_size + info_size

-- the list commands where the member is 0, else its notify information
abbrev pub first_stage : ℕ → BringStage
first_stage member = if member == 0 then Posting Query else Posting Info

abbrev pub next_ask : ℕ → BringStage → Option Ask
next_ask member (Posting command) = Some (Queue 0 (Post (command_bytes member command) (command_room command) (record { guest = member; floor = 0 })))
next_ask member (Taking command seq) = Some (Queue 0 (Take seq))
next_ask member (Over brought) = None

-- after a completion with status 0: the list has the opcodes 0 to 6, and entry 0 of the notify information is the member device's
abbrev pub after_good : BringCommand → DoneParts → ℕ → BringStage
after_good Query done floor = if le64 0 done.payload % 128 == 127 then Posting Use else Over (Unfit done.status done.qualifier (le64 0 done.payload))
after_good Use done floor = Over (Ready floor)
after_good Info done floor = if slice_index done.payload 0 == 2 then Over (Ready floor) else Over (Unfit done.status done.qualifier 0)

abbrev pub after_done : BringCommand → DoneParts → ℕ → BringStage
after_done command done floor = if not (done.status == ok) then Over (Unfit done.status done.qualifier 0) else after_good command done floor

abbrev pub after_completion : BringCommand → List ℕ → ℕ → BringStage
after_completion command bytes floor = after_done command (parts_of bytes) floor

abbrev pub after_post : BringCommand → Told → BringStage
after_post command (FromQueue placed) = elim placed.reply [ Seq seq ↦ Taking command seq | Closed floor ↦ Over (Unfit einval unqualified 0) | _ ↦ Posting command ]
after_post command _ = Over (Unfit enomem unqualified 0)

abbrev pub after_take : BringCommand → ℕ → Told → BringStage
after_take command seq (FromQueue placed) = elim placed.reply [ IsReady bytes floor ↦ after_completion command bytes floor | Lost floor ↦ Over (Unfit einval unqualified 0) | _ ↦ Taking command seq ]
after_take command seq _ = Taking command seq

abbrev pub after : BringStage → Told → BringStage
after (Posting command) told = after_post command told
after (Taking command seq) told = after_take command seq told
after (Over brought) told = Over brought

abbrev pub brought_by : BringStage → Option Brought
brought_by (Over brought) = Some brought
brought_by _ = None
