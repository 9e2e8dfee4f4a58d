-- What one entry does to a member's registers, in the words of the legacy registers. Of this project.
use Rattle.std.specs.Prelude.{if◌then◌else◌}
use Rattle.admin_wire.specs.declared.command.LegacyCmd.{LegacyCmd}
use Rattle.admin_wire.specs.declared.command.LegacyCmd.TheVariants.{CommonWrite, CommonRead, DevWrite, DevRead, Info as NotifyInfo}
use Rattle.legacy_regs.specs.declared.device.Kind.{Kind}
use Rattle.legacy_regs.specs.declared.accesses.Space.TheVariants.{Common, Device}
use Rattle.legacy_regs.specs.declared.interrupts.Irq.TheVariants.{Isr}
use Rattle.legacy_regs.specs.Registers.{Registers, flr_of}
use Rattle.legacy_regs.specs.Accesses.{read_structure, write_structure}
use Rattle.group_calls.specs.declared.member.MemberCall.{MemberCall}
use Rattle.group_calls.specs.declared.member.MemberCall.TheVariants.{Act, Msix, Step, Flr}
use Rattle.group_calls.specs.declared.member.MemberReply.{MemberReply}
use Rattle.group_calls.specs.declared.member.MemberReply.TheVariants.{Served}
use Rattle.group_calls.specs.MemberEntries.{is_done}

abbrev pub after_access : Kind → LegacyCmd → Registers → Registers
after_access kind (CommonWrite offset bytes) r = write_structure kind Common offset bytes r
after_access kind (CommonRead offset count) r = read_structure Common offset count r
after_access kind (DevWrite offset bytes) r = write_structure kind Device offset bytes r
after_access kind (DevRead offset count) r = read_structure Device offset count r
after_access kind NotifyInfo r = r

-- a service with the interrupt of ISR sets it
abbrev pub after_step : MemberReply → Registers → Registers
after_step (Served length irq sent) r = elim irq [ Isr ↦ record r { isr = 1 } | _ ↦ r ]
after_step _ r = r

abbrev pub after_done : Kind → MemberCall → MemberReply → Registers → Registers
after_done kind (Act command) reply r = after_access kind command r
after_done kind (Msix on) reply r = record r { msix = on }
after_done kind (Step queue) reply r = after_step reply r
after_done kind Flr reply r = flr_of kind r
after_done kind _ reply r = r

-- the registers after a call and its reply
abbrev pub registers_then : Kind → MemberCall → MemberReply → Registers → Registers
registers_then kind call reply r = if is_done reply then after_done kind call reply r else r
