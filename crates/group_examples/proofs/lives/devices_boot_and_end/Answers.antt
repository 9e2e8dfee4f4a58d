-- Each example computes.
use Rattle.std.proofs.Common.{refl}
use Rattle.byte_fields.specs.Places.{bytes_of, number_at, overwrite}
use Rattle.ring_layout.specs.Chain.{descriptor, available, gap, chain_at, found}
use Rattle.blk_engine.specs.Block.{status_of, block_reply, disk_after_request}
use Rattle.group_calls.specs.MemberRegisters.{registers_after}
use Rattle.group_calls.specs.Facts.{facts}
use Rattle.group_calls.specs.Steps.{service, block_step, receive_step, transmit_step, chain_step, found_step, ring_step, outcome}
use Rattle.group_calls.specs.Disk.{write_of_service}
use Rattle.group_calls.specs.Storage.{memory_from, disk_writes}
use Rattle.group_examples.proofs.lives.devices_boot_and_end.Goals as goal

pub returns-clause-a_block_guest_boots : goal.returns-clause-a_block_guest_boots
unfolding bytes_of number_at overwrite descriptor available gap chain_at found status_of block_reply disk_after_request registers_after facts service block_step receive_step transmit_step chain_step found_step ring_step outcome write_of_service memory_from disk_writes
returns-clause-a_block_guest_boots c = refl

pub returns-clause-a_killed_member_is_gone : goal.returns-clause-a_killed_member_is_gone
unfolding bytes_of number_at overwrite descriptor available gap chain_at found status_of block_reply disk_after_request registers_after facts service block_step receive_step transmit_step chain_step found_step ring_step outcome write_of_service memory_from disk_writes
returns-clause-a_killed_member_is_gone c = refl

pub returns-clause-a_killed_device_reads_ones : goal.returns-clause-a_killed_device_reads_ones
unfolding bytes_of number_at overwrite descriptor available gap chain_at found status_of block_reply disk_after_request registers_after facts service block_step receive_step transmit_step chain_step found_step ring_step outcome write_of_service memory_from disk_writes
returns-clause-a_killed_device_reads_ones c = refl
