-- Each example computes.
use Rattle.std.proofs.Common.{refl}
use Rattle.byte_fields.specs.Places.{bytes_of, number_at, overwrite}
use Rattle.ring_layout.specs.Chain.{descriptor, available, gap, chain_at, found}
use Rattle.blk_engine.specs.Block.{status_of, block_reply, disk_after_request}
use Rattle.group_calls.specs.MemberRegisters.{registers_after}
use Rattle.group_calls.specs.Facts.{facts}
use Rattle.group_calls.specs.Steps.{service, block_step, receive_step, transmit_step, chain_step, found_step, ring_step, outcome}
use Rattle.group_calls.specs.Disk.{write_of_service}
use Rattle.group_calls.specs.Storage.{memory_from, disk_writes}
use Rattle.group_examples.proofs.registers.registers_are_accessed.Goals as goal

pub returns-clause-msix_moves_the_device_registers : goal.returns-clause-msix_moves_the_device_registers
unfolding bytes_of number_at overwrite descriptor available gap chain_at found status_of block_reply disk_after_request registers_after facts service block_step receive_step transmit_step chain_step found_step ring_step outcome write_of_service memory_from disk_writes
returns-clause-msix_moves_the_device_registers c = refl

pub returns-clause-a_notification_has_two_bytes : goal.returns-clause-a_notification_has_two_bytes
unfolding bytes_of number_at overwrite descriptor available gap chain_at found status_of block_reply disk_after_request registers_after facts service block_step receive_step transmit_step chain_step found_step ring_step outcome write_of_service memory_from disk_writes
returns-clause-a_notification_has_two_bytes c = refl

pub returns-clause-network_registers_are_reached : goal.returns-clause-network_registers_are_reached
unfolding bytes_of number_at overwrite descriptor available gap chain_at found status_of block_reply disk_after_request registers_after facts service block_step receive_step transmit_step chain_step found_step ring_step outcome write_of_service memory_from disk_writes
returns-clause-network_registers_are_reached c = refl

pub returns-clause-short_and_crossing_accesses_are_refused : goal.returns-clause-short_and_crossing_accesses_are_refused
unfolding bytes_of number_at overwrite descriptor available gap chain_at found status_of block_reply disk_after_request registers_after facts service block_step receive_step transmit_step chain_step found_step ring_step outcome write_of_service memory_from disk_writes
returns-clause-short_and_crossing_accesses_are_refused c = refl

pub returns-clause-parts_of_fields_are_written : goal.returns-clause-parts_of_fields_are_written
unfolding bytes_of number_at overwrite descriptor available gap chain_at found status_of block_reply disk_after_request registers_after facts service block_step receive_step transmit_step chain_step found_step ring_step outcome write_of_service memory_from disk_writes
returns-clause-parts_of_fields_are_written c = refl

pub returns-clause-vectors_are_bounded : goal.returns-clause-vectors_are_bounded
unfolding bytes_of number_at overwrite descriptor available gap chain_at found status_of block_reply disk_after_request registers_after facts service block_step receive_step transmit_step chain_step found_step ring_step outcome write_of_service memory_from disk_writes
returns-clause-vectors_are_bounded c = refl

pub returns-clause-queues_have_their_own_registers : goal.returns-clause-queues_have_their_own_registers
unfolding bytes_of number_at overwrite descriptor available gap chain_at found status_of block_reply disk_after_request registers_after facts service block_step receive_step transmit_step chain_step found_step ring_step outcome write_of_service memory_from disk_writes
returns-clause-queues_have_their_own_registers c = refl

pub returns-clause-a_status_of_zero_resets : goal.returns-clause-a_status_of_zero_resets
unfolding bytes_of number_at overwrite descriptor available gap chain_at found status_of block_reply disk_after_request registers_after facts service block_step receive_step transmit_step chain_step found_step ring_step outcome write_of_service memory_from disk_writes
returns-clause-a_status_of_zero_resets c = refl

pub returns-clause-a_function_level_reset_resets : goal.returns-clause-a_function_level_reset_resets
unfolding bytes_of number_at overwrite descriptor available gap chain_at found status_of block_reply disk_after_request registers_after facts service block_step receive_step transmit_step chain_step found_step ring_step outcome write_of_service memory_from disk_writes
returns-clause-a_function_level_reset_resets c = refl

pub returns-clause-a_mac_outlives_a_reset : goal.returns-clause-a_mac_outlives_a_reset
unfolding bytes_of number_at overwrite descriptor available gap chain_at found status_of block_reply disk_after_request registers_after facts service block_step receive_step transmit_step chain_step found_step ring_step outcome write_of_service memory_from disk_writes
returns-clause-a_mac_outlives_a_reset c = refl
