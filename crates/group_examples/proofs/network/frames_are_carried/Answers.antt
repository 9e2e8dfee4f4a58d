-- Each example computes.
use Rattle.std.proofs.Common.{refl}
use Rattle.byte_fields.specs.Places.{bytes_of, number_at, overwrite}
use Rattle.ring_layout.specs.Chain.{descriptor, available, gap, chain_at, found}
use Rattle.blk_engine.specs.Block.{status_of, block_reply, disk_after_request}
use Rattle.group_calls.specs.MemberRegisters.{registers_after}
use Rattle.group_calls.specs.Facts.{facts}
use Rattle.group_calls.specs.Steps.{service, block_step, receive_step, transmit_step, chain_step, found_step, ring_step, outcome}
use Rattle.group_calls.specs.Disk.{write_of_service}
use Rattle.group_calls.specs.Storage.{memory_from, disk_writes}
use Rattle.group_examples.proofs.network.frames_are_carried.Goals as goal

pub returns-clause-a_frame_that_fits_is_received : goal.returns-clause-a_frame_that_fits_is_received
unfolding bytes_of number_at overwrite descriptor available gap chain_at found status_of block_reply disk_after_request registers_after facts service block_step receive_step transmit_step chain_step found_step ring_step outcome write_of_service memory_from disk_writes
returns-clause-a_frame_that_fits_is_received c = refl

pub returns-clause-frames_wait_until_a_reset : goal.returns-clause-frames_wait_until_a_reset
unfolding bytes_of number_at overwrite descriptor available gap chain_at found status_of block_reply disk_after_request registers_after facts service block_step receive_step transmit_step chain_step found_step ring_step outcome write_of_service memory_from disk_writes
returns-clause-frames_wait_until_a_reset c = refl

pub returns-clause-the_next_frame_is_one_too_many : goal.returns-clause-the_next_frame_is_one_too_many
unfolding bytes_of number_at overwrite descriptor available gap chain_at found status_of block_reply disk_after_request registers_after facts service block_step receive_step transmit_step chain_step found_step ring_step outcome write_of_service memory_from disk_writes
returns-clause-the_next_frame_is_one_too_many c = refl

pub returns-clause-a_block_device_refuses_frames : goal.returns-clause-a_block_device_refuses_frames
unfolding bytes_of number_at overwrite descriptor available gap chain_at found status_of block_reply disk_after_request registers_after facts service block_step receive_step transmit_step chain_step found_step ring_step outcome write_of_service memory_from disk_writes
returns-clause-a_block_device_refuses_frames c = refl

pub returns-clause-only_frames_are_sent : goal.returns-clause-only_frames_are_sent
unfolding bytes_of number_at overwrite descriptor available gap chain_at found status_of block_reply disk_after_request registers_after facts service block_step receive_step transmit_step chain_step found_step ring_step outcome write_of_service memory_from disk_writes
returns-clause-only_frames_are_sent c = refl

pub returns-clause-raised_vectors_are_taken : goal.returns-clause-raised_vectors_are_taken
unfolding bytes_of number_at overwrite descriptor available gap chain_at found status_of block_reply disk_after_request registers_after facts service block_step receive_step transmit_step chain_step found_step ring_step outcome write_of_service memory_from disk_writes
returns-clause-raised_vectors_are_taken c = refl
