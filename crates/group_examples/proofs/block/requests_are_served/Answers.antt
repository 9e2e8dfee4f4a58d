-- Each example computes.
use Rattle.std.proofs.Common.{refl}
use Rattle.byte_fields.specs.Places.{bytes_of, number_at, overwrite}
use Rattle.ring_layout.specs.Chain.{descriptor, available, gap, chain_at, found}
use Rattle.blk_engine.specs.Block.{status_of, block_reply, disk_after_request}
use Rattle.group_calls.specs.MemberRegisters.{registers_after}
use Rattle.group_calls.specs.Facts.{facts}
use Rattle.group_calls.specs.Steps.{service, block_step, receive_step, transmit_step, chain_step, found_step, ring_step, outcome}
use Rattle.group_calls.specs.Disk.{write_of_service}
use Rattle.group_calls.specs.Storage.{memory_from, disk_writes}
use Rattle.group_examples.proofs.block.requests_are_served.Goals as goal

pub returns-clause-each_request_has_its_status : goal.returns-clause-each_request_has_its_status
unfolding bytes_of number_at overwrite descriptor available gap chain_at found status_of block_reply disk_after_request registers_after facts service block_step receive_step transmit_step chain_step found_step ring_step outcome write_of_service memory_from disk_writes
returns-clause-each_request_has_its_status c = refl

pub returns-clause-a_reply_fills_the_buffers_in_order : goal.returns-clause-a_reply_fills_the_buffers_in_order
unfolding bytes_of number_at overwrite descriptor available gap chain_at found status_of block_reply disk_after_request registers_after facts service block_step receive_step transmit_step chain_step found_step ring_step outcome write_of_service memory_from disk_writes
returns-clause-a_reply_fills_the_buffers_in_order c = refl

pub returns-clause-a_read_only_device_keeps_its_sectors : goal.returns-clause-a_read_only_device_keeps_its_sectors
unfolding bytes_of number_at overwrite descriptor available gap chain_at found status_of block_reply disk_after_request registers_after facts service block_step receive_step transmit_step chain_step found_step ring_step outcome write_of_service memory_from disk_writes
returns-clause-a_read_only_device_keeps_its_sectors c = refl

pub returns-clause-a_sector_is_read_as_written : goal.returns-clause-a_sector_is_read_as_written
unfolding bytes_of number_at overwrite descriptor available gap chain_at found status_of block_reply disk_after_request registers_after facts service block_step receive_step transmit_step chain_step found_step ring_step outcome write_of_service memory_from disk_writes
returns-clause-a_sector_is_read_as_written c = refl
