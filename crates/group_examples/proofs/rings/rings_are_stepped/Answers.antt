-- Each example computes.
use Rattle.std.proofs.Common.{refl}
use Rattle.byte_fields.specs.Places.{bytes_of, number_at, overwrite}
use Rattle.ring_layout.specs.Chain.{descriptor, available, gap, chain_at, found}
use Rattle.blk_engine.specs.Block.{status_of, block_reply, disk_after_request}
use Rattle.group_calls.specs.MemberRegisters.{registers_after}
use Rattle.group_calls.specs.Facts.{facts}
use Rattle.group_calls.specs.Steps.{service, block_step, receive_step, transmit_step, chain_step, found_step, ring_step, outcome}
use Rattle.group_calls.specs.Disk.{write_of_service}
use Rattle.group_calls.specs.Storage.{memory_from, disk_writes}
use Rattle.group_examples.proofs.rings.rings_are_stepped.Goals as goal

pub returns-clause-a_service_raises_isr : goal.returns-clause-a_service_raises_isr
unfolding bytes_of number_at overwrite descriptor available gap chain_at found status_of block_reply disk_after_request registers_after facts service block_step receive_step transmit_step chain_step found_step ring_step outcome write_of_service memory_from disk_writes
returns-clause-a_service_raises_isr c = refl

pub returns-clause-an_unwanted_interrupt_is_silent : goal.returns-clause-an_unwanted_interrupt_is_silent
unfolding bytes_of number_at overwrite descriptor available gap chain_at found status_of block_reply disk_after_request registers_after facts service block_step receive_step transmit_step chain_step found_step ring_step outcome write_of_service memory_from disk_writes
returns-clause-an_unwanted_interrupt_is_silent c = refl

pub returns-clause-an_address_write_restarts_a_ring : goal.returns-clause-an_address_write_restarts_a_ring
unfolding bytes_of number_at overwrite descriptor available gap chain_at found status_of block_reply disk_after_request registers_after facts service block_step receive_step transmit_step chain_step found_step ring_step outcome write_of_service memory_from disk_writes
returns-clause-an_address_write_restarts_a_ring c = refl

pub returns-clause-a_hostile_guest_halts_its_queue : goal.returns-clause-a_hostile_guest_halts_its_queue
unfolding bytes_of number_at overwrite descriptor available gap chain_at found status_of block_reply disk_after_request registers_after facts service block_step receive_step transmit_step chain_step found_step ring_step outcome write_of_service memory_from disk_writes
returns-clause-a_hostile_guest_halts_its_queue c = refl

pub returns-clause-hostile_rings_are_answered : goal.returns-clause-hostile_rings_are_answered
unfolding bytes_of number_at overwrite descriptor available gap chain_at found status_of block_reply disk_after_request registers_after facts service block_step receive_step transmit_step chain_step found_step ring_step outcome write_of_service memory_from disk_writes
returns-clause-hostile_rings_are_answered c = refl

pub returns-clause-a_ring_fits_its_memory : goal.returns-clause-a_ring_fits_its_memory
unfolding bytes_of number_at overwrite descriptor available gap chain_at found status_of block_reply disk_after_request registers_after facts service block_step receive_step transmit_step chain_step found_step ring_step outcome write_of_service memory_from disk_writes
returns-clause-a_ring_fits_its_memory c = refl

pub returns-clause-a_table_is_followed_where_accepted : goal.returns-clause-a_table_is_followed_where_accepted
unfolding bytes_of number_at overwrite descriptor available gap chain_at found status_of block_reply disk_after_request registers_after facts service block_step receive_step transmit_step chain_step found_step ring_step outcome write_of_service memory_from disk_writes
returns-clause-a_table_is_followed_where_accepted c = refl

pub returns-clause-an_interrupt_comes_at_the_awaited_position : goal.returns-clause-an_interrupt_comes_at_the_awaited_position
unfolding bytes_of number_at overwrite descriptor available gap chain_at found status_of block_reply disk_after_request registers_after facts service block_step receive_step transmit_step chain_step found_step ring_step outcome write_of_service memory_from disk_writes
returns-clause-an_interrupt_comes_at_the_awaited_position c = refl
