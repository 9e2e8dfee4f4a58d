-- Each example computes.
use Rattle.std.proofs.Common.{refl}
use Rattle.byte_fields.specs.Places.{bytes_of, number_at}
use Rattle.group_examples.proofs.owner.commands_are_judged.Goals as goal

pub returns-clause-missing_bytes_are_zeros : goal.returns-clause-missing_bytes_are_zeros
unfolding bytes_of number_at
returns-clause-missing_bytes_are_zeros c = refl

pub returns-clause-a_list_in_use_decides : goal.returns-clause-a_list_in_use_decides
unfolding bytes_of number_at
returns-clause-a_list_in_use_decides c = refl

pub returns-clause-an_unsupported_list_is_refused : goal.returns-clause-an_unsupported_list_is_refused
unfolding bytes_of number_at
returns-clause-an_unsupported_list_is_refused c = refl

pub returns-clause-only_members_are_reached : goal.returns-clause-only_members_are_reached
unfolding bytes_of number_at
returns-clause-only_members_are_reached c = refl

pub returns-clause-accesses_are_taken_apart : goal.returns-clause-accesses_are_taken_apart
unfolding bytes_of number_at
returns-clause-accesses_are_taken_apart c = refl

pub returns-clause-each_length_is_read : goal.returns-clause-each_length_is_read
unfolding bytes_of number_at
returns-clause-each_length_is_read c = refl

pub returns-clause-disabled_members_are_gone : goal.returns-clause-disabled_members_are_gone
unfolding bytes_of number_at
returns-clause-disabled_members_are_gone c = refl
