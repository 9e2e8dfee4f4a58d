use Rattle.std.proofs.Common.{List, ℕ, ap, ◌∙◌}
use Rattle.byteorder.specs.Endian.{little_number}
use Rattle.byte_fields.specs.Places.{number_at}
use Rattle.io_bar.proofs.bar.queue_number.Goals as goal

pub returns : goal.returns
unfolding number_at
returns c = c.read_u16.ensures ∙ ap (λ (b : List ℕ). little_number 2 b) c.as_slice.ensures.bytes
