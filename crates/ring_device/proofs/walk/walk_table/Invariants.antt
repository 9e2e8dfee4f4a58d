use Rattle.std.proofs.Common.{◌≡◌, ◌≤◌, ◌+◌, ◌-◌, Bool, List, Option, length}
use Rattle.ring_layout.specs.declared.descriptor.Descriptor.{Descriptor}
use Rattle.ring_device.specs.Follow.{onto, walked, any_written}
use Rattle.ring_device.proofs.walk.walk_table.Given as goal

abbrev pub invariant-loop-met : goal.invariant-loop-met
invariant-loop-met l = record {
  goes : (own : Bool → Descriptor → Option (List Descriptor)) → onto l.chain.parts (walked own l.mem l.table (l.table.count - l._met) (any_written l.chain.parts) l.index)
      ≡ onto l.initial.chain.parts (walked own l.mem l.table l.table.count (any_written l.initial.chain.parts) l.first);
  head : l.chain.head ≡ l.initial.chain.head;
  few : length l.chain.parts ≤ length l.initial.chain.parts + l._met;
}
