-- What the code keeps, as the registers that contracts see.
use Rattle.std.specs.Prelude.{ℕ, nat_lt, if◌then◌else◌, Bool, List, [], map, take}
use Rattle.legacy_regs.specs.declared.device.Kind.{Kind}
use Rattle.legacy_regs.specs.declared.device.Kind.TheVariants.{Block, Net}
use Rattle.legacy_regs.specs.declared.state.State.{State}
use Rattle.legacy_regs.specs.declared.state.QueueState.{QueueState}
use Rattle.legacy_regs.specs.Fields.{queue_address_field, queue_vector_field}
use Rattle.legacy_regs.specs.Registers.{Registers, queue_count}
use Rattle.legacy_regs.specs.Accesses.{bytes_put, vector_put, changed_at}

-- a queue's registers after a write while it is selected
abbrev pub queue_put : ℕ → ℕ → List ℕ → QueueState → QueueState
queue_put queues offset bytes queue = record {
  address = bytes_put queue_address_field.offset offset bytes queue.address;
  vector = vector_put queues queue_vector_field offset bytes queue.vector;
}

-- the queues of a device of so many after a write with this one selected
abbrev pub queues_put : ℕ → ℕ → List ℕ → ℕ → List QueueState → List QueueState
queues_put queues offset bytes queue all =
    if nat_lt queue queues then changed_at (queue_put queues offset bytes) queue all else all

abbrev pub kept_mac : Kind → List ℕ → List ℕ
kept_mac (Block sectors read_only) mac = []
kept_mac (Net initial) mac = mac

abbrev pub registers_of : Kind → List ℕ → Bool → State → Registers
registers_of kind mac msix s = record {
  features = s.features;
  addresses = map (λ queue. queue.address) (take (queue_count kind) s.queues);
  select = s.select;
  status = s.status;
  isr = s.isr;
  config_vector = s.config_vector;
  queue_vectors = map (λ queue. queue.vector) (take (queue_count kind) s.queues);
  writeback = s.writeback;
  mac = kept_mac kind mac;
  msix = msix;
}
