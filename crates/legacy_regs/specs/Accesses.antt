-- Which accesses the legacy registers refuse, and what each of the others does, with VIRTIO 1.3 as the standard.
use Rattle.std.specs.Prelude.{◌≡◌, ℕ, ◌+◌, ◌-◌, ◌%◌, ◌==◌, nat_lt, nat_le, not, ◌&&◌, ◌||◌, Bool, false, if◌then◌else◌, List, [], ◌∷◌, length, map, Option, None, Some, unwrap_or, slice_get, Result, Ok, Err}
use Rattle.std.specs.List.{enumerate_from}
use Rattle.std.specs.Option.{option_map}
use Rattle.byte_fields.specs.Places.{bytes_at, le16, bytes_of}
use Rattle.legacy_regs.specs.declared.device.Kind.{Kind}
use Rattle.legacy_regs.specs.declared.accesses.Space.{Space}
use Rattle.legacy_regs.specs.declared.accesses.Space.TheVariants.{Common, Device}
use Rattle.legacy_regs.specs.declared.accesses.Field.{Field}
use Rattle.legacy_regs.specs.declared.accesses.Effect.{Effect}
use Rattle.legacy_regs.specs.declared.accesses.Effect.TheVariants.{Nothing, Notify, Reset, Address}
use Rattle.legacy_regs.specs.Fields.{FieldPlace, fields_of, is_in_one_field, touches, driver_features_field, queue_address_field, queue_select_field, queue_notify_field, device_status_field, isr_field, config_vector_field, queue_vector_field, writeback_field, mac_field}
use Rattle.legacy_regs.specs.Registers.{Registers, Bank, no_vector, queue_count, selected, reset_of, structure}

-- ---- refusals (of this project)

-- a read of `count` bytes that has no byte, or isn't wholly inside one field
abbrev pub is_refused_read : Kind → Bool → Space → ℕ → ℕ → Bool
is_refused_read kind msix space offset count = not (is_in_one_field (fields_of kind msix space) offset count)

-- a write at queue notify of other than its 2 bytes
abbrev pub notifies_in_part : Space → ℕ → ℕ → Bool
notifies_in_part Common offset count = touches queue_notify_field offset count && not (count == 2)
notifies_in_part Device offset count = false

-- a write that has no byte, isn't wholly inside one field, or writes a part of queue notify
abbrev pub is_refused_write : Kind → Bool → Space → ℕ → List ℕ → Bool
is_refused_write kind msix space offset bytes = not (is_in_one_field (fields_of kind msix space) offset (length bytes)) || notifies_in_part space offset (length bytes)

-- ---- reads: `count` bytes from `offset` on

abbrev pub read_bytes : Kind → Registers → Space → ℕ → ℕ → List ℕ
read_bytes kind r space offset count = bytes_at offset count (structure kind r space)

-- a read of ISR clears it: 4.1.4.5
abbrev pub read_common : ℕ → ℕ → Registers → Registers
read_common offset count r = if touches isr_field offset count then record r { isr = 0 } else r

abbrev pub read_structure : Space → ℕ → ℕ → Registers → Registers
read_structure Common offset count r = read_common offset count r
read_structure Device offset count r = r

-- ---- writes: `bytes` from `offset` on

-- the byte that a write puts at this place
abbrev pub byte_put : ℕ → ℕ → List ℕ → Option ℕ
byte_put place offset bytes = if nat_le offset place then slice_get bytes (place - offset) else None

-- the bytes of a field from this place on, where those that a write covers are replaced
abbrev pub bytes_put : ℕ → ℕ → List ℕ → List ℕ → List ℕ
bytes_put place offset bytes [] = []
bytes_put place offset bytes (b ∷ field) = unwrap_or (byte_put place offset bytes) b ∷ bytes_put (place + 1) offset bytes field

-- a vector of at least queues + 1 is kept as none (4.1.5.1.2; the bound is of this project)
abbrev pub kept_vector : ℕ → ℕ → ℕ
kept_vector queues vector = if nat_le (queues + 1) vector then no_vector else vector

abbrev pub vector_put : ℕ → FieldPlace → ℕ → List ℕ → ℕ → ℕ
vector_put queues field offset bytes vector =
    if touches field offset (length bytes) then kept_vector queues (le16 0 (bytes_put field.offset offset bytes (bytes_of 2 vector))) else vector

-- the items of all queues, where that of this queue is changed, if it exists (of this project)
abbrev pub changed_at : {Item : Type 0} → (Item → Item) → ℕ → List Item → List Item
changed_at change queue items = map (λ item. if item.0 == queue then change item.1 else item.1) (enumerate_from 0 items)

-- a write of 0 to device status is a reset: 2.1
abbrev pub is_reset_write : ℕ → List ℕ → Bool
is_reset_write offset bytes = elim (byte_put device_status_field.offset offset bytes) [ None ↦ false | Some byte ↦ byte == 0 ]

abbrev pub write_common : Kind → ℕ → List ℕ → Registers → Registers
write_common kind offset bytes r =
    if is_reset_write offset bytes then reset_of kind r else record r {
      features = bytes_put driver_features_field.offset offset bytes r.features;
      addresses = changed_at (bytes_put queue_address_field.offset offset bytes) (selected r) r.addresses;
      select = bytes_put queue_select_field.offset offset bytes r.select;
      status = unwrap_or (byte_put device_status_field.offset offset bytes) r.status;
      config_vector = vector_put (queue_count kind) config_vector_field offset bytes r.config_vector;
      queue_vectors = changed_at (vector_put (queue_count kind) queue_vector_field offset bytes) (selected r) r.queue_vectors;
    }

-- writeback keeps the lowest bit (of this project)
abbrev pub write_device : ℕ → List ℕ → Registers → Registers
write_device offset bytes r = record r {
  writeback = unwrap_or (option_map (λ byte. byte % 2) (byte_put writeback_field.offset offset bytes)) r.writeback;
  mac = bytes_put mac_field.offset offset bytes r.mac;
}

abbrev pub write_structure : Kind → Space → ℕ → List ℕ → Registers → Registers
write_structure kind Common offset bytes r = write_common kind offset bytes r
write_structure kind Device offset bytes r = write_device offset bytes r

-- the queue that a write notifies, by its number in the 2 bytes of queue notify, whether it exists or not: 4.1.5.2
abbrev pub notified_queue : ℕ → List ℕ → Option ℕ
notified_queue offset bytes =
    if (offset == queue_notify_field.offset) && (length bytes == queue_notify_field.size) then Some (le16 0 bytes) else None

-- what a write of the common structure does beyond the registers: it notifies an existing queue (4.1.5.2), is a reset (2.1), or writes the address of an existing queue (4.1.5.1.3.1)
abbrev pub common_effect : Kind → Registers → ℕ → List ℕ → Effect
common_effect kind r offset bytes =
    if touches queue_notify_field offset (length bytes) && nat_lt (le16 0 bytes) (queue_count kind) then Notify (le16 0 bytes) else
    if is_reset_write offset bytes then Reset else
    if touches queue_address_field offset (length bytes) && nat_lt (selected r) (queue_count kind) then Address (selected r) else
    Nothing

abbrev pub write_effect : Kind → Registers → Space → ℕ → List ℕ → Effect
write_effect kind r Common offset bytes = common_effect kind r offset bytes
write_effect kind r Device offset bytes = Nothing

-- ---- what the calls of a bank answer, and what they leave

-- Field where it is refused, else the bytes
abbrev pub read_answer : Bank → Space → ℕ → ℕ → Result (List ℕ) Field
read_answer bank space offset count =
    if is_refused_read bank.kind bank.registers.msix space offset count then Err (record {}) else Ok (read_bytes bank.kind bank.registers space offset count)

-- the bytes that were read are as many as were asked for
abbrev pub HasBytes : ℕ → Result (List ℕ) Field → Type 0
HasBytes count (Ok bytes) = length bytes ≡ count
HasBytes count (Err refused) = Unit {0}

abbrev pub after_read : Bank → Space → ℕ → ℕ → Registers
after_read bank space offset count =
    if is_refused_read bank.kind bank.registers.msix space offset count then bank.registers else read_structure space offset count bank.registers

-- Field where it is refused, else the effect
abbrev pub write_answer : Bank → Space → ℕ → List ℕ → Result Effect Field
write_answer bank space offset bytes =
    if is_refused_write bank.kind bank.registers.msix space offset bytes then Err (record {}) else Ok (write_effect bank.kind bank.registers space offset bytes)

abbrev pub after_write : Bank → Space → ℕ → List ℕ → Registers
after_write bank space offset bytes =
    if is_refused_write bank.kind bank.registers.msix space offset bytes then bank.registers else write_structure bank.kind space offset bytes bank.registers
