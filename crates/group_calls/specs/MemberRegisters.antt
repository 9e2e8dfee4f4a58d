-- A member's registers, by looking back through its history: VIRTIO 1.3, 4.1.4.10 (legacy interfaces), 5.2.4 (block) and 5.1.4 (network). A run is the entries since the latest reset.
use Rattle.std.specs.Prelude.{ℕ, ◌+◌, ◌%◌, ◌==◌, Bool, true, false, ◌&&◌, List, [], ◌∷◌, Option, None, Some, map, if◌then◌else◌}
use Rattle.std.specs.List.{list_any}
use Rattle.std.specs.Option.{option_map}
use Rattle.byte_fields.specs.Places.{le16}
use Rattle.admin_wire.specs.declared.command.LegacyCmd.TheVariants.{CommonRead}
use Rattle.legacy_regs.specs.declared.device.Kind.{Kind}
use Rattle.legacy_regs.specs.declared.accesses.Space.TheVariants.{Common, Device}
use Rattle.legacy_regs.specs.declared.interrupts.Irq.TheVariants.{Isr}
use Rattle.legacy_regs.specs.Fields.{FieldPlace, touches, driver_features_field, queue_address_field, queue_select_field, device_status_field, isr_field, config_vector_field, queue_vector_field, writeback_field, mac_field}
use Rattle.legacy_regs.specs.Registers.{Registers, no_vector, queue_numbers, queue_count, initial_mac}
use Rattle.legacy_regs.specs.Accesses.{vector_put}
use Rattle.history.specs.Look.{latest_or, after_latest, latest_seen_or}
use Rattle.group_calls.specs.declared.member.MemberCall.{MemberCall}
use Rattle.group_calls.specs.declared.member.MemberCall.TheVariants.{Act, Msix, Step}
use Rattle.group_calls.specs.declared.member.MemberReply.TheVariants.{Served}
use Rattle.group_calls.specs.MemberEntries.{MemberEntry, RegisterWrite, is_done, done_write, byte_written, is_flr, since_reset}

-- ---- bytes

-- the bytes of a field from a place on: each as the latest entry that writes it left it, else as it was at first. What an entry writes may depend on what stood before it
abbrev pub bytes_left : (ℕ → MemberEntry → List MemberEntry → Option ℕ) → List MemberEntry → ℕ → List ℕ → List ℕ
bytes_left written run place [] = []
bytes_left written run place (byte ∷ rest) = latest_seen_or byte (written place) run ∷ bytes_left written run (place + 1) rest

abbrev pub common_bytes : List MemberEntry → FieldPlace → List ℕ → List ℕ
common_bytes run field first = bytes_left (λ place e past. byte_written Common place e) run field.offset first

-- driver features: 0 at first
abbrev pub features : List MemberEntry → List ℕ
features run = common_bytes run driver_features_field (0 ∷ 0 ∷ 0 ∷ 0 ∷ [])

-- queue select: 0 at first
abbrev pub select_bytes : List MemberEntry → List ℕ
select_bytes run = common_bytes run queue_select_field (0 ∷ 0 ∷ [])

-- the queue that is selected
abbrev pub selected : List MemberEntry → ℕ
selected run = le16 0 (select_bytes run)

-- device status: 0 at first
abbrev pub status : List MemberEntry → ℕ
status run = latest_or 0 (byte_written Common device_status_field.offset) run

abbrev pub address_written : ℕ → ℕ → MemberEntry → List MemberEntry → Option ℕ
address_written q place e past = if q == selected past then byte_written Common place e else None

-- the page number of a queue: 0 at first, and each byte as the latest write while the queue was selected left it
abbrev pub address_bytes : List MemberEntry → ℕ → List ℕ
address_bytes run q = bytes_left (address_written q) run queue_address_field.offset (0 ∷ 0 ∷ 0 ∷ 0 ∷ [])

-- writeback: 1 at first, and then the lowest bit of the latest write
abbrev pub writeback : List MemberEntry → ℕ
writeback run = latest_or 1 (λ e. option_map (λ byte. byte % 2) (byte_written Device writeback_field.offset e)) run

-- the MAC, which only a function level reset gives its initial bytes
abbrev pub mac_bytes : Kind → List MemberEntry → List ℕ
mac_bytes kind h = bytes_left (λ place e past. byte_written Device place e) (after_latest is_flr h) mac_field.offset (initial_mac kind)

-- ---- MSI-X and its vectors: VIRTIO 1.3, 4.1.5.1.2 (MSI-X vector configuration)

abbrev pub msix_set : MemberEntry → Option Bool
msix_set e = if is_done e.reply then elim e.call [ Msix on ↦ Some on | _ ↦ None ] else None

-- as the latest Msix says, else off
abbrev pub is_msix : List MemberEntry → Bool
is_msix h = latest_or false msix_set h

abbrev pub vector_after : ℕ → FieldPlace → Option RegisterWrite → ℕ → ℕ
vector_after queues field None earlier = earlier
vector_after queues field (Some w) earlier = vector_put queues field w.offset w.bytes earlier

-- none at first, and changed by each write that is the vector's own, by what stood before it
abbrev pub vector_left : ℕ → FieldPlace → (List MemberEntry → Bool) → List MemberEntry → ℕ
vector_left queues field is_own [] = no_vector
vector_left queues field is_own (e ∷ past) =
    if is_own past then vector_after queues field (done_write Common e) (vector_left queues field is_own past) else vector_left queues field is_own past

abbrev pub config_vector : Kind → List MemberEntry → ℕ
config_vector kind run = vector_left (queue_count kind) config_vector_field (λ past. true) run

-- a write is that of the queue that was selected
abbrev pub queue_vector : Kind → List MemberEntry → ℕ → ℕ
queue_vector kind run q = vector_left (queue_count kind) queue_vector_field (λ past. q == selected past) run

-- ---- ISR: VIRTIO 1.3, 4.1.4.5 (ISR status capability)

abbrev pub raises_isr : MemberEntry → Bool
raises_isr e = elim e.call [ Step queue ↦ elim e.reply [ Served length irq sent ↦ elim irq [ Isr ↦ true | _ ↦ false ] | _ ↦ false ] | _ ↦ false ]

abbrev pub asks_isr : MemberCall → Bool
asks_isr (Act command) = elim command [ CommonRead offset length ↦ touches isr_field offset length | _ ↦ false ]
asks_isr _ = false

abbrev pub reads_isr : MemberEntry → Bool
reads_isr e = is_done e.reply && asks_isr e.call

-- 1 where a service raised it after the latest done read of it, else 0
abbrev pub isr : List MemberEntry → ℕ
isr run = if list_any raises_isr (after_latest reads_isr run) then 1 else 0

-- ---- the record that the legacy registers keep

unfoldable pub registers_after : Kind → List MemberEntry → Registers
registers_after kind h =
    let run : List MemberEntry = since_reset h in
    record {
      features = features run;
      addresses = map (address_bytes run) (queue_numbers kind);
      select = select_bytes run;
      status = status run;
      isr = isr run;
      config_vector = config_vector kind run;
      queue_vectors = map (queue_vector kind run) (queue_numbers kind);
      writeback = writeback run;
      mac = mac_bytes kind h;
      msix = is_msix h;
    }
