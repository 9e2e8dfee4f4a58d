-- The registers after one entry more: the looks back through a history give what the legacy registers do call by call.
use Rattle.std.proofs.Common.{◌≡◌, ℕ, ◌+◌, Bool, true, false, cond, List, [], ◌∷◌, Option, Some, None, refl, ap, ◌∙◌}
use Rattle.std.specs.Prelude.{◌==◌, ◌%◌, unwrap_or, map, if◌then◌else◌}
use Rattle.std.specs.Option.{option_map}
use Rattle.history.specs.Look.{after_latest}
use Rattle.legacy_regs.specs.declared.device.Kind.{Kind}
use Rattle.legacy_regs.specs.declared.device.Kind.TheVariants.{Block, Net}
use Rattle.legacy_regs.specs.declared.accesses.Space.{Space}
use Rattle.legacy_regs.specs.declared.accesses.Space.TheVariants.{Common, Device}
use Rattle.legacy_regs.specs.Fields.{FieldPlace, driver_features_field, queue_address_field, queue_select_field, device_status_field, config_vector_field, queue_vector_field, writeback_field, mac_field}
use Rattle.legacy_regs.specs.Registers.{Registers, queue_numbers, queue_count, initial_mac}
use Rattle.legacy_regs.specs.Accesses.{byte_put, bytes_put, vector_put, changed_at}
use Rattle.group_calls.specs.MemberEntries.{MemberEntry, RegisterWrite, done_write, byte_at, byte_written, is_flr, is_reset, since_reset}
use Rattle.group_calls.specs.MemberRegisters.{bytes_left, features, select_bytes, selected, status, address_written, address_bytes, writeback, mac_bytes, msix_set, is_msix, vector_after, vector_left, config_vector, queue_vector, raises_isr, reads_isr, isr, registers_after}

-- ---- bytes of a field

-- an entry that writes none of them
bytes_left-other : (written : ℕ → MemberEntry → List MemberEntry → Option ℕ) (e : MemberEntry) (run : List MemberEntry) → ((place : ℕ) → written place e run ≡ None)
    → (place : ℕ) (first : List ℕ) → bytes_left written (e ∷ run) place first ≡ bytes_left written run place first
bytes_left-other written e run none place [] = refl
bytes_left-other written e run none place (byte ∷ rest) = rw (none place, bytes_left-other written e run none (place + 1) rest) refl

-- an entry that writes these
bytes_left-write : (written : ℕ → MemberEntry → List MemberEntry → Option ℕ) (e : MemberEntry) (run : List MemberEntry) (offset : ℕ) (bytes : List ℕ) → ((place : ℕ) → written place e run ≡ byte_put place offset bytes)
    → (place : ℕ) (first : List ℕ) → bytes_left written (e ∷ run) place first ≡ bytes_put place offset bytes (bytes_left written run place first)
bytes_left-write written e run offset bytes these place [] = refl
bytes_left-write written e run offset bytes these place (byte ∷ rest) = rw (these place, bytes_left-write written e run offset bytes these (place + 1) rest) refl

-- ---- the registers by their run

-- the registers that a run gives, with a MAC and MSI-X
abbrev pub registers_of : Kind → List MemberEntry → List ℕ → Bool → Registers
registers_of kind run mac msix = record {
  features = features run;
  addresses = map (address_bytes run) (queue_numbers kind);
  select = select_bytes run;
  status = status run;
  isr = isr run;
  config_vector = config_vector kind run;
  queue_vectors = map (queue_vector kind run) (queue_numbers kind);
  writeback = writeback run;
  mac = mac;
  msix = msix;
}

pub registers_after-is : (kind : Kind) (h : List MemberEntry) → registers_after kind h ≡ registers_of kind (since_reset h) (mac_bytes kind h) (is_msix h)
unfolding registers_after
registers_after-is kind h = refl

pub goes_on : (e : MemberEntry) (past : List MemberEntry) → is_reset e ≡ false → since_reset (e ∷ past) ≡ e ∷ since_reset past
goes_on e past stays = rw stays refl

pub ends : (e : MemberEntry) (past : List MemberEntry) → is_reset e ≡ true → since_reset (e ∷ past) ≡ []
ends e past resets = rw resets refl

-- ---- what an entry writes

none_of : (space : Space) (e : MemberEntry) → done_write space e ≡ None → (place : ℕ) → byte_written space place e ≡ None
none_of space e none place = ap (byte_at place) none

these_of : (space : Space) (e : MemberEntry) (w : RegisterWrite) → done_write space e ≡ Some w → (place : ℕ) → byte_written space place e ≡ byte_put place w.offset w.bytes
these_of space e w some place = ap (byte_at place) some

none_selected : (q : ℕ) (e : MemberEntry) (run : List MemberEntry) → done_write Common e ≡ None → (place : ℕ) → address_written q place e run ≡ None
none_selected q e run none place = go (q == selected run) (none_of Common e none place)
  where
    go : (b : Bool) → byte_written Common place e ≡ None → cond b (byte_written Common place e) None ≡ None
    go true is = is
    go false is = refl

these_selected : (q : ℕ) (e : MemberEntry) (run : List MemberEntry) (w : RegisterWrite) → done_write Common e ≡ Some w
    → address_bytes (e ∷ run) q ≡ (if q == selected run then bytes_put queue_address_field.offset w.offset w.bytes (address_bytes run q) else address_bytes run q)
these_selected q e run w some = go (q == selected run) refl
  where
    go : (b : Bool) → (q == selected run) ≡ b → address_bytes (e ∷ run) q ≡ cond b (bytes_put queue_address_field.offset w.offset w.bytes (address_bytes run q)) (address_bytes run q)
    go true is = bytes_left-write (address_written q) e run w.offset w.bytes (λ place. ap (λ b. cond b (byte_written Common place e) None) is ∙ these_of Common e w some place) queue_address_field.offset (0 ∷ 0 ∷ 0 ∷ 0 ∷ [])
    go false is = bytes_left-other (address_written q) e run (λ place. ap (λ b. cond b (byte_written Common place e) None) is) queue_address_field.offset (0 ∷ 0 ∷ 0 ∷ 0 ∷ [])

vector_selected : (kind : Kind) (q : ℕ) (e : MemberEntry) (run : List MemberEntry) (w : RegisterWrite) → done_write Common e ≡ Some w
    → queue_vector kind (e ∷ run) q ≡ (if q == selected run then vector_put (queue_count kind) queue_vector_field w.offset w.bytes (queue_vector kind run q) else queue_vector kind run q)
vector_selected kind q e run w some = ap (λ w. if q == selected run then vector_after (queue_count kind) queue_vector_field w (queue_vector kind run q) else queue_vector kind run q) some

vector_other : (kind : Kind) (field : FieldPlace) (own : List MemberEntry → Bool) (e : MemberEntry) (run : List MemberEntry) → done_write Common e ≡ None
    → vector_left (queue_count kind) field own (e ∷ run) ≡ vector_left (queue_count kind) field own run
vector_other kind field own e run none = ap (λ w. if own run then vector_after (queue_count kind) field w (vector_left (queue_count kind) field own run) else vector_left (queue_count kind) field own run) none ∙ go (own run)
  where
    go : (b : Bool) → cond b (vector_left (queue_count kind) field own run) (vector_left (queue_count kind) field own run) ≡ vector_left (queue_count kind) field own run
    go true = refl
    go false = refl

-- ---- each register, where the common structure isn't written

module _ (kind : Kind) (e : MemberEntry) (run : List MemberEntry) (none : done_write Common e ≡ None) where
  pub features-other : features (e ∷ run) ≡ features run
  features-other = bytes_left-other (λ place e past. byte_written Common place e) e run (none_of Common e none) driver_features_field.offset (0 ∷ 0 ∷ 0 ∷ 0 ∷ [])

  pub select-other : select_bytes (e ∷ run) ≡ select_bytes run
  select-other = bytes_left-other (λ place e past. byte_written Common place e) e run (none_of Common e none) queue_select_field.offset (0 ∷ 0 ∷ [])

  pub status-other : status (e ∷ run) ≡ status run
  status-other = ap (λ o. unwrap_or o (status run)) (none_of Common e none device_status_field.offset)

  address-other : (q : ℕ) → address_bytes (e ∷ run) q ≡ address_bytes run q
  address-other q = bytes_left-other (address_written q) e run (none_selected q e run none) queue_address_field.offset (0 ∷ 0 ∷ 0 ∷ 0 ∷ [])

  pub addresses-other : map (address_bytes (e ∷ run)) (queue_numbers kind) ≡ map (address_bytes run) (queue_numbers kind)
  addresses-other = ap (λ f. map f (queue_numbers kind)) (λ i q. address-other q i)

  pub config-other : config_vector kind (e ∷ run) ≡ config_vector kind run
  config-other = vector_other kind config_vector_field (λ past. true) e run none

  pub vectors-other : map (queue_vector kind (e ∷ run)) (queue_numbers kind) ≡ map (queue_vector kind run) (queue_numbers kind)
  vectors-other = ap (λ f. map f (queue_numbers kind)) (λ i q. vector_other kind queue_vector_field (λ past. q == selected past) e run none i)

-- ---- each register, where the common structure is written

module _ (kind : Kind) (e : MemberEntry) (run : List MemberEntry) (w : RegisterWrite) (some : done_write Common e ≡ Some w) where
  pub features-write : features (e ∷ run) ≡ bytes_put driver_features_field.offset w.offset w.bytes (features run)
  features-write = bytes_left-write (λ place e past. byte_written Common place e) e run w.offset w.bytes (these_of Common e w some) driver_features_field.offset (0 ∷ 0 ∷ 0 ∷ 0 ∷ [])

  pub select-write : select_bytes (e ∷ run) ≡ bytes_put queue_select_field.offset w.offset w.bytes (select_bytes run)
  select-write = bytes_left-write (λ place e past. byte_written Common place e) e run w.offset w.bytes (these_of Common e w some) queue_select_field.offset (0 ∷ 0 ∷ [])

  pub status-write : status (e ∷ run) ≡ unwrap_or (byte_put device_status_field.offset w.offset w.bytes) (status run)
  status-write = ap (λ o. unwrap_or o (status run)) (these_of Common e w some device_status_field.offset)

  pub config-write : config_vector kind (e ∷ run) ≡ vector_put (queue_count kind) config_vector_field w.offset w.bytes (config_vector kind run)
  config-write = ap (λ o. vector_after (queue_count kind) config_vector_field o (config_vector kind run)) some

pub addresses-write : (kind : Kind) (e : MemberEntry) (run : List MemberEntry) (w : RegisterWrite) → done_write Common e ≡ Some w
    → map (address_bytes (e ∷ run)) (queue_numbers kind) ≡ changed_at (bytes_put queue_address_field.offset w.offset w.bytes) (selected run) (map (address_bytes run) (queue_numbers kind))
addresses-write (Block sectors read_only) e run w some = ap (λ a. a ∷ []) (these_selected 0 e run w some)
addresses-write (Net mac) e run w some = λ i. these_selected 0 e run w some i ∷ these_selected 1 e run w some i ∷ []

pub vectors-write : (kind : Kind) (e : MemberEntry) (run : List MemberEntry) (w : RegisterWrite) → done_write Common e ≡ Some w
    → map (queue_vector kind (e ∷ run)) (queue_numbers kind) ≡ changed_at (vector_put (queue_count kind) queue_vector_field w.offset w.bytes) (selected run) (map (queue_vector kind run) (queue_numbers kind))
vectors-write (Block sectors read_only) e run w some = ap (λ a. a ∷ []) (vector_selected (Block sectors read_only) 0 e run w some)
vectors-write (Net mac) e run w some = λ i. vector_selected (Net mac) 0 e run w some i ∷ vector_selected (Net mac) 1 e run w some i ∷ []

-- ---- ISR, writeback, the MAC and MSI-X

pub isr-other : (e : MemberEntry) (run : List MemberEntry) → reads_isr e ≡ false → raises_isr e ≡ false → isr (e ∷ run) ≡ isr run
isr-other e run reads raises = rw reads (rw raises refl)

pub isr-read : (e : MemberEntry) (run : List MemberEntry) → reads_isr e ≡ true → isr (e ∷ run) ≡ 0
isr-read e run reads = rw reads refl

pub isr-raised : (e : MemberEntry) (run : List MemberEntry) → reads_isr e ≡ false → raises_isr e ≡ true → isr (e ∷ run) ≡ 1
isr-raised e run reads raises = rw reads (rw raises refl)

pub writeback-other : (e : MemberEntry) (run : List MemberEntry) → done_write Device e ≡ None → writeback (e ∷ run) ≡ writeback run
writeback-other e run none = ap (λ o. unwrap_or (option_map (λ byte. byte % 2) o) (writeback run)) (none_of Device e none writeback_field.offset)

pub writeback-write : (e : MemberEntry) (run : List MemberEntry) (w : RegisterWrite) → done_write Device e ≡ Some w
    → writeback (e ∷ run) ≡ unwrap_or (option_map (λ byte. byte % 2) (byte_put writeback_field.offset w.offset w.bytes)) (writeback run)
writeback-write e run w some = ap (λ o. unwrap_or (option_map (λ byte. byte % 2) o) (writeback run)) (these_of Device e w some writeback_field.offset)

pub mac-other : (kind : Kind) (e : MemberEntry) (past : List MemberEntry) → is_flr e ≡ false → done_write Device e ≡ None → mac_bytes kind (e ∷ past) ≡ mac_bytes kind past
mac-other kind e past stays none = rw stays (bytes_left-other (λ place e past. byte_written Device place e) e (after_latest is_flr past) (none_of Device e none) mac_field.offset (initial_mac kind))

pub mac-write : (kind : Kind) (e : MemberEntry) (past : List MemberEntry) (w : RegisterWrite) → is_flr e ≡ false → done_write Device e ≡ Some w → mac_bytes kind (e ∷ past) ≡ bytes_put mac_field.offset w.offset w.bytes (mac_bytes kind past)
mac-write kind e past w stays some = rw stays (bytes_left-write (λ place e past. byte_written Device place e) e (after_latest is_flr past) w.offset w.bytes (these_of Device e w some) mac_field.offset (initial_mac kind))

-- no entries leave the initial bytes
bytes_left-none : (written : ℕ → MemberEntry → List MemberEntry → Option ℕ) (place : ℕ) (first : List ℕ) → bytes_left written [] place first ≡ first
bytes_left-none written place [] = refl
bytes_left-none written place (byte ∷ rest) = ap (λ bytes. byte ∷ bytes) (bytes_left-none written (place + 1) rest)

pub mac-flr : (kind : Kind) (e : MemberEntry) (past : List MemberEntry) → is_flr e ≡ true → mac_bytes kind (e ∷ past) ≡ initial_mac kind
mac-flr kind e past flr = rw flr (bytes_left-none (λ place e past. byte_written Device place e) mac_field.offset (initial_mac kind))

pub msix-other : (e : MemberEntry) (past : List MemberEntry) → msix_set e ≡ None → is_msix (e ∷ past) ≡ is_msix past
msix-other e past none = ap (λ o. unwrap_or o (is_msix past)) none

pub msix-set : (e : MemberEntry) (past : List MemberEntry) (on : Bool) → msix_set e ≡ Some on → is_msix (e ∷ past) ≡ on
msix-set e past on some = ap (λ o. unwrap_or o (is_msix past)) some
