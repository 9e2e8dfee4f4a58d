-- A write inside a field that a guest only reads changes nothing.
use Rattle.std.proofs.Common.{◌≡◌, ℕ, suc, ◌+◌, ◌<◌, ◌≤◌, ◌⊎◌, ◌==◌, ◌&&◌, Bool, true, false, if◌then◌else◌, IsTrue, List, [], ◌∷◌, length, map, get_or, None, ltb, refl, ap, arith, inl, inr}
use Rattle.std.specs.List.{enumerate_from}
use Rattle.std.proofs.lemmas.Bool.Decides.{nat_tests}
use Rattle.legacy_regs.specs.declared.device.Kind.{Kind}
use Rattle.legacy_regs.specs.declared.device.Kind.TheVariants.{Block, Net}
use Rattle.legacy_regs.specs.declared.accesses.Space.{Space}
use Rattle.legacy_regs.specs.declared.accesses.Space.TheVariants.{Common, Device}
use Rattle.legacy_regs.specs.Fields.{FieldPlace, touches, config_vector_field, queue_vector_field}
use Rattle.legacy_regs.specs.Registers.{Registers, queue_count, selected}
use Rattle.legacy_regs.specs.Accesses.{byte_put, bytes_put, vector_put, changed_at, is_reset_write, write_common, write_device, write_structure}
use Rattle.legacy_regs.specs.Laws.{IsWhole, is_inside_read_only}
use Rattle.legacy_regs.proofs.Puts.{none_before, none_after, put_apart}

-- the bytes from `offset` up to `end` stand apart from those from `place` up to `last`
abbrev Apart : ℕ → ℕ → ℕ → ℕ → Type 0
Apart offset end place last = (end ≤ place) ⊎ (last ≤ offset)

untouched : (field : FieldPlace) (offset count : ℕ) → Apart offset (offset + count) field.offset (field.offset + field.size) → touches field offset count ≡ false
untouched field offset count (inl after) =
    let test : ltb field.offset (offset + count) ≡ false = grind (arith, nat_tests) in
    rw test (elim (ltb offset (field.offset + field.size)) as (λ b. (b && false) ≡ false) [ true ↦ refl | false ↦ refl ])
untouched field offset count (inr before) =
    let test : ltb offset (field.offset + field.size) ≡ false = grind (arith, nat_tests) in
    rw test refl

changed_from_same : {Item : Type 0} (first : ℕ) (change : Item → Item) (queue : ℕ) (items : List Item) → ((k : ℕ) (d : Item) → k < length items → change (get_or items k d) ≡ get_or items k d)
    → map (λ item. if item.0 == queue then change item.1 else item.1) (enumerate_from first items) ≡ items
changed_from_same first change queue [] same = refl
changed_from_same first change queue (x ∷ items) same =
    let head : change x ≡ x = same 0 x (omega arith) in
    let tail = changed_from_same (first + 1) change queue items (λ k d inside. same (suc k) d (omega arith)) in
    rw tail (elim (first == queue) as (λ here. (if here then change x else x) ∷ items ≡ x ∷ items) [ true ↦ ap (λ y. y ∷ items) head | false ↦ refl ])

no_byte : (place offset : ℕ) (bytes : List ℕ) → Apart offset (offset + length bytes) place (place + 1) → byte_put place offset bytes ≡ None
no_byte place offset bytes (inl after) = none_after place offset bytes after
no_byte place offset bytes (inr before) = none_before place offset bytes (omega arith)

-- a write that stands apart from each field that a guest writes changes nothing
common_stays : (kind : Kind) (r : Registers) (offset : ℕ) (bytes : List ℕ) → IsWhole kind r
    → Apart offset (offset + length bytes) 4 8 → Apart offset (offset + length bytes) 8 12 → Apart offset (offset + length bytes) 14 16
    → Apart offset (offset + length bytes) 18 19 → Apart offset (offset + length bytes) 20 22 → Apart offset (offset + length bytes) 22 24
    → write_common kind offset bytes r ≡ r
common_stays kind r offset bytes whole features address select status config vector =
    let no_status : byte_put 18 offset bytes ≡ None = no_byte 18 offset bytes status in
    let same_features : bytes_put 4 offset bytes r.features ≡ r.features = put_apart 4 offset bytes r.features (elim features as (λ a. (offset + length bytes ≤ 4) ⊎ (4 + length r.features ≤ offset)) [ inl after ↦ inl after | inr before ↦ inr (omega (arith, whole.features)) ]) in
    let same_select : bytes_put 14 offset bytes r.select ≡ r.select = put_apart 14 offset bytes r.select (elim select as (λ a. (offset + length bytes ≤ 14) ⊎ (14 + length r.select ≤ offset)) [ inl after ↦ inl after | inr before ↦ inr (omega (arith, whole.select)) ]) in
    let same_addresses : changed_at (bytes_put 8 offset bytes) (selected r) r.addresses ≡ r.addresses =
    changed_from_same 0 (bytes_put 8 offset bytes) (selected r) r.addresses
    (λ k d inside. put_apart 8 offset bytes (get_or r.addresses k d) (elim address as (λ a. (offset + length bytes ≤ 8) ⊎ (8 + length (get_or r.addresses k d) ≤ offset)) [ inl after ↦ inl after | inr before ↦ inr (omega (arith, whole.addresses k d inside)) ])) in
    let no_config : touches config_vector_field offset (length bytes) ≡ false = untouched config_vector_field offset (length bytes) config in
    let no_vector : touches queue_vector_field offset (length bytes) ≡ false = untouched queue_vector_field offset (length bytes) vector in
    let same_vectors : changed_at (vector_put (queue_count kind) queue_vector_field offset bytes) (selected r) r.queue_vectors ≡ r.queue_vectors =
    changed_from_same 0 (vector_put (queue_count kind) queue_vector_field offset bytes) (selected r) r.queue_vectors
    (λ k d inside. rw no_vector refl) in
    let not_reset : is_reset_write offset bytes ≡ false = rw (is_reset_write, no_status) refl in
    rw (not_reset, same_features, same_select, same_addresses, same_vectors, no_status, no_config) refl

device_stays : (kind : Kind) (r : Registers) (offset : ℕ) (bytes : List ℕ) → Apart offset (offset + length bytes) 32 33 → Apart offset (offset + length bytes) 0 (0 + length r.mac) → write_device offset bytes r ≡ r
device_stays kind r offset bytes writeback mac =
    let no_writeback : byte_put 32 offset bytes ≡ None = no_byte 32 offset bytes writeback in
    let same_mac : bytes_put 0 offset bytes r.mac ≡ r.mac = put_apart 0 offset bytes r.mac mac in
    rw (no_writeback, same_mac) refl

-- the fields of the common structure that a guest only reads
common_places : (kind : Kind) (msix : Bool) (offset count : ℕ) → is_inside_read_only kind msix Common offset count ≡ true → (offset + count ≤ 4) ⊎ ((12 ≤ offset) × (offset + count ≤ 14)) ⊎ ((19 ≤ offset) × (offset + count ≤ 20))
common_places kind true offset count inside = grind (arith, nat_tests)
common_places kind false offset count inside = grind (arith, nat_tests)

block_places : (sectors : ℕ) (read_only msix : Bool) (offset count : ℕ) → is_inside_read_only (Block sectors read_only) msix Device offset count ≡ true → offset + count ≤ 32
block_places sectors read_only msix offset count inside = grind (arith, nat_tests)

net_places : (mac : List ℕ) (msix : Bool) (offset count : ℕ) → is_inside_read_only (Net mac) msix Device offset count ≡ true → (6 ≤ offset) × (offset + count ≤ 8)
net_places mac msix offset count inside = grind (arith, nat_tests)

pub keeps_read_only : (kind : Kind) (r : Registers) (space : Space) (offset : ℕ) (bytes : List ℕ) → IsWhole kind r → IsTrue (is_inside_read_only kind r.msix space offset (length bytes)) → write_structure kind space offset bytes r ≡ r
keeps_read_only kind r Common offset bytes whole inside =
    elim (common_places kind r.msix offset (length bytes) inside) [
      | inl features ↦ common_stays kind r offset bytes whole (inl features) (inl (omega arith)) (inl (omega arith)) (inl (omega arith)) (inl (omega arith)) (inl (omega arith))
      | inr others ↦ elim others [
        | inl size ↦ common_stays kind r offset bytes whole (inr (omega arith)) (inr (omega arith)) (inl (omega arith)) (inl (omega arith)) (inl (omega arith)) (inl (omega arith))
        | inr isr ↦ common_stays kind r offset bytes whole (inr (omega arith)) (inr (omega arith)) (inr (omega arith)) (inr (omega arith)) (inl (omega arith)) (inl (omega arith))
      ]
    ]
keeps_read_only (Block sectors read_only) r Device offset bytes whole inside =
    let places : offset + length bytes ≤ 32 = block_places sectors read_only r.msix offset (length bytes) inside in
    device_stays (Block sectors read_only) r offset bytes (inl places) (inr (omega (arith, whole.mac)))
keeps_read_only (Net mac) r Device offset bytes whole inside =
    let places : (6 ≤ offset) × (offset + length bytes ≤ 8) = net_places mac r.msix offset (length bytes) inside in
    device_stays (Net mac) r offset bytes (inl (omega arith)) (inr (omega (arith, whole.mac)))
