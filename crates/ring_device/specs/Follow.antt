-- What is met along a chain. The code's own, over VIRTIO 1.3, 2.7.4 and 2.7.5.
use Rattle.std.specs.Prelude.{ℕ, zero, suc, ◌+◌, ◌≤◌, ◌<◌, nat_lt, Bool, not, ◌&&◌, ◌||◌, List, [], ◌∷◌, ◌++◌, Option, None, Some, option_map, length, if◌then◌else◌}
use Rattle.std.specs.List.{list_any}
use Rattle.byte_fields.specs.Sizes.{memory_limit}
use Rattle.ring_layout.specs.declared.descriptor.Descriptor.{Descriptor}
use Rattle.ring_layout.specs.declared.table.Table.{Table}
use Rattle.ring_layout.specs.Chain.{descriptor, has_next, is_inside, is_indirect, is_written, named_table}
use Rattle.ring_device.specs.Buffers.{Buffers}
use Rattle.ring_device.specs.declared.walk.Met.{Met}
use Rattle.ring_device.specs.declared.walk.Met.TheVariants.{Buffer, Named, Nothing}
use Rattle.ring_device.specs.declared.walk.End.{End}
use Rattle.ring_device.specs.declared.walk.End.TheVariants.{Last, Names, Broken}

-- ---- one descriptor

-- it lies in the memory without INDIRECT, and has WRITE where one before it has
abbrev pub may_follow : ℕ → Bool → Descriptor → Bool
may_follow memory after_written d = is_inside memory d && not (is_indirect d) && (not after_written || is_written d)

-- a buffer that may follow stands at an index of a table
abbrev pub stands : List ℕ → Table → Bool → ℕ → Bool
stands mem t after_written i = nat_lt i t.count && may_follow (length mem) after_written (descriptor mem t.addr i)

-- a descriptor with INDIRECT stands there
abbrev pub names_there : List ℕ → Table → ℕ → Bool
names_there mem t i = nat_lt i t.count && is_indirect (descriptor mem t.addr i)

-- what is met at an index
abbrev pub met_at : List ℕ → Table → Bool → ℕ → Met
met_at mem t after_written i =
    if stands mem t after_written i then Buffer (descriptor mem t.addr i)
    else if names_there mem t i then Named (descriptor mem t.addr i)
    else Nothing

-- a buffer that was met is no longer than a memory
abbrev pub IsSmall : Met → Type 0
IsSmall (Buffer d) = d.len ≤ memory_limit
IsSmall _ = Unit {0}

-- the buffer at an index, if there is one that may follow
abbrev pub buffer_after : List ℕ → Table → Bool → ℕ → Option Descriptor
buffer_after mem t after_written i = if stands mem t after_written i then Some (descriptor mem t.addr i) else None

-- ---- the descriptors of one table

-- the buffers from an index on, where at most so many are left and none breaks a rule; one with INDIRECT gives others
abbrev pub walked : (Bool → Descriptor → Option (List Descriptor)) → List ℕ → Table → ℕ → Bool → ℕ → Option (List Descriptor)
walked own mem t zero after_written i = None
walked own mem t (suc n) after_written i =
    if stands mem t after_written i
    then (if has_next (descriptor mem t.addr i)
    then option_map (λ ds. descriptor mem t.addr i ∷ ds) (walked own mem t n (after_written || is_written (descriptor mem t.addr i)) (descriptor mem t.addr i).next)
    else Some (descriptor mem t.addr i ∷ []))
    else if names_there mem t i then own after_written (descriptor mem t.addr i)
    else None

-- what stands behind buffers that were met
abbrev pub onto : List Descriptor → Option (List Descriptor) → Option (List Descriptor)
onto before rest = option_map (λ ds. before ++ ds) rest

-- one of these has WRITE
abbrev pub any_written : List Descriptor → Bool
any_written ds = list_any is_written ds

-- the buffers of a chain, as far as they were met, and how the walk along a table ended
abbrev pub reached : (Bool → Descriptor → Option (List Descriptor)) → End → List Descriptor → Option (List Descriptor)
reached own Last parts = Some parts
reached own (Names d) parts = onto parts (own (any_written parts) d)
reached own Broken parts = None

-- so many buffers at most are there after a walk along a table of a size, one less where it ended with a table
abbrev pub AreFew : ℕ → ℕ → ℕ → End → Type 0
AreFew before size after (Names d) = after < before + size
AreFew before size after _ = after ≤ before + size

-- ---- a table that is named

-- the buffers of a table, which stand behind one with WRITE or without
abbrev pub table_walked : List ℕ → Bool → Option Table → Option (List Descriptor)
table_walked mem after_written None = None
table_walked mem after_written (Some t) = walked (λ w d. None) mem t t.count after_written 0

-- the table that a last descriptor names, where tables may be used
abbrev pub table_behind : Bool → ℕ → Descriptor → Option Table
table_behind indirect memory d = if indirect && not (has_next d) then named_table memory d else None

-- its buffers
abbrev pub named_walked : Bool → List ℕ → Bool → Descriptor → Option (List Descriptor)
named_walked indirect mem after_written d = table_walked mem after_written (table_behind indirect (length mem) d)

-- buffers under a head
abbrev pub under_head : ℕ → Option (List Descriptor) → Option Buffers
under_head head parts = option_map (λ ds. record { head = head; parts = ds }) parts
