-- Register accesses that aren't refused.
use Rattle.std.proofs.Common.{◌≡◌, ℕ, ◌+◌, ◌-◌, ◌≤◌, Bool, true, false, leb, List, [], length, Ok, Err, None, refl, ap, ◌∙◌, arith}
use Rattle.std.specs.Prelude.{nat_lt, not, ◌&&◌, ◌||◌, if◌then◌else◌}
use Rattle.std.proofs.lemmas.Bool.Decides.{nat_tests}
use Rattle.std.proofs.lemmas.Option.{slice_get_past}
use Rattle.byte_fields.specs.Places.{le16}
use Rattle.legacy_regs.specs.declared.device.Kind.{Kind}
use Rattle.legacy_regs.specs.declared.accesses.Space.{Space}
use Rattle.legacy_regs.specs.declared.accesses.Space.TheVariants.{Common, Device}
use Rattle.legacy_regs.specs.declared.accesses.Field.{Field}
use Rattle.legacy_regs.specs.declared.accesses.Effect.{Effect}
use Rattle.legacy_regs.specs.declared.accesses.Effect.TheVariants.{Nothing, Notify, Reset, Address}
use Rattle.legacy_regs.specs.Fields.{common_fields, is_in_one_field, touches, queue_notify_field, queue_address_field}
use Rattle.legacy_regs.specs.Registers.{Registers, Bank, queue_count, selected}
use Rattle.legacy_regs.specs.Accesses.{is_refused_write, notifies_in_part, write_answer, read_structure, after_write, write_structure, is_reset_write, byte_put}
use Rattle.group_calls.specs.declared.member.MemberReply.{MemberReply}
use Rattle.group_calls.specs.declared.member.MemberReply.TheVariants.{Data, Written}
use Rattle.group_calls.specs.declared.member.MemberCall.TheVariants.{Act}
use Rattle.group_calls.specs.RegisterSteps.{registers_then}
use Rattle.member_device.specs.Access.{read_command, write_command, waiting_after}
use Rattle.member_device.specs.Device.{Holdings, waiting_after_act}

not_refused : {T : Type 0} (refused : Bool) (e : Field) (x y : T) → Ok x ≡ (if refused then Err e else Ok y) → (refused ≡ false) × (x ≡ y)
not_refused true e x y told = cc
not_refused false e x y told = (refl, cc)

-- the same registers and the same frames
pub with_registers : (d : Holdings) (r r' : Registers) (w w' : List (List ℕ)) → r ≡ r' → w ≡ w' → record d { registers = r; waiting = w } ≡ record d { registers = r'; waiting = w' }
with_registers d r r' w w' e f = ap (λ (x : Registers). record d { registers = x; waiting = w }) e ∙ ap (λ (x : List (List ℕ)). record d { registers = r'; waiting = x }) f

-- ---- reads

pub registers_read : (bank new : Bank) (kind : Kind) (space : Space) (offset count : ℕ) (told : MemberReply) (read : List ℕ) → told ≡ Data read
    → new ≡ record bank { registers = read_structure space offset count bank.registers } → new.registers ≡ registers_then kind (Act (read_command space offset count)) told bank.registers
registers_read bank new kind Common offset count told read told_is new_is = ap (λ (b : Bank). b.registers) new_is ∙ rw told_is refl
registers_read bank new kind Device offset count told read told_is new_is = ap (λ (b : Bank). b.registers) new_is ∙ rw told_is refl

pub waiting_read : (space : Space) (offset count : ℕ) (told : MemberReply) (read : List ℕ) (waiting : List (List ℕ)) → told ≡ Data read → waiting ≡ waiting_after_act (read_command space offset count) told waiting
waiting_read Common offset count told read waiting told_is = rw told_is refl
waiting_read Device offset count told read waiting told_is = rw told_is refl

-- ---- writes

pub registers_written : (bank new : Bank) (kind : Kind) (space : Space) (offset : ℕ) (bytes : List ℕ) (effect : Effect) → bank.kind ≡ kind → Ok effect ≡ write_answer bank space offset bytes
    → new ≡ record bank { registers = after_write bank space offset bytes } → new.registers ≡ registers_then kind (Act (write_command space offset bytes)) Written bank.registers
registers_written bank new kind Common offset bytes effect same answer new_is =
    let refused : is_refused_write bank.kind bank.registers.msix Common offset bytes ≡ false = (not_refused (is_refused_write bank.kind bank.registers.msix Common offset bytes) _ effect _ answer).0 in
    ap (λ (b : Bank). b.registers) new_is ∙ rw refused (ap (λ (k : Kind). write_structure k Common offset bytes bank.registers) same)
registers_written bank new kind Device offset bytes effect same answer new_is =
    let refused : is_refused_write bank.kind bank.registers.msix Device offset bytes ≡ false = (not_refused (is_refused_write bank.kind bank.registers.msix Device offset bytes) _ effect _ answer).0 in
    ap (λ (b : Bank). b.registers) new_is ∙ rw refused (ap (λ (k : Kind). write_structure k Device offset bytes bank.registers) same)

-- a write puts no byte after its last one
none_after : (place offset : ℕ) (bytes : List ℕ) → offset + length bytes ≤ place → byte_put place offset bytes ≡ None
none_after place offset bytes after =
    let test : leb offset place ≡ true = grind (arith, nat_tests) in
    rw test (slice_get_past bytes (place - offset) (omega arith))

-- an access inside one field that touches queue notify ends before device status
ends_before : (msix : Bool) (offset count : ℕ) → is_in_one_field (common_fields msix) offset count ≡ true → touches queue_notify_field offset count ≡ true → offset + count ≤ 18
ends_before true offset count inside touched = grind (arith, nat_tests)
ends_before false offset count inside touched = grind (arith, nat_tests)

-- so no reset is a notification
reset_apart : (msix : Bool) (offset : ℕ) (bytes : List ℕ) → is_in_one_field (common_fields msix) offset (length bytes) ≡ true → is_reset_write offset bytes ≡ true → touches queue_notify_field offset (length bytes) ≡ false
reset_apart msix offset bytes inside reset = go (touches queue_notify_field offset (length bytes)) refl
  where
    go : (t : Bool) → touches queue_notify_field offset (length bytes) ≡ t → touches queue_notify_field offset (length bytes) ≡ false
    go false test = test
    go true test =
        let none : byte_put 18 offset bytes ≡ None = none_after 18 offset bytes (ends_before msix offset (length bytes) inside test) in
        let not_reset : is_reset_write offset bytes ≡ false = rw (is_reset_write, none) refl in
        cc

inside_of : (kind : Kind) (msix : Bool) (offset : ℕ) (bytes : List ℕ) → is_refused_write kind msix Common offset bytes ≡ false → is_in_one_field (common_fields msix) offset (length bytes) ≡ true
inside_of kind msix offset bytes refused = go (is_in_one_field (common_fields msix) offset (length bytes)) (notifies_in_part Common offset (length bytes)) refused
  where
    go : (a b : Bool) → (not a || b) ≡ false → a ≡ true
    go true b h = refl
    go false b h = cc

-- one effect of three
first_of : (notify reset address : Bool) (queue selected : ℕ) (waiting : List (List ℕ)) → (reset ≡ true → notify ≡ false)
    → waiting_after (if notify then Notify queue else if reset then Reset else if address then Address selected else Nothing) waiting ≡ (if reset then [] else waiting)
first_of true true address queue selected waiting apart = let h : true ≡ false = apart refl in cc
first_of true false address queue selected waiting apart = refl
first_of false true address queue selected waiting apart = refl
first_of false false true queue selected waiting apart = refl
first_of false false false queue selected waiting apart = refl

both_false : (a b : Bool) → a ≡ false → (a && b) ≡ false
both_false a b h = rw h refl

pub waiting_written : (bank : Bank) (space : Space) (offset : ℕ) (bytes : List ℕ) (effect : Effect) (waiting : List (List ℕ)) → Ok effect ≡ write_answer bank space offset bytes → waiting_after effect waiting ≡ waiting_after_act (write_command space offset bytes) Written waiting
waiting_written bank Device offset bytes effect waiting answer =
    let told = not_refused (is_refused_write bank.kind bank.registers.msix Device offset bytes) _ effect _ answer in
    rw told.1 refl
waiting_written bank Common offset bytes effect waiting answer =
    let told = not_refused (is_refused_write bank.kind bank.registers.msix Common offset bytes) _ effect _ answer in
    let inside : is_in_one_field (common_fields bank.registers.msix) offset (length bytes) ≡ true = inside_of bank.kind bank.registers.msix offset bytes told.0 in
    ap (λ (x : Effect). waiting_after x waiting) told.1
    ∙ first_of (touches queue_notify_field offset (length bytes) && nat_lt (le16 0 bytes) (queue_count bank.kind)) (is_reset_write offset bytes)
    (touches queue_address_field offset (length bytes) && nat_lt (selected bank.registers) (queue_count bank.kind)) (le16 0 bytes) (selected bank.registers) waiting
    (λ reset. both_false _ _ (reset_apart bank.registers.msix offset bytes inside reset))
