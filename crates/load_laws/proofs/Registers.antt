-- A read of a common register goes to the member as a command, and is answered with bytes.
use Rattle.std.proofs.Common.{◌≡◌, ℕ, ◌+◌, ◌-◌, ◌<◌, ◌≤◌, Bool, true, false, cond, List, [], ◌∷◌, ◌++◌, refl, sym, ap, ◌∙◌, arith, true≢false}
use Rattle.std.specs.Prelude.{nat_lt, nat_le, not, ◌&&◌, ◌||◌}
use Rattle.std.specs.List.{list_any}
use Rattle.std.proofs.lemmas.Bool.Decides.{nat_tests}
use Rattle.admin_wire.specs.declared.command.LegacyCmd.TheVariants.{CommonRead, DevRead}
use Rattle.legacy_regs.specs.declared.device.Kind.{Kind}
use Rattle.legacy_regs.specs.declared.device.Kind.TheVariants.{Block, Net}
use Rattle.legacy_regs.specs.declared.accesses.Space.TheVariants.{Common}
use Rattle.legacy_regs.specs.Fields.{FieldPlace, common_fields, config_vector_field, queue_vector_field, common_size, is_inside, is_in_one_field}
use Rattle.legacy_regs.specs.Registers.{Registers}
use Rattle.legacy_regs.specs.Accesses.{read_bytes}
use Rattle.group_calls.specs.declared.member.MemberReply.TheVariants.{Data, Refused}
use Rattle.group_calls.specs.declared.member.Why.TheVariants.{Field}
use Rattle.group_calls.specs.Member.{act_answer}
use Rattle.io_bar.specs.declared.access.Access.TheVariants.{Read}
use Rattle.io_bar.specs.declared.access.Route.TheVariants.{Command, Local}
use Rattle.io_bar.specs.Route.{is_local, device_base, read_command, route_of}

both : (a b : Bool) → (a && b) ≡ true → (a ≡ true) × (b ≡ true)
both true true is = (refl, refl)
both true false is = absurd (true≢false (sym is))
both false b is = absurd (true≢false (sym is))

-- ---- where the fields end

abbrev EndBelow : ℕ → List FieldPlace → Type 0
EndBelow limit [] = Unit {0}
EndBelow limit (f ∷ fields) = (f.offset + f.size ≤ limit) × EndBelow limit fields

ends_below : (limit offset count : ℕ) (fields : List FieldPlace) → EndBelow limit fields → list_any (is_inside offset count) fields ≡ true → offset + count ≤ limit
ends_below limit offset count [] below is = absurd (true≢false (sym is))
ends_below limit offset count (f ∷ fields) below is = go (is_inside offset count f) refl is (ends_below limit offset count fields below.1)
  where
    go : (b : Bool) → is_inside offset count f ≡ b → (b || list_any (is_inside offset count) fields) ≡ true → (list_any (is_inside offset count) fields ≡ true → offset + count ≤ limit) → offset + count ≤ limit
    go true inside is deeper =
        let high = (both (nat_le f.offset offset) (nat_le (offset + count) (f.offset + f.size)) inside).1 in
        let within : offset + count ≤ f.offset + f.size = grind (arith, nat_tests, high) in
        let end = below.0 in
        omega (arith, within, end)
    go false inside is deeper = deeper is

any_more : {X : Type 0} (passes : X → Bool) (xs ys : List X) → list_any passes xs ≡ true → list_any passes (xs ++ ys) ≡ true
any_more passes [] ys is = absurd (true≢false (sym is))
any_more passes (x ∷ xs) ys is = go (passes x) is (any_more passes xs ys)
  where
    go : (b : Bool) → (b || list_any passes xs) ≡ true → (list_any passes xs ≡ true → list_any passes (xs ++ ys) ≡ true) → (b || list_any passes (xs ++ ys)) ≡ true
    go true is deeper = refl
    go false is deeper = deeper is

-- ---- the read of a register

module _ (offset count : ℕ) (register : is_in_one_field (common_fields false) offset count ≡ true) where
  parts : (nat_lt 0 count ≡ true) × (list_any (is_inside offset count) (common_fields false) ≡ true)
  parts = both (nat_lt 0 count) (list_any (is_inside offset count) (common_fields false)) register

  a_byte : 0 < count
  a_byte = let some = parts.0 in grind (arith, nat_tests, some)

  inside : offset + count ≤ 20
  inside = ends_below 20 offset count (common_fields false) (omega arith, (omega arith, (omega arith, (omega arith, (omega arith, (omega arith, (omega arith, (omega arith, tt)))))))) parts.1

  -- it doesn't stay with the host
  pub not_local : (kind : Kind) → is_local kind true (Read offset count) ≡ false
  not_local (Block sectors read_only) = let low = inside in grind (arith, nat_tests, low)
  not_local (Net mac) = let low = inside in grind (arith, nat_tests, low)

  common : (msix : Bool) → nat_lt offset (common_size msix) ≡ true
  common true = let low = inside in let some = a_byte in grind (arith, nat_tests, low, some)
  common false = let low = inside in let some = a_byte in grind (arith, nat_tests, low, some)

  -- it is a command of the common structure
  pub goes_common : (kind : Kind) (msix : Bool) → route_of kind msix true (Read offset count) ≡ Command (CommonRead offset count)
  goes_common kind msix =
      ap (λ (b : Bool). cond b Local (Command (read_command (device_base msix) offset count))) (not_local kind)
      ∙ ap (λ (b : Bool). Command (cond b (CommonRead offset count) (DevRead (offset - device_base msix) count))) (common msix)

  one_field : (msix : Bool) → is_in_one_field (common_fields msix) offset count ≡ true
  one_field false = register
  one_field true = (λ i. parts.0 i && any_more (is_inside offset count) (common_fields false) (config_vector_field ∷ queue_vector_field ∷ []) parts.1 i)

  -- and the member answers with its bytes
  pub answers_bytes : (kind : Kind) (r : Registers) → act_answer kind r (CommonRead offset count) ≡ Data (read_bytes kind r Common offset count)
  answers_bytes kind r = ap (λ (b : Bool). cond (not b) (Refused Field) (Data (read_bytes kind r Common offset count))) (one_field r.msix)
