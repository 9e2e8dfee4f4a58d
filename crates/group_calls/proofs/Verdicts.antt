-- The cases of a verdict.
use Rattle.std.proofs.Common.{◌≡◌, ℕ, Bool, true, false, cond, List, refl}
use Rattle.std.specs.Prelude.{◌==◌, ◌&&◌, nat_le, nat_lt, not}
use Rattle.admin_wire.specs.Numbers.{sr_iov, invalid_opcode, invalid_field, invalid_group, invalid_member}
use Rattle.admin_wire.specs.Command.{opcode_of, member_of, group_type_of, body_of}
use Rattle.admin_wire.specs.declared.command.Body.{Body}
use Rattle.admin_wire.specs.declared.command.Body.TheVariants.{Query, Use, Legacy as ToMember, Unknown}
use Rattle.admin_wire.specs.declared.command.LegacyCmd.{LegacyCmd}
use Rattle.group_calls.specs.declared.owner.OwnerReply.{OwnerReply}
use Rattle.group_calls.specs.declared.owner.OwnerReply.TheVariants.{List as Listed, Used, Legacy}
use Rattle.group_calls.specs.Owner.{OwnerEntry, largest_opcode, supported_list, is_there, is_used, refused, verdict_on, verdict}

either : (P : OwnerReply → Type 0) (b : Bool) (x y : OwnerReply) → P x → P y → P (cond b x y)
either P true x y here there = here
either P false x y here there = there

-- what holds of each refusal, of the list, of Used, and of an access to a member that is there holds of every verdict
module _ (P : OwnerReply → Type 0) (h : List OwnerEntry) (m : ℕ) (refusals : (qualifier : ℕ) → P (refused h m qualifier)) (listed : P (Listed supported_list)) (used : P Used) where
  on_access : (command : LegacyCmd) → (is_there h m ≡ true → P (Legacy m command)) → (b : Bool) → is_there h m ≡ b → P (cond b (Legacy m command) (refused h m invalid_member))
  on_access command there true is = there is
  on_access command there false is = refusals invalid_member

  on_body : (body : Body) → ((command : LegacyCmd) → body ≡ ToMember command → is_there h m ≡ true → P (Legacy m command)) → P (verdict_on h m body)
  on_body Query there = listed
  on_body (Use bits) there = either P (nat_lt supported_list bits) (refused h m invalid_field) Used (refusals invalid_field) used
  on_body (ToMember command) there = on_access command (there command refl) (is_there h m) refl
  on_body Unknown there = refusals invalid_opcode

pub verdict_cases : (P : OwnerReply → Type 0) (h : List OwnerEntry) (bytes : List ℕ) (writable : ℕ) → ((qualifier : ℕ) → P (refused h (member_of bytes) qualifier)) → P (Listed supported_list) → P Used
    → ((command : LegacyCmd) → body_of (opcode_of bytes) bytes writable ≡ ToMember command → is_there h (member_of bytes) ≡ true → P (Legacy (member_of bytes) command))
    → P (verdict h bytes writable)
verdict_cases P h bytes writable refusals listed used there =
    let m = member_of bytes in
    let body = body_of (opcode_of bytes) bytes writable in
    let unknown = not (nat_le (opcode_of bytes) largest_opcode && is_used h (opcode_of bytes)) in
    either P (not (group_type_of bytes == sr_iov)) (refused h m invalid_group) (cond unknown (refused h m invalid_opcode) (verdict_on h m body)) (refusals invalid_group)
    (either P unknown (refused h m invalid_opcode) (verdict_on h m body) (refusals invalid_opcode) (on_body P h m refusals listed used body there))
