-- What a member tells of a register access is short: a read lies inside one field.
use Rattle.std.proofs.Common.{◌≡◌, ℕ, ◌≤◌, Bool, true, false, cond, List, [], ◌∷◌, length, refl, sym, subst, arith, true≢false}
use Rattle.std.specs.Prelude.{IsSomeAnd, ◌||◌, ◌&&◌, not, nat_lt, nat_le}
use Rattle.std.specs.List.{list_any, list_all}
use Rattle.std.proofs.lemmas.Bool.Decides.{nat_tests}
use Rattle.std.proofs.lemmas.List.{length-take}
use Rattle.admin_wire.specs.Numbers.{place_payload_limit}
use Rattle.admin_wire.specs.declared.command.LegacyCmd.{LegacyCmd}
use Rattle.admin_wire.specs.declared.command.LegacyCmd.TheVariants.{CommonWrite, CommonRead, DevWrite, DevRead, Info as NotifyInfo}
use Rattle.legacy_regs.specs.declared.device.Kind.{Kind}
use Rattle.legacy_regs.specs.declared.device.Kind.TheVariants.{Block, Net}
use Rattle.legacy_regs.specs.declared.accesses.Space.{Space}
use Rattle.legacy_regs.specs.declared.accesses.Space.TheVariants.{Common, Device}
use Rattle.legacy_regs.specs.Fields.{FieldPlace, fields_of, is_inside}
use Rattle.legacy_regs.specs.Registers.{Registers}
use Rattle.legacy_regs.specs.Accesses.{is_refused_read, read_bytes}
use Rattle.group_calls.specs.declared.ask.Ask.TheVariants.{Member}
use Rattle.group_calls.specs.declared.ask.Told.{Told}
use Rattle.group_calls.specs.declared.ask.Told.TheVariants.{Member as FromMember}
use Rattle.group_calls.specs.declared.member.MemberMade.{MemberMade}
use Rattle.group_calls.specs.declared.member.MemberCall.TheVariants.{Act}
use Rattle.group_calls.specs.declared.member.MemberReply.TheVariants.{Refused, Gone}
use Rattle.group_calls.specs.declared.member.Why.TheVariants.{Field}
use Rattle.group_calls.specs.Asks.{AnswersAsk}
use Rattle.group_calls.specs.Facts.{facts}
use Rattle.group_calls.specs.MemberEntries.{MemberEntry}
use Rattle.group_calls.specs.Member.{is_killed, gone_floor, is_refused, access_answer, act_answer, member_answer, is_memory_call}
use Rattle.serve_machine.specs.declared.stage.Stage.{Stage}
use Rattle.serve_machine.specs.declared.stage.Stage.TheVariants.{Popping, Judging, Acting, Completing, Ended}
use Rattle.serve_machine.specs.Service.{next_ask}
use Rattle.serve_machine.specs.Within.{IsShortReply, IsShort}
use Rattle.serve_machine.proofs.Limits.{either}

-- ---- a read inside one field

-- of fields of so many bytes at most
inside_few : (offset count most : ℕ) (fields : List FieldPlace) → list_all (λ f. nat_le f.size most) fields ≡ true → list_any (is_inside offset count) fields ≡ true → count ≤ most
inside_few offset count most [] few found = absurd (true≢false (sym found))
inside_few offset count most (f ∷ fields) few found = go (nat_le f.size most) refl (is_inside offset count f) refl (inside_few offset count most fields) few found
  where
    go : (a : Bool) → nat_le f.size most ≡ a → (b : Bool) → is_inside offset count f ≡ b → (list_all (λ f. nat_le f.size most) fields ≡ true → list_any (is_inside offset count) fields ≡ true → count ≤ most)
        → (a && list_all (λ f. nat_le f.size most) fields) ≡ true → (b || list_any (is_inside offset count) fields) ≡ true → count ≤ most
    go true size true here deeper few found = grind (arith, nat_tests, size, here)
    go true size false here deeper few found = deeper few found
    go false size b here deeper few found = absurd (true≢false (sym few))

fields_few : (kind : Kind) (msix : Bool) (space : Space) → list_all (λ f. nat_le f.size place_payload_limit) (fields_of kind msix space) ≡ true
fields_few kind true Common = refl
fields_few kind false Common = refl
fields_few (Block sectors read_only) msix Device = refl
fields_few (Net mac) msix Device = refl

both : (a b : Bool) → not (a && b) ≡ false → b ≡ true
both true true e = refl
both true false e = absurd (true≢false e)
both false b e = absurd (true≢false e)

read_few : (kind : Kind) (msix : Bool) (space : Space) (offset count : ℕ) → is_refused_read kind msix space offset count ≡ false → count ≤ place_payload_limit
read_few kind msix space offset count taken =
    inside_few offset count place_payload_limit (fields_of kind msix space) (fields_few kind msix space) (both (nat_lt 0 count) (list_any (is_inside offset count) (fields_of kind msix space)) taken)

bytes_few : (kind : Kind) (r : Registers) (space : Space) (offset count : ℕ) → count ≤ place_payload_limit → length (read_bytes kind r space offset count) ≤ place_payload_limit
bytes_few kind r space offset count few = simp length-take (omega arith)

-- ---- the answer to an access

access_short : (kind : Kind) (r : Registers) (access : LegacyCmd) → is_refused kind r.msix access ≡ false → IsShortReply (access_answer kind r access)
access_short kind r (CommonWrite offset bytes) taken = tt
access_short kind r (CommonRead offset count) taken = bytes_few kind r Common offset count (read_few kind r.msix Common offset count taken)
access_short kind r (DevWrite offset bytes) taken = tt
access_short kind r (DevRead offset count) taken = bytes_few kind r Device offset count (read_few kind r.msix Device offset count taken)
access_short kind r NotifyInfo taken = tt

act_short : (kind : Kind) (r : Registers) (access : LegacyCmd) → IsShortReply (act_answer kind r access)
act_short kind r access = go (is_refused kind r.msix access) refl
  where
    go : (refused : Bool) → is_refused kind r.msix access ≡ refused → IsShortReply (cond refused (Refused Field) (access_answer kind r access))
    go true is = tt
    go false is = access_short kind r access is

-- of a member with any history
pub member_short : (made : MemberMade) (h : List MemberEntry) (access : LegacyCmd) → IsShortReply (member_answer made h (Act access))
member_short made h access =
    let r = (facts made h).registers in
    either IsShortReply (is_killed h && not (is_memory_call (Act access))) (Gone (gone_floor h)) (act_answer made.kind r access) tt (act_short made.kind r access)

pub act_told : (member floor : ℕ) (access : LegacyCmd) (told : Told) → AnswersAsk (Member member floor (Act access)) told → IsShort told
act_told member floor access (FromMember placed) answers =
    let over = answers.2 in
    subst IsShortReply (sym over.reply) (member_short answers.0 over.history access)
act_told member floor access _ answers = tt

-- ---- the answer to the ask of a stage

pub stage_short : (queue : ℕ) (stage : Stage) (told : Told) → IsSomeAnd (next_ask queue stage) (λ ask. AnswersAsk ask told) → IsShort told
stage_short queue (Acting command member access) told answers = act_told member command.tag.floor access told answers
stage_short queue Popping (FromMember placed) answers = absurd answers
stage_short queue (Judging command bytes) (FromMember placed) answers = absurd answers
stage_short queue (Completing seq bytes floor) (FromMember placed) answers = absurd answers
stage_short queue Ended (FromMember placed) answers = absurd answers
stage_short queue stage _ answers = tt
