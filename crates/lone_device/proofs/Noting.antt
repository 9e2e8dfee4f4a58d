-- An event that was noted with the device's reply.
use Rattle.std.proofs.Common.{◌≡◌, ℕ, Bool, true, false, cond, List, [], ◌∷◌, length, None, refl, sym, ap, ◌∙◌, subst}
use Rattle.std.specs.Prelude.{◌&&◌, is_some, Ok, Err}
use Rattle.admin_wire.specs.declared.command.LegacyCmd.{LegacyCmd}
use Rattle.legacy_regs.specs.declared.accesses.Space.{Space}
use Rattle.legacy_regs.specs.declared.accesses.Space.TheVariants.{Common, Device}
use Rattle.legacy_regs.specs.declared.accesses.Field.{Field as Refusal}
use Rattle.legacy_regs.specs.Fields.{common_size}
use Rattle.legacy_regs.specs.Registers.{Bank}
use Rattle.legacy_regs.specs.Accesses.{is_refused_read, read_bytes, read_answer}
use Rattle.group_calls.specs.declared.member.MemberMade.{MemberMade}
use Rattle.group_calls.specs.declared.member.MemberCall.{MemberCall}
use Rattle.group_calls.specs.declared.member.MemberCall.TheVariants.{Act}
use Rattle.group_calls.specs.declared.member.MemberReply.{MemberReply}
use Rattle.group_calls.specs.declared.member.MemberReply.TheVariants.{Data, Gone}
use Rattle.group_calls.specs.declared.lone.LoneEvent.{LoneEvent}
use Rattle.group_calls.specs.declared.lone.LoneEvent.TheVariants.{Read, Write, Other as Called}
use Rattle.group_calls.specs.declared.lone.LoneReply.{LoneReply}
use Rattle.group_calls.specs.declared.lone.LoneReply.TheVariants.{Other}
use Rattle.group_calls.specs.declared.lone.LoneItem.{LoneItem}
use Rattle.group_calls.specs.MemberEntries.{MemberEntry}
use Rattle.group_calls.specs.Facts.{facts}
use Rattle.group_calls.specs.Storage.{memory_after, disk_after}
use Rattle.group_calls.specs.Member.{is_killed, gone_floor, act_answer, living_answer, answer_by, member_answer}
use Rattle.group_calls.specs.Lone.{device_base, access_of, reply_of, as_history, lone_reply}
use Rattle.lone_device.specs.declared.seen.Seen.{Seen}
use Rattle.lone_device.specs.Spaces.{read_of}
use Rattle.lone_device.specs.Entries.{entry}
use Rattle.lone_device.specs.Seen.{Stands, Notes, act_told}
use Rattle.lone_device.proofs.Standing.{stands_after}

-- ---- a read that isn't refused

read_told_by : (refused : Bool) (e : Refusal) (read bytes : List ℕ) (other : MemberReply) → Ok bytes ≡ cond refused (Err e) (Ok read) → Data bytes ≡ cond refused other (Data read)
read_told_by true e read bytes other told = cc
read_told_by false e read bytes other told = cc

pub read_told : (bank : Bank) (space : Space) (offset count : ℕ) (bytes : List ℕ) → Ok bytes ≡ read_answer bank space offset count → Data bytes ≡ act_answer bank.kind bank.registers (read_of space offset count)
read_told bank Common offset count bytes told = read_told_by (is_refused_read bank.kind bank.registers.msix Common offset count) _ (read_bytes bank.kind bank.registers Common offset count) bytes _ told
read_told bank Device offset count bytes told = read_told_by (is_refused_read bank.kind bank.registers.msix Device offset count) _ (read_bytes bank.kind bank.registers Device offset count) bytes _ told

-- ---- what is seen answers as the definition does

and_true : (b : Bool) → (b && true) ≡ b
and_true true = refl
and_true false = refl

pub act_is : (made : MemberMade) (s : Seen) (h : List MemberEntry) (command : LegacyCmd) → Stands made s h → act_told s command ≡ member_answer made h (Act command)
unfolding facts
act_is made s h command stands =
    (λ i. cond (stands.killed i) (Gone (stands.floor i)) (act_answer (stands.bank i) (stands.registers i) command))
    ∙ sym (ap (λ b. cond b (Gone (gone_floor h)) (act_answer made.kind (facts made h).registers command)) (and_true (is_killed h)))

-- of a device that lives
pub living : (made : MemberMade) (s : Seen) (h : List MemberEntry) (call : MemberCall) → s.floor ≡ None → Stands made s h → member_answer made h call ≡ living_answer made (facts made h) (memory_after made h) (disk_after made h) call
living made s h call none stands =
    ap (λ dead. answer_by made dead (gone_floor h) (facts made h) (memory_after made h) (disk_after made h) call) (sym stands.killed ∙ ap is_some none)

-- ---- events

pub length_history : (made : MemberMade) (items : List LoneItem) → length (as_history made items) ≡ length items
length_history made [] = refl
length_history made (item ∷ items) = let same = length_history made items in cc

-- an access to the BAR
abbrev pub IsAccess : LoneEvent → Type 0
IsAccess (Called call) = ⊥
IsAccess _ = Unit {0}

access_reply : (made : MemberMade) (h : List MemberEntry) (event : LoneEvent) (reply : LoneReply) → IsAccess event → reply_of made h event reply ≡ member_answer made h (access_of (device_base h) event)
access_reply made h (Read offset count) reply is = refl
access_reply made h (Write offset bytes) reply is = refl
access_reply made h (Called call) reply is = absurd is

module _ (made : MemberMade) (s later : Seen) (items : List LoneItem) (item : LoneItem) (at : ℕ) (at_is : at ≡ length items) (stands : Stands made s (as_history made items)) where
  abbrev h : List MemberEntry
  h = as_history made items

  at_end : at ≡ length h
  at_end = at_is ∙ sym (length_history made items)

  pub noted_access : (command : LegacyCmd) → IsAccess item.event → Act command ≡ access_of (common_size s.msix) item.event → Notes at (entry (Act command) (act_told s command)) s later
      → Stands made later (as_history made (item ∷ items))
  noted_access command is command_is notes =
      let call_is : Act command ≡ access_of (device_base h) item.event = command_is ∙ ap (λ msix. access_of (common_size msix) item.event) stands.msix in
      let told : act_told s command ≡ member_answer made h (Act command) = act_is made s h command stands in
      let reply_is : act_told s command ≡ reply_of made h item.event item.reply = told ∙ ap (member_answer made h) call_is ∙ sym (access_reply made h item.event item.reply is) in
      subst (λ (e : MemberEntry). Stands made later (e ∷ h)) ((λ i. entry (call_is i) (reply_is i)))
      (stands_after made s later h (Act command) (act_told s command) at stands at_end told notes)

  -- a call whose reply is the device's
  pub noted_call : (call : MemberCall) (reply : MemberReply) → item.event ≡ Called call → item.reply ≡ Other reply → item.reply ≡ lone_reply made items item.event → Notes at (entry call reply) s later
      → Stands made later (as_history made (item ∷ items))
  noted_call call reply event_is reply_is replied notes =
      let same : Other reply ≡ Other (member_answer made h call) = sym reply_is ∙ replied ∙ ap (lone_reply made items) event_is in
      let told : reply ≡ member_answer made h call = cc in
      subst (λ (e : MemberEntry). Stands made later (e ∷ h)) (sym (λ i. entry (access_of (device_base h) (event_is i)) (reply_of made h (event_is i) (reply_is i))))
      (stands_after made s later h call reply at stands at_end told notes)

  -- a device replies to a call as a member does
  pub replied_call : (call : MemberCall) → item.event ≡ Called call → item.reply ≡ lone_reply made items item.event → (reply : MemberReply) × (item.reply ≡ Other reply)
  replied_call call event_is replied = (member_answer made h call, replied ∙ ap (lone_reply made items) event_is)
