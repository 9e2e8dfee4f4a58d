-- How a living member replies, and which of its entries have no bytes that a register access read.
use Rattle.std.proofs.Common.{◌≡◌, ℕ, ◌+◌, Bool, true, false, cond, List, [], length, Option, None, Some, refl, sym, ap, ◌∙◌, arith, true≢false}
use Rattle.std.specs.Prelude.{◌-◌, ◌||◌}
use Rattle.history.specs.Places.{entry_at}
use Rattle.history.proofs.PlaceLemmas.{entry_at-in}
use Rattle.admin_wire.specs.declared.command.LegacyCmd.TheVariants.{CommonWrite, CommonRead, DevWrite, DevRead, Info as NotifyInfo}
use Rattle.legacy_regs.specs.declared.device.Kind.{Kind}
use Rattle.group_calls.specs.declared.member.MemberMade.{MemberMade}
use Rattle.group_calls.specs.declared.member.MemberCall.{MemberCall}
use Rattle.group_calls.specs.declared.member.MemberCall.TheVariants.{Act}
use Rattle.group_calls.specs.declared.member.MemberReply.{MemberReply}
use Rattle.group_calls.specs.declared.member.MemberReply.TheVariants.{Data}
use Rattle.group_calls.specs.declared.lone.LoneEvent.{LoneEvent}
use Rattle.group_calls.specs.declared.lone.LoneEvent.TheVariants.{Read, Write}
use Rattle.group_calls.specs.MemberEntries.{MemberEntry}
use Rattle.group_calls.specs.Member.{IsLegalMember}
use Rattle.member_laws.specs.Ends.{killed}
use Rattle.member_laws.specs.Own.{cut, event_of as event_for}
use Rattle.member_laws.proofs.Ends.{fits_before}
use Rattle.member_laws.specs.Replies.{is_data, is_written, is_refused_field, is_info, is_reply_to}
use Rattle.io_bar.specs.declared.access.Access.TheVariants.{Write as WriteOf}
use Rattle.io_bar.specs.Route.{is_local}
use Rattle.guest_lines.specs.Lines.{event_of}
use Rattle.board_script.specs.declared.script.What.{What}
use Rattle.board_script.specs.declared.script.What.TheVariants as what
use Rattle.journal.specs.Own.{is_guests}
use Rattle.load_run.specs.Load.{bytes_of}

-- ---- replies

-- each is of its call's kind
pub living_fits : (made : MemberMade) (h : List MemberEntry) (place : ℕ) (e : MemberEntry) → IsLegalMember made h → killed h ≡ None → entry_at place h ≡ Some e → is_reply_to e.call e.reply ≡ true
living_fits made h place e legal alive at =
    let inside = entry_at-in h place e at in
    let end : cut h ≡ length h = ap (λ (o : Option ℕ). elim o [ None ↦ length h | Some floor ↦ floor - 1 ]) alive in
    fits_before made h place e legal at (omega (arith, inside, end))

no_data : (who : ℕ) (call : MemberCall) (reply : MemberReply) → is_data reply ≡ false → bytes_of (record { who = who; call = call; reply = reply }) ≡ []
no_data who (Act access) (Data bytes) is = absurd (true≢false is)
no_data who (Act access) _ is = refl
no_data who _ reply is = refl

written_no_data : (reply : MemberReply) → (is_written reply || is_refused_field reply) ≡ true → is_data reply ≡ false
written_no_data (Data bytes) is = absurd (true≢false (sym is))
written_no_data _ is = refl

info_no_data : (reply : MemberReply) → is_info reply ≡ true → is_data reply ≡ false
info_no_data (Data bytes) is = absurd (true≢false (sym is))
info_no_data _ is = refl

-- ---- an entry that isn't its guest's

pub others_silent : (g who : ℕ) (call : MemberCall) (reply : MemberReply) → is_reply_to call reply ≡ true → is_guests g who call ≡ false → bytes_of (record { who = who; call = call; reply = reply }) ≡ []
others_silent g who (Act NotifyInfo) reply fits other = no_data who (Act NotifyInfo) reply (info_no_data reply fits)
others_silent g who (Act _) reply fits other = absurd (true≢false other)
others_silent g who _ reply fits other = refl

-- ---- an entry whose event is no read

abbrev pub is_reading : LoneEvent → Bool
is_reading (Read offset count) = true
is_reading _ = false

some_event : (a b : LoneEvent) → Some a ≡ Some b → a ≡ b
some_event a b e = cc

pub events_silent : (g base who : ℕ) (call : MemberCall) (reply : MemberReply) (event : LoneEvent) → is_reply_to call reply ≡ true → event_for g base who call ≡ Some event → is_reading event ≡ false
    → bytes_of (record { who = who; call = call; reply = reply }) ≡ []
events_silent g base who (Act (CommonRead offset count)) reply event fits is other = absurd (true≢false (ap is_reading (some_event (Read offset count) event is) ∙ other))
events_silent g base who (Act (DevRead offset count)) reply event fits is other = absurd (true≢false (ap is_reading (some_event (Read (base + offset) count) event is) ∙ other))
events_silent g base who (Act (CommonWrite offset bytes)) reply event fits is other = no_data who (Act (CommonWrite offset bytes)) reply (written_no_data reply fits)
events_silent g base who (Act (DevWrite offset bytes)) reply event fits is other = no_data who (Act (DevWrite offset bytes)) reply (written_no_data reply fits)
events_silent g base who (Act NotifyInfo) reply event fits is other = no_data who (Act NotifyInfo) reply (info_no_data reply fits)
events_silent g base who _ reply event fits is other = refl

-- ---- a line that is no read has no event that is one

abbrev pub is_read_line : What → Bool
is_read_line (what.BarRead offset count queue once) = true
is_read_line _ = false

write_no_read : (b : Bool) (offset : ℕ) (bytes : List ℕ) (event : LoneEvent) → cond b None (Some (Write offset bytes)) ≡ Some event → is_reading event ≡ false
write_no_read true offset bytes event is = absurd (cc)
write_no_read false offset bytes event is = ap is_reading (sym (some_event (Write offset bytes) event is))

pub other_event : (kind : Kind) (io : Bool) (w : What) (event : LoneEvent) → is_read_line w ≡ false → event_of kind io w ≡ Some event → is_reading event ≡ false
other_event kind io (what.BarRead offset count queue once) event other is = absurd (true≢false other)
other_event kind io (what.BarWrite offset bytes queue once) event other is = write_no_read (is_local kind io (WriteOf offset bytes)) offset bytes event is
other_event kind io (what.Mem addr bytes) event other is = ap is_reading (sym (some_event _ event is))
other_event kind io (what.Peek addr count) event other is = ap is_reading (sym (some_event _ event is))
other_event kind io (what.Msix on) event other is = ap is_reading (sym (some_event _ event is))
other_event kind io (what.Io on) event other is = absurd (cc)
other_event kind io (what.Cfg offset count) event other is = absurd (cc)
other_event kind io what.Irqs event other is = ap is_reading (sym (some_event _ event is))
other_event kind io (what.Poll queue) event other is = ap is_reading (sym (some_event _ event is))
other_event kind io (what.Serve queue) event other is = absurd (cc)
other_event kind io (what.WorkerPoll member queue) event other is = ap is_reading (sym (some_event _ event is))
other_event kind io (what.Frame member frame) event other is = ap is_reading (sym (some_event _ event is))
other_event kind io (what.Flr member) event other is = ap is_reading (sym (some_event _ event is))
other_event kind io (what.Disable member) event other is = ap is_reading (sym (some_event _ event is))
other_event kind io what.Reset event other is = ap is_reading (sym (some_event _ event is))
