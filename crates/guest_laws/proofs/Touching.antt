-- Who touches a guest's member.
use Rattle.std.proofs.Common.{◌≡◌, ℕ, ◌⊎◌, inl, inr, true, false, List, ◌∷◌, ◌++◌, Some, refl, sym, ◌∙◌, true≢false}
use Rattle.admin_wire.specs.declared.command.LegacyCmd.{LegacyCmd}
use Rattle.admin_wire.specs.declared.command.LegacyCmd.TheVariants.{CommonWrite, CommonRead, DevWrite, DevRead, Info as NotifyInfo}
use Rattle.history.specs.Places.{entry_at}
use Rattle.group_calls.specs.declared.ask.Ask.TheVariants.{Member}
use Rattle.group_calls.specs.declared.member.MemberCall.{MemberCall}
use Rattle.group_calls.specs.declared.member.MemberCall.TheVariants.{Act, Notify, Msix, MemWrite, MemRead, TakeIrqs, Step, Arrive, Flr, Kill}
use Rattle.group_calls.specs.declared.member.MemberReply.{MemberReply}
use Rattle.group_calls.specs.Asks.{Exchange}
use Rattle.board_script.specs.Script.{Whole}
use Rattle.board_script.specs.Bounds.{IsScript}
use Rattle.journal.specs.Lines.{Line}
use Rattle.journal.specs.Own.{is_guests}
use Rattle.journal.specs.Journals.{Journal, asked_by, IsLegalSoFar}
use Rattle.journal.specs.Heads.{is_info, is_for, is_from_outside, IsAskedByLine}
use Rattle.journal_laws.specs.Recorded.{of_member}
use Rattle.journal_laws.proofs.Recorded.{member_asked}
use Rattle.journal_laws.proofs.Traversal.{each_asked}
use Rattle.journal_laws.proofs.Serving.{is_of_service}
use Rattle.journal_laws.proofs.Others.{MayCall, line_calls}
use Rattle.journal_laws.proofs.Theirs.{acts_are_of_lines}
use Rattle.guest_laws.specs.Touched.{is_own_call, IsTouchedByOwn}

module _ (s : Whole) (j : Journal) (legal : IsLegalSoFar s j) (m : ℕ) where
  -- the actor's own member, a Kill, or from outside
  abbrev MayStand : ℕ → ℕ → MemberCall → MemberReply → Type 0
  MayStand place who call reply = (m ≡ who) ⊎ ((call ≡ Kill) ⊎ ((is_from_outside call ≡ true) × IsAskedByLine j m place (record { who = who; call = call; reply = reply })))

  by_line : (place who floor : ℕ) (call : MemberCall) (reply : MemberReply) (later earlier : List Exchange) → asked_by j who ≡ later ++ of_member m floor place call reply ∷ earlier → is_of_service (Member m floor call) ≡ false → MayStand place who call reply
  by_line place who floor call reply later earlier is plain =
      let it = each_asked s who (j.past who) (of_member m floor place call reply) later earlier (legal.begun who) is in
      go it.line (line_calls s who it.lines it.line it.asked m floor call it.others it.next plain)
      (λ for_it. record {
        floor = floor;
        p = record { line = it.line; asked = it.later ++ of_member m floor place call reply ∷ it.asked };
        later = it.later_lines;
        earlier = it.lines;
        asked_later = it.later;
        asked_earlier = it.asked;
        past = it.stands;
        line = for_it;
        asked = refl;
      })
    where
      go : (line : Line) → MayCall who line m call → (is_for m line ≡ true → IsAskedByLine j m place (record { who = who; call = call; reply = reply })) → MayStand place who call reply
      go line (inl own) asked = inl own
      go line (inr (inl kill)) asked = inr (inl kill)
      go line (inr (inr outside)) asked = inr (inr (outside.1, asked outside.0))

  stands : (place who : ℕ) (call : MemberCall) (reply : MemberReply) → entry_at place (j.member m) ≡ Some (record { who = who; call = call; reply = reply }) → ((floor : ℕ) → is_of_service (Member m floor call) ≡ false) → MayStand place who call reply
  stands place who call reply at plain =
      let asked = member_asked j who m place call reply (legal.recorded who) at in
      by_line place who asked.0 call reply asked.1.later asked.1.earlier asked.1.is (plain asked.0)

  own_only : (place who : ℕ) (call : MemberCall) (reply : MemberReply) → (is_from_outside call ≡ false) → (call ≡ Kill → ⊥) → MayStand place who call reply → who ≡ m
  own_only place who call reply inside living (inl own) = sym own
  own_only place who call reply inside living (inr (inl kill)) = absurd (living kill)
  own_only place who call reply inside living (inr (inr outside)) = absurd (true≢false (sym outside.0 ∙ inside))

  own : (place who : ℕ) (call : MemberCall) (reply : MemberReply) → entry_at place (j.member m) ≡ Some (record { who = who; call = call; reply = reply }) → is_own_call call ≡ true → who ≡ m
  own place who (Notify queue) reply at is = own_only place who (Notify queue) reply refl (λ bad. absurd (cc)) (stands place who (Notify queue) reply at (λ floor. refl))
  own place who (Msix on) reply at is = own_only place who (Msix on) reply refl (λ bad. absurd (cc)) (stands place who (Msix on) reply at (λ floor. refl))
  own place who (MemWrite addr bytes) reply at is = own_only place who (MemWrite addr bytes) reply refl (λ bad. absurd (cc)) (stands place who (MemWrite addr bytes) reply at (λ floor. refl))
  own place who (MemRead addr count) reply at is = own_only place who (MemRead addr count) reply refl (λ bad. absurd (cc)) (stands place who (MemRead addr count) reply at (λ floor. refl))
  own place who TakeIrqs reply at is = own_only place who TakeIrqs reply refl (λ bad. absurd (cc)) (stands place who TakeIrqs reply at (λ floor. refl))
  own place who (Act access) reply at is = absurd (true≢false (sym is))
  own place who (Step queue) reply at is = absurd (true≢false (sym is))
  own place who (Arrive frame) reply at is = absurd (true≢false (sym is))
  own place who Flr reply at is = absurd (true≢false (sym is))
  own place who Kill reply at is = absurd (true≢false (sym is))

  named : (place who : ℕ) (call : MemberCall) (reply : MemberReply) → (call ≡ Kill → ⊥) → MayStand place who call reply → (who ≡ m) ⊎ IsAskedByLine j m place (record { who = who; call = call; reply = reply })
  named place who call reply living (inl own) = inl (sym own)
  named place who call reply living (inr (inl kill)) = absurd (living kill)
  named place who call reply living (inr (inr outside)) = inr outside.1

  outside : (place who : ℕ) (call : MemberCall) (reply : MemberReply) → entry_at place (j.member m) ≡ Some (record { who = who; call = call; reply = reply }) → is_from_outside call ≡ true
      → (who ≡ m) ⊎ IsAskedByLine j m place (record { who = who; call = call; reply = reply })
  outside place who (Step queue) reply at is = named place who (Step queue) reply (λ bad. absurd (cc)) (stands place who (Step queue) reply at (λ floor. refl))
  outside place who (Arrive frame) reply at is = named place who (Arrive frame) reply (λ bad. absurd (cc)) (stands place who (Arrive frame) reply at (λ floor. refl))
  outside place who Flr reply at is = named place who Flr reply (λ bad. absurd (cc)) (stands place who Flr reply at (λ floor. refl))
  outside place who (Act access) reply at is = absurd (true≢false (sym is))
  outside place who (Notify queue) reply at is = absurd (true≢false (sym is))
  outside place who (Msix on) reply at is = absurd (true≢false (sym is))
  outside place who (MemWrite addr bytes) reply at is = absurd (true≢false (sym is))
  outside place who (MemRead addr count) reply at is = absurd (true≢false (sym is))
  outside place who TakeIrqs reply at is = absurd (true≢false (sym is))
  outside place who Kill reply at is = absurd (true≢false (sym is))

guests_access : (m who : ℕ) (access : LegacyCmd) → is_info (Act access) ≡ false → is_guests m who (Act access) ≡ true
guests_access m who (CommonWrite offset bytes) is = refl
guests_access m who (CommonRead offset count) is = refl
guests_access m who (DevWrite offset bytes) is = refl
guests_access m who (DevRead offset count) is = refl
guests_access m who NotifyInfo is = absurd (true≢false is)

pub touched_by_own : (s : Whole) (j : Journal) → IsScript s → IsLegalSoFar s j → (m : ℕ) → IsTouchedByOwn s j m
touched_by_own s j script legal m = record {
  own = λ place e at is. own s j legal m place e.who e.call e.reply at is;
  accesses = λ place who access reply at is. acts_are_of_lines s j script legal m place who access reply at (guests_access m who access is);
  outside = λ place e at is. outside s j legal m place e.who e.call e.reply at is;
}
