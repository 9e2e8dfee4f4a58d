-- What a guest's member holds at the cut follows from the events of own history.
use Rattle.std.proofs.Common.{◌≡◌, ℕ, List, sym, ap, ◌∙◌, subst}
use Rattle.group_calls.specs.declared.member.MemberMade.{MemberMade}
use Rattle.group_calls.specs.declared.lone.LoneItem.{LoneItem}
use Rattle.group_calls.specs.MemberEntries.{MemberEntry}
use Rattle.group_calls.specs.Member.{IsLegalMember}
use Rattle.group_calls.specs.Lone.{as_history}
use Rattle.member_laws.specs.Own.{before_kill, own, lone_run, AreRouted}
use Rattle.member_laws.proofs.Alike.{Alike}
use Rattle.member_laws.proofs.Facts.{registers_alike, facts_alike, stored_alike}
use Rattle.member_laws.proofs.Lone.{events_alike, before_kill_lives, before_kill_legal, own_lone}
use Rattle.member_laws.proofs.Places.{lone_is_run}
use Rattle.board_script.specs.Script.{Whole}
use Rattle.board_script.specs.Bounds.{IsScript}
use Rattle.journal.specs.Lines.{made_of}
use Rattle.journal.specs.Journals.{Journal, IsLegalJournal, IsGuestOf}
use Rattle.head_laws.proofs.Routed.{lives_are_routed}
use Rattle.guest_laws.specs.Apart.{own_events, AreSame}

module _ (made : MemberMade) (g : ℕ) (h : List MemberEntry) (legal : IsLegalMember made h) (routed : AreRouted (before_kill h)) where
  -- own history tells the same as the member's, up to the cut
  pub own_alike : Alike (before_kill h) (as_history made (own g h))
  own_alike = events_alike made g (before_kill h) (before_kill_legal made h legal) (before_kill_lives h) routed

  pub own_run : own g h ≡ lone_run made (own_events g h)
  own_run = lone_is_run made (own g h) (own_lone made g h legal routed)

module _ (made : MemberMade) (g : ℕ) (h k : List MemberEntry) (h_legal : IsLegalMember made h) (k_legal : IsLegalMember made k) (h_routed : AreRouted (before_kill h)) (k_routed : AreRouted (before_kill k))
    (same : own_events g h ≡ own_events g k) where
  pub are_same : AreSame made g h k
  are_same =
      let items : own g h ≡ own g k = own_run made g h h_legal h_routed ∙ (ap (lone_run made) same ∙ sym (own_run made g k k_legal k_routed)) in
      let a = own_alike made g h h_legal h_routed in
      let b : Alike (before_kill k) (as_history made (own g h)) = subst (λ (xs : List LoneItem). Alike (before_kill k) (as_history made xs)) (sym items) (own_alike made g k k_legal k_routed) in
      let first = stored_alike made (before_kill h) (as_history made (own g h)) a in
      let second = stored_alike made (before_kill k) (as_history made (own g h)) b in
      record {
        own = items;
        memory = first.memory ∙ sym second.memory;
        disk = first.disk ∙ sym second.disk;
        registers = registers_alike made.kind (before_kill h) (as_history made (own g h)) a ∙ sym (registers_alike made.kind (before_kill k) (as_history made (own g h)) b);
        facts = facts_alike made (before_kill h) (as_history made (own g h)) a ∙ sym (facts_alike made (before_kill k) (as_history made (own g h)) b);
      }

pub guests_apart : (s t : Whole) (j i : Journal) → IsScript s → IsScript t → IsLegalJournal s j → IsLegalJournal t i → (g : ℕ) → IsGuestOf s g → IsGuestOf t g → made_of s g ≡ made_of t g
    → own_events g (j.member g) ≡ own_events g (i.member g) → AreSame (made_of s g) g (j.member g) (i.member g)
guests_apart s t j i s_is t_is j_legal i_legal g in_s in_t made same =
    are_same (made_of s g) g (j.member g) (i.member g) (j_legal.histories.member g)
    (subst (λ (m : MemberMade). IsLegalMember m (i.member g)) (sym made) (i_legal.histories.member g))
    (lives_are_routed s j s_is j_legal g in_s) (lives_are_routed t i t_is i_legal g in_t) same
