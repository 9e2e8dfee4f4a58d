-- What is left behind a Kill.
use Rattle.std.proofs.Common.{◌≡◌, ℕ, ◌+◌, ◌-◌, ◌≤◌, inl, inr, Bool, true, false, cond, List, [], ◌∷◌, length, Option, None, Some, refl, sym, ap, ◌∙◌, arith, subst, true≢false}
use Rattle.std.proofs.lemmas.Bool.{cases_lt}
use Rattle.history.specs.Places.{entry_at, before}
use Rattle.history.specs.Look.{or_else}
use Rattle.history.proofs.PlaceLemmas.{entry_at-in, before-all, before-more}
use Rattle.history.specs.Legal.{never_quiet}
use Rattle.history.proofs.LegalLemmas.{before-skip, before_earlier, legal_earlier}
use Rattle.place_laws.proofs.Places.{entry_kept}
use Rattle.group_calls.specs.declared.member.MemberMade.{MemberMade}
use Rattle.group_calls.specs.declared.member.MemberCall.{MemberCall}
use Rattle.group_calls.specs.declared.member.MemberCall.TheVariants.{Kill}
use Rattle.group_calls.specs.declared.member.MemberReply.{MemberReply}
use Rattle.group_calls.specs.declared.member.MemberReply.TheVariants.{Gone}
use Rattle.group_calls.specs.MemberEntries.{MemberEntry}
use Rattle.group_calls.specs.MemberRegisters.{registers_after}
use Rattle.group_calls.specs.Facts.{facts}
use Rattle.group_calls.specs.Storage.{memory_after, disk_after}
use Rattle.group_calls.specs.Member.{kills, living_answer, member_answer, member_may, IsLegalMember}
use Rattle.group_calls.specs.Steps.{outcome}
use Rattle.group_calls.proofs.Stages.{memory_after-more}
use Rattle.member_laws.specs.Ends.{killed}
use Rattle.member_laws.proofs.Ends.{first_kill, by_end, answered_by, answered_at, killed_after, later_killed, gone_after, gone_tells}
use Rattle.board_script.specs.Script.{Whole}
use Rattle.journal.specs.Lines.{made_of}
use Rattle.journal.specs.Journals.{Journal, IsLegalJournal}
use Rattle.guest_laws.specs.Disabled.{before_end, is_memory_write, IsLeft}
use Rattle.guest_laws.proofs.Inert.{IsInert, dead_inert, dead_memory, killing_inert, registers_kept, facts_kept, disk_kept}

same_floor : (a b : ℕ) → Some a ≡ Some b → a ≡ b
same_floor a b is = cc

-- an entry that kills is a Kill
is_kill : (e : MemberEntry) → kills e ≡ true → e.call ≡ Kill
is_kill e is = go e.call refl is
  where
    go : (c : MemberCall) → e.call ≡ c → kills (record { who = e.who; call = c; reply = e.reply }) ≡ true → e.call ≡ Kill
    go Kill call_is is = call_is
    go _ call_is is = absurd (true≢false (sym is))

legal_up_to : (made : MemberMade) (h : List MemberEntry) (p : ℕ) → IsLegalMember made h → IsLegalMember made (before p h)
legal_up_to made h p legal =
    let split = before_earlier h p in
    legal_earlier (member_answer made) never_quiet (member_may made) split.0 (before p h) (subst (IsLegalMember made) split.1 legal)

twice : {E : Type 0} (h : List E) (p q : ℕ) → p ≤ q → before p (before q h) ≡ before p h
twice [] p q low = refl
twice {E = E} (x ∷ past) p q low = elim (cases_lt (length past) q) [
  | inl f ↦ ap (before p) (before-all (x ∷ past) q (omega arith))
  | inr f ↦ ap (before p) (before-skip x past q f) ∙ (twice past p q low ∙ sym (before-skip x past p (omega (arith, low, f))))
]

-- the same registers, queues and disk
record IsKept (made : MemberMade) (h k : List MemberEntry) : Type 0 where
  registers : registers_after made.kind h ≡ registers_after made.kind k
  facts_are : facts made h ≡ facts made k
  disk : disk_after made h ≡ disk_after made k

kept_on : (made : MemberMade) (e : MemberEntry) (past k : List MemberEntry) → IsInert e → IsKept made past k → IsKept made (e ∷ past) k
kept_on made e past k inert it = record {
  registers = registers_kept e past inert made made.kind ∙ it.registers;
  facts_are = facts_kept e past inert made ∙ it.facts_are;
  disk = disk_kept e past inert made ∙ it.disk;
}

kept_same : (made : MemberMade) (h k : List MemberEntry) → h ≡ k → IsKept made h k
kept_same made h k is = record { registers = ap (registers_after made.kind) is; facts_are = ap (facts made) is; disk = ap (disk_after made) is }

module _ (made : MemberMade) where
  since_kill : (h : List MemberEntry) (n : ℕ) → IsLegalMember made h → killed h ≡ Some n → IsKept made h (before_end n h)
  since_kill [] n legal was = absurd (cc)
  since_kill (e ∷ past) n legal was = go (since_kill past n legal.3) (killed past) refl
    where
      inside : n - 1 ≤ length past
      inside =
          let it = first_kill (e ∷ past) n was in
          let low = entry_at-in (e ∷ past) it.place it.entry it.stands in
          omega (arith, it.above, low)

      shorter : before_end n (e ∷ past) ≡ before_end n past
      shorter = before-skip e past (n - 1) inside

      living : MemberReply
      living = living_answer made (facts made past) (memory_after made past) (disk_after made past) e.call

      go : (killed past ≡ Some n → IsKept made past (before_end n past)) → (o : Option ℕ) → killed past ≡ o → IsKept made (e ∷ past) (before_end n (e ∷ past))
      go deeper (Some m) dead =
          let told : Some m ≡ Some n = sym (ap (λ (o : Option ℕ). or_else o (cond (kills e) (Some (length past + 1)) None)) dead) ∙ was in
          let same : m ≡ n = cc in
          let answer = legal.0 ∙ (answered_by made past legal.3 e.call ∙ ap (λ (o : Option ℕ). by_end made o (facts made past) (memory_after made past) (disk_after made past) e.call) dead) in
          subst (IsKept made (e ∷ past)) (sym shorter) (kept_on made e past (before_end n past) (dead_inert e.who e.call e.reply living m answer) (deeper (dead ∙ ap Some same)))
      go deeper None lives = by (kills e) refl
        where
          by : (b : Bool) → kills e ≡ b → IsKept made (e ∷ past) (before_end n (e ∷ past))
          by true is =
              let told : Some (length past + 1) ≡ Some n = sym (λ i. or_else (lives i) (cond (is i) (Some (length past + 1)) None)) ∙ was in
              let same = same_floor _ _ told in
              let all : before_end n past ≡ past = before-all past (n - 1) (omega (arith, same)) in
              subst (IsKept made (e ∷ past)) (sym shorter) (kept_on made e past (before_end n past) (killing_inert e (is_kill e is)) (kept_same made past (before_end n past) (sym all)))
          by false is = let told : None ≡ Some n = sym (λ i. or_else (lives i) (cond (is i) (Some (length past + 1)) None)) ∙ was in absurd (cc)

  -- at each place behind the Kill
  at_place : (h : List MemberEntry) (n place : ℕ) → IsLegalMember made h → killed h ≡ Some n → n ≤ place → IsKept made (before place h) (before_end n h)
  at_place h n place legal was above =
      let it = first_kill h n was in
      let dead = killed_after h it.place place it.entry (entry_kept h place it.place it.entry it.stands (omega (arith, it.above, above))) it.killing in
      let same = same_floor dead.0 n (sym (later_killed h place dead.0 dead.1) ∙ was) in
      subst (IsKept made (before place h)) (twice h (n - 1) place (omega (arith, above))) (since_kill (before place h) n (legal_up_to made h place legal) (dead.1 ∙ ap Some same))

  memory_kept : (h : List MemberEntry) (n place : ℕ) (e : MemberEntry) → IsLegalMember made h → killed h ≡ Some n → entry_at place h ≡ Some e → n ≤ place → is_memory_write e.call ≡ false
      → memory_after made (before (place + 1) h) ≡ memory_after made (before place h)
  memory_kept h n place e legal was at above other =
      let it = first_kill h n was in
      let past : List MemberEntry = before place h in
      let dead = killed_after h it.place place it.entry (entry_kept h place it.place it.entry it.stands (omega (arith, it.above, above))) it.killing in
      let answer = answered_at made h place e legal at ∙ ap (λ (o : Option ℕ). by_end made o (facts made past) (memory_after made past) (disk_after made past) e.call) dead.1 in
      ap (memory_after made) (before-more h place e at)
      ∙ (memory_after-more made e past
      ∙ dead_memory e.call e.reply (living_answer made (facts made past) (memory_after made past) (disk_after made past) e.call) dead.0 (outcome made (memory_after made past) (disk_after made past) (facts made past)) (memory_after made past) answer other)

  pub is_left : (h : List MemberEntry) (n : ℕ) → IsLegalMember made h → killed h ≡ Some n → IsLeft made h n
  is_left h n legal was =
      let it = first_kill h n was in
      record {
        answers = λ place e at above other.
            let gone = gone_after made h it.place place it.entry e legal it.stands it.killing at (omega (arith, it.above, above)) other in
            let same = same_floor gone.0 n (sym (gone_tells made h place e gone.0 legal at gone.1) ∙ was) in
            gone.1 ∙ ap Gone same;
        registers = λ place above. (at_place h n place legal was above).registers;
        facts = λ place above. (at_place h n place legal was above).facts_are;
        disk = λ place above. (at_place h n place legal was above).disk;
        memory = λ place e at above other. memory_kept h n place e legal was at above other;
      }

pub disabled_left : (s : Whole) (j : Journal) → IsLegalJournal s j → (m floor : ℕ) → killed (j.member m) ≡ Some floor → IsLeft (made_of s m) (j.member m) floor
disabled_left s j legal m floor was = is_left (made_of s m) (j.member m) floor (legal.histories.member m) was
