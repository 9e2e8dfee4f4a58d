-- A step makes no queue pending.
use Rattle.std.proofs.Common.{◌≡◌, ℕ, ◌≤◌, inl, inr, Bool, true, false, cond, List, [], ◌∷◌, length, None, Some, refl, sym, ap, ◌∙◌, arith, subst}
use Rattle.std.specs.Prelude.{◌||◌, ◌&&◌, ◌==◌, not}
use Rattle.std.specs.List.{list_any}
use Rattle.std.proofs.lemmas.Bool.{cases_lt}
use Rattle.legacy_regs.specs.declared.device.Kind.{Kind}
use Rattle.history.specs.Places.{entry_at, before}
use Rattle.history.specs.Look.{after_latest}
use Rattle.history.proofs.PlaceLemmas.{entry_at-up, entry_at-now, before-all}
use Rattle.history.proofs.LegalLemmas.{before-skip}
use Rattle.group_calls.specs.declared.member.MemberCall.{MemberCall}
use Rattle.group_calls.specs.declared.member.MemberCall.TheVariants.{Act, Notify, Msix, MemWrite, MemRead, TakeIrqs, Step, Arrive, Flr, Kill}
use Rattle.group_calls.specs.declared.member.MemberReply.{MemberReply}
use Rattle.group_calls.specs.MemberEntries.{MemberEntry, is_done, is_zero_status, is_reset, since_reset}
use Rattle.group_calls.specs.MemberRegisters.{selected}
use Rattle.group_calls.specs.MemberQueues.{moves, is_address_write, fresh, is_empty, is_halt, is_step, is_halted, receives, notifies, is_pending}
use Rattle.member_laws.proofs.Alike.{entry, either_way, two}
use Rattle.guest_laws.proofs.Inert.{and_none}

abbrev pub is_step_call : MemberCall → Bool
is_step_call (Step queue) = true
is_step_call _ = false

module _ (kind : Kind) (q : ℕ) where
  abbrev IsIdle : List MemberEntry → Type 0
  IsIdle h = is_pending kind (since_reset h) q ≡ false

  module _ (who queue : ℕ) (reply : MemberReply) (past : List MemberEntry) where
    e : MemberEntry
    e = entry who (Step queue) reply

    run : List MemberEntry
    run = since_reset past

    rest : List MemberEntry
    rest = after_latest (is_step is_empty q) (fresh run q)

    since_now : since_reset (e ∷ past) ≡ e ∷ run
    unfolding e run
    since_now =
        let goes_on : is_reset e ≡ false = two (λ o b. is_zero_status o || b) _ _ _ _ (either_way (is_done reply) None) (and_none (is_done reply)) in
        ap (λ (b : Bool). cond b [] (e ∷ run)) goes_on

    fresh_now : fresh (e ∷ run) q ≡ e ∷ fresh run q
    unfolding e run
    fresh_now =
        let unmoved : moves q e run ≡ false = ap (λ o. (q == selected run) && is_address_write o) (either_way (is_done reply) None) ∙ and_none (q == selected run) in
        ap (λ (b : Bool). cond b [] (e ∷ fresh run q)) unmoved

    quiet : notifies kind q e ≡ false
    unfolding e
    quiet = two (λ a b. a || b) _ _ _ _ (and_none (is_done reply)) (and_none (receives kind q))

    now : is_pending kind (since_reset (e ∷ past)) q ≡ (not (is_step is_halt q e || is_halted run q) && list_any (notifies kind q) (cond (is_step is_empty q e) [] (e ∷ rest)))
    unfolding e run rest
    now =
        ap (λ l. is_pending kind l q) since_now
        ∙ ap (λ l. not (list_any (is_step is_halt q) l) && list_any (notifies kind q) (after_latest (is_step is_empty q) l)) fresh_now

    step_keeps : IsIdle past → IsIdle (e ∷ past)
    unfolding e run rest
    step_keeps idle = now ∙ go (is_step is_halt q e) (is_step is_empty q e)
      where
        quiet_now : list_any (notifies kind q) (e ∷ rest) ≡ list_any (notifies kind q) rest
        quiet_now = ap (λ b. b || list_any (notifies kind q) rest) quiet

        go : (halts empties : Bool) → (not (halts || is_halted run q) && list_any (notifies kind q) (cond empties [] (e ∷ rest))) ≡ false
        go true empties = refl
        go false true = and_none (not (is_halted run q))
        go false false = ap (λ b. not (is_halted run q) && b) quiet_now ∙ idle

  step_kept : (e : MemberEntry) (past : List MemberEntry) → is_step_call e.call ≡ true → IsIdle past → IsIdle (e ∷ past)
  unfolding e
  step_kept x past is idle = go x.call refl is
    where
      go : (c : MemberCall) → x.call ≡ c → is_step_call c ≡ true → IsIdle (x ∷ past)
      go (Step queue) call_is is = subst (λ (c : MemberCall). IsIdle (entry x.who c x.reply ∷ past)) (sym call_is) (step_keeps x.who queue x.reply past idle)
      go (Act command) call_is is = absurd (cc)
      go (Notify queue) call_is is = absurd (cc)
      go (Msix on) call_is is = absurd (cc)
      go (MemWrite addr bytes) call_is is = absurd (cc)
      go (MemRead addr count) call_is is = absurd (cc)
      go TakeIrqs call_is is = absurd (cc)
      go (Arrive frame) call_is is = absurd (cc)
      go Flr call_is is = absurd (cc)
      go Kill call_is is = absurd (cc)

  -- where nothing but steps stands from a place on, a queue that wasn't pending there isn't pending
  pub stays_idle : (h : List MemberEntry) (place : ℕ) → IsIdle (before place h) → ((p : ℕ) (e : MemberEntry) → entry_at p h ≡ Some e → place ≤ p → is_step_call e.call ≡ true) → IsIdle h
  stays_idle [] place idle steps = idle
  stays_idle (x ∷ past) place idle steps = elim (cases_lt (length past) place) [
    | inl low ↦ subst IsIdle (before-all (x ∷ past) place (omega (arith, low))) idle
    | inr high ↦ step_kept x past (steps (length past) x (entry_at-now x past) (omega (arith, high)))
        (stays_idle past place (subst IsIdle (before-skip x past place (omega (arith, high))) idle) (λ p e at above. steps p e (entry_at-up x past p e at) above))
  ]
