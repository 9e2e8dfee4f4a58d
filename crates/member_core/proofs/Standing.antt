-- A member stands as its history says, at first and after each entry.
use Rattle.std.proofs.Common.{◌≡◌, ℕ, ◌+◌, ◌<◌, Bool, true, false, cond, List, [], ◌∷◌, length, Option, Some, None, refl, sym, ap, ◌∙◌, subst, arith}
use Rattle.std.specs.Prelude.{◌&&◌, ◌||◌, not, nat_le, is_some, unwrap_or, replicate, slice_index_or}
use Rattle.history.specs.Limits.{history_limit, actor_limit}
use Rattle.net_engine.specs.Frames.{backlog_limit, is_frame_length}
use Rattle.legacy_regs.specs.Registers.{initial_registers, selected as selected_of}
use Rattle.group_calls.specs.declared.member.MemberMade.{MemberMade}
use Rattle.group_calls.specs.declared.member.Why.TheVariants.{Frame}
use Rattle.group_calls.specs.declared.member.MemberCall.{MemberCall}
use Rattle.group_calls.specs.declared.member.MemberCall.TheVariants.{Step, Arrive}
use Rattle.group_calls.specs.declared.member.MemberReply.{MemberReply}
use Rattle.group_calls.specs.declared.member.MemberReply.TheVariants.{Refused, Gone, Arrived, BacklogFull}
use Rattle.group_calls.specs.MemberEntries.{MemberEntry, since_reset}
use Rattle.group_calls.specs.MemberRegisters.{selected}
use Rattle.group_calls.specs.MemberQueues.{receives, is_arrival, leaves_backlog, takes_irqs, raised}
use Rattle.group_calls.specs.Facts.{facts}
use Rattle.group_calls.specs.Steps.{are_none, outcome}
use Rattle.group_calls.specs.Storage.{memory_length, disk_length, memory_after, disk_after}
use Rattle.group_calls.specs.Member.{kills, is_killed, gone_floor, answer_by, member_answer, IsLegalMember}
use Rattle.group_calls.proofs.RegisterSteps.{registers_after-is}
use Rattle.member_device.specs.Device.{Holdings}
use Rattle.member_core.specs.declared.state.State.{State}
use Rattle.member_core.specs.Queues.{first_facts, queue_then, both_queues}
use Rattle.member_core.specs.Holding.{holdings, holdings_then}
use Rattle.member_core.specs.Kept.{raised_then, killed_then, noted, LeavesFew, Stands, Keeps}
use Rattle.member_core.proofs.QueueSteps.{queue_facts-more}
use Rattle.member_core.proofs.WaitingSteps.{few-more, some_wait}
use Rattle.member_core.proofs.Outcomes.{leaves, none_leaves, leaving}
use Rattle.member_core.proofs.Telling.{facts_waiting, facts_small}
use Rattle.member_core.proofs.Holding.{holdings-more, holdings-start}

-- ---- at first

pub keeps_new : (made : MemberMade) (d : Holdings) → d.made ≡ made → d.registers ≡ initial_registers made.kind → d.memory ≡ replicate (memory_length made) 0 → d.disk ≡ replicate (disk_length made) 0 → d.waiting ≡ []
    → Keeps (record { device = d; queues = first_facts ∷ first_facts ∷ []; raised = 0; killed = None }) []
keeps_new made d made_is registers memory disk waiting = record {
  stands = subst (λ m. Stands m (record { device = d; queues = first_facts ∷ first_facts ∷ []; raised = 0; killed = None }) []) (sym made_is) record {
    device = holdings-start made d made_is registers memory disk waiting;
    queues = refl;
    raised = refl;
    killed = refl;
    floor = refl;
    few = λ takes. omega arith;
  };
  legal = tt;
  most = omega arith;
}

-- ---- what is kept beside the device, after any entry

raised-more : (e : MemberEntry) (past : List MemberEntry) → raised (e ∷ past) ≡ raised_then e (raised past)
raised-more e past = go (takes_irqs e) refl
  where
    go : (b : Bool) → takes_irqs e ≡ b → raised (e ∷ past) ≡ raised_then e (raised past)
    go true takes = rw takes refl
    go false leaves = rw leaves refl

killed-more : (e : MemberEntry) (at : ℕ) (floor : Option ℕ) (past : List MemberEntry) → is_some floor ≡ is_killed past → is_some (killed_then at e floor) ≡ is_killed (e ∷ past)
killed-more e at floor past same = go (kills e)
  where
    go : (b : Bool) → is_some (cond b (Some (at + 1)) floor) ≡ (b || is_killed past)
    go true = refl
    go false = same

floor-more : (e : MemberEntry) (at : ℕ) (floor : Option ℕ) (past : List MemberEntry) → at ≡ length past → unwrap_or floor 0 ≡ gone_floor past → unwrap_or (killed_then at e floor) 0 ≡ gone_floor (e ∷ past)
floor-more e at floor past at_is same = go (kills e)
  where
    go : (b : Bool) → unwrap_or (cond b (Some (at + 1)) floor) 0 ≡ unwrap_or (cond b (Some (length past + 1)) None) (gone_floor past)
    go true = ap (λ (n : ℕ). n + 1) at_is
    go false = same

-- ---- what a legal reply says of the frames

module _ (made : MemberMade) (who : ℕ) (reply : MemberReply) (past : List MemberEntry) where
  -- what the answer is by whether the member was killed
  abbrev by_end : Bool → MemberCall → MemberReply
  by_end dead call = answer_by made dead (gone_floor past) (facts made past) (memory_after made past) (disk_after made past) call

  abbrev came : List ℕ → MemberReply → Bool
  came frame told = is_arrival (record { who = who; call = Arrive frame; reply = told })

  arrival : (frame : List ℕ) → reply ≡ by_end (is_killed past) (Arrive frame) → came frame reply ≡ true → receives made.kind 0 ≡ true
  arrival frame is kept = go (is_killed past) refl
    where
      here : came frame (by_end (is_killed past) (Arrive frame)) ≡ true
      here = sym (ap (came frame) is) ∙ kept

      living : (b : Bool) → receives made.kind 0 ≡ b → came frame (by_end false (Arrive frame)) ≡ true → receives made.kind 0 ≡ true
      living true takes lives = takes
      living false takes lives = let no : false ≡ true =
          sym (ap (λ b. came frame (cond (not (b && is_frame_length (length frame))) (Refused Frame) (cond (nat_le backlog_limit (length (facts made past).waiting)) BacklogFull Arrived))) takes) ∙ lives in cc

      go : (dead : Bool) → is_killed past ≡ dead → receives made.kind 0 ≡ true
      go true dead = let no : false ≡ true = sym (ap (λ dead. came frame (by_end dead (Arrive frame))) dead) ∙ here in cc
      go false alive = living (receives made.kind 0) refl (sym (ap (λ dead. came frame (by_end dead (Arrive frame))) alive) ∙ here)

  -- a frame is kept only of a member that takes frames
  arriving : (call : MemberCall) → reply ≡ member_answer made past call → is_arrival (record { who = who; call = call; reply = reply }) ≡ true → receives made.kind 0 ≡ true
  arriving (Arrive frame) is kept = arrival frame is kept
  arriving _ is kept = cc

  step_leaves : (q : ℕ) → reply ≡ by_end (is_killed past) (Step q) → receives made.kind 0 ≡ true → leaves q reply ≡ true → are_none (facts made past).waiting ≡ false
  step_leaves q is takes gone = go (is_killed past) refl
    where
      here : leaves q (by_end (is_killed past) (Step q)) ≡ true
      here = sym (ap (leaves q) is) ∙ gone

      go : (dead : Bool) → is_killed past ≡ dead → are_none (facts made past).waiting ≡ false
      go true dead = let no : false ≡ true = sym (none_leaves q (Gone (gone_floor past)) refl refl) ∙ (sym (ap (λ dead. leaves q (by_end dead (Step q))) dead) ∙ here) in cc
      go false alive = leaving made (memory_after made past) (disk_after made past) (facts made past) q (facts_small made past q) takes (sym (ap (λ dead. leaves q (by_end dead (Step q))) alive) ∙ here)

  -- a frame leaves only where one waits
  leaving_waits : (call : MemberCall) → reply ≡ member_answer made past call → receives made.kind 0 ≡ true → leaves_backlog (record { who = who; call = call; reply = reply }) ≡ true → are_none (facts made past).waiting ≡ false
  leaving_waits (Step q) is takes gone = step_leaves q is takes gone
  leaving_waits _ is takes gone = cc

  few_after : (call : MemberCall) → reply ≡ member_answer made past call → LeavesFew made (since_reset past) → LeavesFew made (since_reset (record { who = who; call = call; reply = reply } ∷ past))
  few_after call is few takes = few-more (record { who = who; call = call; reply = reply }) past (few takes)
      (λ gone. some_wait (since_reset past) (sym (ap are_none (facts_waiting made past)) ∙ leaving_waits call is takes gone))

-- ---- after an entry

module _ (made : MemberMade) (s between later : State) (h : List MemberEntry) (who : ℕ) (call : MemberCall) (reply : MemberReply) (at selected_then : ℕ)
    (stands : Stands made s h) (at_is : at ≡ length h) (selected_is : selected_then ≡ selected_of s.device.registers) (reply_is : reply ≡ member_answer made h call)
    (device_is : between ≡ record s { device = holdings_then (outcome s.device.made s.device.memory s.device.disk (facts made h)) call reply s.device })
    (noted_is : later ≡ noted at selected_then (record { who = who; call = call; reply = reply }) between)
  where
    abbrev entry : MemberEntry
    entry = record { who = who; call = call; reply = reply }

    later_is : later ≡ noted at selected_then entry (record s { device = holdings_then (outcome s.device.made s.device.memory s.device.disk (facts made h)) call reply s.device })
    later_is = noted_is ∙ ap (noted at selected_then entry) device_is

    selected_was : selected_then ≡ selected (since_reset h)
    selected_was = selected_is ∙ ap (λ d. selected_of d.registers) stands.device ∙ ap selected_of (registers_after-is made.kind h)

    device_after : later.device ≡ holdings made (entry ∷ h)
    device_after = ap (λ (x : State). x.device) later_is
        ∙ (λ i. holdings_then (outcome (stands.device i).made (stands.device i).memory (stands.device i).disk (facts made h)) call reply (stands.device i))
        ∙ sym (holdings-more made who call reply h (λ kept. stands.few (arriving made who reply h call reply_is kept)))

    queues_after : later.queues ≡ both_queues made.kind (since_reset (entry ∷ h))
    queues_after = ap (λ (x : State). x.queues) later_is
        ∙ (λ i. queue_then (stands.device i).made.kind 0 (selected_was i) entry (slice_index_or (stands.queues i) 0 first_facts)
        ∷ queue_then (stands.device i).made.kind 1 (selected_was i) entry (slice_index_or (stands.queues i) 1 first_facts) ∷ [])
        ∙ sym (λ i. queue_facts-more made.kind 0 entry h i ∷ queue_facts-more made.kind 1 entry h i ∷ [])

    raised_after : later.raised ≡ raised (entry ∷ h)
    raised_after = ap (λ (x : State). x.raised) later_is ∙ ap (raised_then entry) stands.raised ∙ sym (raised-more entry h)

    killed_kept : later.killed ≡ killed_then at entry s.killed
    killed_kept = ap (λ (x : State). x.killed) later_is

    killed_after : is_some later.killed ≡ is_killed (entry ∷ h)
    killed_after = ap is_some killed_kept ∙ killed-more entry at s.killed h stands.killed

    floor_after : unwrap_or later.killed 0 ≡ gone_floor (entry ∷ h)
    floor_after = ap (λ o. unwrap_or o 0) killed_kept ∙ floor-more entry at s.killed h at_is stands.floor

    pub stands_after : Stands made later (entry ∷ h)
    stands_after = record {
      device = device_after;
      queues = queues_after;
      raised = raised_after;
      killed = killed_after;
      floor = floor_after;
      few = few_after made who reply h call reply_is stands.few;
    }

-- a member that stood keeps what it keeps
pub keeps_after : (made : MemberMade) (s later : State) (h : List MemberEntry) (who : ℕ) (call : MemberCall) (reply : MemberReply) → s.device.made ≡ made
    → Keeps s h → length h < history_limit → who < actor_limit → reply ≡ member_answer made h call → Stands made later (record { who = who; call = call; reply = reply } ∷ h)
    → Keeps later (record { who = who; call = call; reply = reply } ∷ h)
keeps_after made s later h who call reply made_was keeps room few reply_is stands =
    let made_is : later.device.made ≡ made = ap (λ d. d.made) stands.device in
    record {
      stands = subst (λ m. Stands m later (record { who = who; call = call; reply = reply } ∷ h)) (sym made_is) stands;
      legal = subst (λ m. IsLegalMember m (record { who = who; call = call; reply = reply } ∷ h)) (sym made_is) (reply_is, refl, few, subst (λ m. IsLegalMember m h) made_was keeps.legal);
      most = omega arith;
    }
