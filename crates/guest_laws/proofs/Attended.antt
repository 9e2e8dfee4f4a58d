-- What comes of a notification: it is waited with until a step finds nothing, a reset, or a new address of its queue.
use Rattle.std.proofs.Common.{◌≡◌, ℕ, ◌<◌, ◌⊎◌, inl, inr, Bool, true, false, cond, List, [], ◌∷◌, length, None, Some, refl, sym, ap, ◌∙◌, arith, subst, true≢false}
use Rattle.std.specs.Prelude.{◌||◌, ◌&&◌, ◌==◌, not}
use Rattle.std.specs.List.{list_any}
use Rattle.std.proofs.lemmas.Bool.{cases_eq}
use Rattle.std.proofs.lemmas.Bool.Decides.{nat_tests}
use Rattle.byte_fields.specs.Places.{le16}
use Rattle.admin_wire.specs.declared.command.LegacyCmd.{LegacyCmd}
use Rattle.admin_wire.specs.declared.command.LegacyCmd.TheVariants.{CommonWrite, CommonRead, DevWrite, DevRead, Info as NotifyInfo}
use Rattle.legacy_regs.specs.declared.device.Kind.{Kind}
use Rattle.legacy_regs.specs.Registers.{queue_count}
use Rattle.history.specs.Places.{entry_at}
use Rattle.history.specs.Look.{after_latest}
use Rattle.history.proofs.PlaceLemmas.{entry_at-in, entry_at-up, entry_at-now, before-all}
use Rattle.history.proofs.LegalLemmas.{before-skip, entry_at-top, entry_at-below}
use Rattle.group_calls.specs.declared.member.MemberCall.{MemberCall}
use Rattle.group_calls.specs.declared.member.MemberCall.TheVariants.{Act, Notify, Msix, MemWrite, MemRead, TakeIrqs, Step, Arrive, Flr, Kill}
use Rattle.group_calls.specs.declared.member.MemberReply.{MemberReply}
use Rattle.group_calls.specs.MemberEntries.{MemberEntry, is_done, is_zero_status, is_reset, since_reset}
use Rattle.group_calls.specs.MemberRegisters.{selected}
use Rattle.group_calls.specs.MemberQueues.{is_address_write, moves, fresh, is_empty, is_step, is_halted, receives, notifies, is_notified}
use Rattle.member_laws.proofs.Alike.{entry, either_way, two}
use Rattle.board_script.specs.Script.{Whole}
use Rattle.journal.specs.Lines.{kind_of}
use Rattle.journal.specs.Journals.{Journal, IsLegalJournal, IsGuestOf}
use Rattle.guest_laws.specs.Rest.{is_idle as rests_idle, is_gone as rests_gone, is_left as rests_left}
use Rattle.guest_laws.specs.Notified.{StandsBehind, IsAttended, is_answered, is_reset_since, is_moved_since, is_stopped, is_gone, is_left}
use Rattle.guest_laws.proofs.Inert.{and_none}
use Rattle.guest_laws.proofs.Rest.{comes_to_rest}

-- ---- a notification is no reset, no write of an address, and no step

module _ (kind : Kind) (q : ℕ) where
  record IsQuiet (e : MemberEntry) (run : List MemberEntry) : Type 0 where
    resets : is_reset e ≡ false
    moved : moves q e run ≡ false
    emptied : is_step is_empty q e ≡ false

  module _ (who : ℕ) (reply : MemberReply) (run : List MemberEntry) where
    -- a write at queue notify with two bytes
    no_reset : (bytes : List ℕ) → length bytes ≡ 2 → (b : Bool) → is_zero_status (cond b (Some (record { offset = 16; bytes = bytes })) None) ≡ false
    no_reset bytes two_bytes false = refl
    no_reset (low ∷ high ∷ []) two_bytes true = refl
    no_reset [] two_bytes true = absurd (cc)
    no_reset (low ∷ []) two_bytes true = absurd (omega (arith, two_bytes))
    no_reset (low ∷ high ∷ more ∷ bytes) two_bytes true = absurd (omega (arith, two_bytes))

    no_address : (bytes : List ℕ) (b : Bool) → is_address_write (cond b (Some (record { offset = 16; bytes = bytes })) None) ≡ false
    no_address bytes true = refl
    no_address bytes false = refl

    rung : (offset : ℕ) (bytes : List ℕ) → offset ≡ 16 → length bytes ≡ 2 → IsQuiet (entry who (Act (CommonWrite offset bytes)) reply) run
    rung offset bytes at two_bytes = subst (λ (o : ℕ). IsQuiet (entry who (Act (CommonWrite o bytes)) reply) run) (sym at) (record {
      resets = two (λ a b. a || b) _ _ _ _ (no_reset bytes two_bytes (is_done reply)) (and_none (is_done reply));
      moved = ap (λ b. (q == selected run) && b) (no_address bytes (is_done reply)) ∙ and_none (q == selected run);
      emptied = refl;
    })

    nothing : ((is_done reply && false) || (receives kind q && false)) ≡ true → ⊥
    nothing is = true≢false (sym is ∙ two (λ a b. a || b) _ _ _ _ (and_none (is_done reply)) (and_none (receives kind q)))

    tests : (d o l e r : Bool) → ((d && (o && l && e)) || (r && false)) ≡ true → (o ≡ true) × (l ≡ true)
    tests true true true e r is = (refl, refl)
    tests true true false e true is = absurd (cc)
    tests true true false e false is = absurd (cc)
    tests true false l e true is = absurd (cc)
    tests true false l e false is = absurd (cc)
    tests false o l e true is = absurd (cc)
    tests false o l e false is = absurd (cc)

    access : (command : LegacyCmd) → notifies kind q (entry who (Act command) reply) ≡ true → IsQuiet (entry who (Act command) reply) run
    access (CommonWrite offset bytes) is =
        let found = tests (is_done reply) (offset == 16) (length bytes == 2) (le16 0 bytes == q) (receives kind q) is in
        let at : offset ≡ 16 = grind (arith, nat_tests, found.0) in
        let count : length bytes ≡ 2 = grind (arith, nat_tests, found.1) in
        rung offset bytes at count
    access (CommonRead offset count) is = absurd (nothing is)
    access (DevWrite offset bytes) is = absurd (nothing is)
    access (DevRead offset count) is = absurd (nothing is)
    access NotifyInfo is = absurd (nothing is)

    quiet : (call : MemberCall) → notifies kind q (entry who call reply) ≡ true → IsQuiet (entry who call reply) run
    quiet (Act command) is = access command is
    quiet (Notify queue) is = record {
      resets = two (λ o b. is_zero_status o || b) _ _ _ _ (either_way (is_done reply) None) (and_none (is_done reply));
      moved = ap (λ o. (q == selected run) && is_address_write o) (either_way (is_done reply) None) ∙ and_none (q == selected run);
      emptied = refl;
    }
    quiet (Arrive frame) is = record {
      resets = two (λ o b. is_zero_status o || b) _ _ _ _ (either_way (is_done reply) None) (and_none (is_done reply));
      moved = ap (λ o. (q == selected run) && is_address_write o) (either_way (is_done reply) None) ∙ and_none (q == selected run);
      emptied = refl;
    }
    quiet (Msix on) is = absurd (nothing is)
    quiet (MemWrite addr bytes) is = absurd (nothing is)
    quiet (MemRead addr count) is = absurd (nothing is)
    quiet TakeIrqs is = absurd (nothing is)
    quiet (Step queue) is = absurd (nothing is)
    quiet Flr is = absurd (nothing is)
    quiet Kill is = absurd (nothing is)

  -- ---- it is waited with

  data IsCleared (h : List MemberEntry) (place : ℕ) : Type 0 where
    by_step : StandsBehind (λ e past. is_step is_empty q e) h place → IsCleared h place
    by_reset : StandsBehind (λ e past. is_reset e) h place → IsCleared h place
    by_move : StandsBehind (λ e past. moves q e (since_reset past)) h place → IsCleared h place

  abbrev Waits : List MemberEntry → Type 0
  Waits h = is_notified kind (since_reset h) q ≡ true

  behind_up : (passes : MemberEntry → List MemberEntry → Bool) (x : MemberEntry) (past : List MemberEntry) (place : ℕ) → StandsBehind passes past place → StandsBehind passes (x ∷ past) place
  behind_up passes x past place it =
      let low = entry_at-in past it.later it.entry it.stands in
      record {
        later = it.later;
        entry = it.entry;
        behind = it.behind;
        stands = entry_at-up x past it.later it.entry it.stands;
        passing = ap (passes it.entry) (before-skip x past it.later (omega (arith, low))) ∙ it.passing;
      }

  behind_now : (passes : MemberEntry → List MemberEntry → Bool) (x : MemberEntry) (past : List MemberEntry) (place : ℕ) → place < length past → passes x past ≡ true → StandsBehind passes (x ∷ past) place
  behind_now passes x past place low is = record {
    later = length past;
    entry = x;
    behind = low;
    stands = entry_at-now x past;
    passing = ap (passes x) (before-skip x past (length past) (omega arith) ∙ before-all past (length past) (omega arith)) ∙ is;
  }

  cleared_up : (x : MemberEntry) (past : List MemberEntry) (place : ℕ) → IsCleared past place → IsCleared (x ∷ past) place
  cleared_up x past place (by_step it) = by_step (behind_up _ x past place it)
  cleared_up x past place (by_reset it) = by_reset (behind_up _ x past place it)
  cleared_up x past place (by_move it) = by_move (behind_up _ x past place it)

  notified_more : (x : MemberEntry) (past : List MemberEntry) → IsQuiet x (since_reset past) → is_notified kind (since_reset (x ∷ past)) q ≡ (notifies kind q x || is_notified kind (since_reset past) q)
  notified_more x past it =
      let run : List MemberEntry = since_reset past in
      ap (λ (b : Bool). is_notified kind (cond b [] (x ∷ run)) q) it.resets
      ∙ (ap (λ (b : Bool). list_any (notifies kind q) (after_latest (is_step is_empty q) (cond b [] (x ∷ fresh run q)))) it.moved
      ∙ ap (λ (b : Bool). list_any (notifies kind q) (cond b [] (x ∷ after_latest (is_step is_empty q) (fresh run q)))) it.emptied)

  or_true : (b : Bool) → (b || true) ≡ true
  or_true true = refl
  or_true false = refl

  waits_more : (x : MemberEntry) (past : List MemberEntry) (place : ℕ) → place < length past → Waits past → IsCleared (x ∷ past) place ⊎ Waits (x ∷ past)
  waits_more x past place low waits = go (is_reset x) refl (moves q x (since_reset past)) refl (is_step is_empty q x) refl
    where
      go : (a : Bool) → is_reset x ≡ a → (b : Bool) → moves q x (since_reset past) ≡ b → (c : Bool) → is_step is_empty q x ≡ c → IsCleared (x ∷ past) place ⊎ Waits (x ∷ past)
      go true resets b moved c emptied = inl (by_reset (behind_now (λ e past. is_reset e) x past place low resets))
      go false resets true moved c emptied = inl (by_move (behind_now (λ e past. moves q e (since_reset past)) x past place low moved))
      go false resets false moved true emptied = inl (by_step (behind_now (λ e past. is_step is_empty q e) x past place low emptied))
      go false resets false moved false emptied =
          inr (notified_more x past (record { resets = resets; moved = moved; emptied = emptied }) ∙ (ap (λ b. notifies kind q x || b) waits ∙ or_true (notifies kind q x)))

  cleared_or_waits : (h : List MemberEntry) (p : ℕ) (e : MemberEntry) → entry_at p h ≡ Some e → notifies kind q e ≡ true → IsCleared h p ⊎ Waits h
  cleared_or_waits [] p e at is = absurd (cc)
  cleared_or_waits (x ∷ past) p e at is = elim (cases_eq p (length past)) [
    | inl same ↦
        let here : notifies kind q x ≡ true = ap (notifies kind q) (entry_at-top x e past p same at) ∙ is in
        inr (notified_more x past (quiet x.who x.reply (since_reset past) x.call here) ∙ ap (λ b. b || is_notified kind (since_reset past) q) here)
    | inr other ↦
        let below = entry_at-below x e past p other at in
        elim (cleared_or_waits past p e below is) [
          | inl cleared ↦ inl (cleared_up x past p cleared)
          | inr waits ↦ waits_more x past p (entry_at-in past p e below) waits
        ]
  ]

halted : (h n : Bool) → (not h && n) ≡ false → n ≡ true → h ≡ true
halted true n idle waits = refl
halted false n idle waits = absurd (true≢false (sym waits ∙ idle))

pub attended : (s : Whole) (j : Journal) → IsLegalJournal s j → (m q place : ℕ) (e : MemberEntry) → IsGuestOf s m → q < queue_count (kind_of s m)
    → entry_at place (j.member m) ≡ Some e → notifies (kind_of s m) q e ≡ true → IsAttended s j m q place
attended s j legal m q place e guest exists at is = elim (comes_to_rest s j legal m q guest exists) [
  | rests_gone floor was ↦ is_gone floor was
  | rests_left left ↦ is_left left
  | rests_idle idle ↦ elim (cleared_or_waits (kind_of s m) q (j.member m) place e at is) [
    | inl cleared ↦ elim cleared [ by_step it ↦ is_answered it | by_reset it ↦ is_reset_since it | by_move it ↦ is_moved_since it ]
    | inr waits ↦ is_stopped (halted (is_halted (since_reset (j.member m)) q) (is_notified (kind_of s m) (since_reset (j.member m)) q) idle waits)
  ]
]
