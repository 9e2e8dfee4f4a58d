-- What is seen is what the history says, at first and after each entry.
use Rattle.std.proofs.Common.{◌≡◌, ℕ, ◌+◌, ◌≤◌, Bool, true, false, cond, List, [], ◌∷◌, length, Option, Some, None, refl, sym, ap, ◌∙◌, subst, arith}
use Rattle.std.specs.Prelude.{◌&&◌, ◌||◌, not, is_some, unwrap_or, slice_index_or}
use Rattle.history.specs.Look.{count}
use Rattle.byte_fields.specs.Places.{bytes_at}
use Rattle.net_engine.specs.Frames.{backlog_limit, is_frame_length}
use Rattle.std.specs.Prelude.{nat_le}
use Rattle.admin_wire.specs.declared.command.LegacyCmd.{LegacyCmd}
use Rattle.admin_wire.specs.declared.command.LegacyCmd.TheVariants.{CommonWrite, CommonRead, DevWrite, DevRead, Info as NotifyInfo}
use Rattle.legacy_regs.specs.declared.device.Kind.{Kind}
use Rattle.legacy_regs.specs.declared.device.Kind.TheVariants.{Block, Net}
use Rattle.legacy_regs.specs.declared.accesses.Space.TheVariants.{Device}
use Rattle.legacy_regs.specs.Fields.{mac_field}
use Rattle.legacy_regs.specs.Registers.{Registers, Bank, initial_registers, selected as selected_of}
use Rattle.group_calls.specs.declared.member.MemberMade.{MemberMade}
use Rattle.group_calls.specs.declared.member.Why.TheVariants.{Field, Range, Frame}
use Rattle.group_calls.specs.declared.member.MemberCall.{MemberCall}
use Rattle.group_calls.specs.declared.member.MemberCall.TheVariants.{Act, Notify, Msix, MemWrite, MemRead, TakeIrqs, Step, Arrive, Flr, Kill}
use Rattle.group_calls.specs.declared.member.MemberReply.{MemberReply}
use Rattle.group_calls.specs.declared.member.MemberReply.TheVariants.{Data, Written, Refused, Gone, Arrived, BacklogFull}
use Rattle.group_calls.specs.MemberEntries.{MemberEntry, is_reset, byte_written, since_reset}
use Rattle.group_calls.specs.MemberRegisters.{selected, bytes_left, registers_after}
use Rattle.group_calls.specs.MemberQueues.{receives, frame_kept, with_frame, arrivals, leaves_backlog, takes_irqs, raised}
use Rattle.group_calls.specs.RegisterSteps.{registers_then}
use Rattle.group_calls.specs.Facts.{Facts, facts}
use Rattle.group_calls.specs.Storage.{memory_after, disk_after}
use Rattle.group_calls.specs.Member.{kills, is_killed, gone_floor, is_refused, access_answer, fits, living_answer, is_memory_call, member_answer}
use Rattle.group_calls.proofs.RegisterSteps.{registers_after-is, goes_on, ends}
use Rattle.group_calls.proofs.RegisterEntries.{registers_after-more}
use Rattle.lone_device.specs.declared.seen.Seen.{Seen}
use Rattle.lone_device.specs.Entries.{entry, msix_then, kept_then, left_then, raised_then, floor_then, HasSmallVector}
use Rattle.lone_device.specs.Queues.{unseen, queue_then, both_queues}
use Rattle.lone_device.specs.Seen.{Stands, Notes, FitsRegisters, bank_then}
use Rattle.lone_device.proofs.Vectors.{AreSmall, are_small}
use Rattle.lone_device.proofs.QueueSteps.{queue_seen-more}
use Rattle.lone_device.proofs.Outcomes.{IsUsual, outcome_usual}

-- ---- at first

unwritten : (written : ℕ → MemberEntry → List MemberEntry → Option ℕ) (place : ℕ) (first : List ℕ) → bytes_left written [] place first ≡ first
unwritten written place [] = refl
unwritten written place (byte ∷ rest) = ap (λ bytes. byte ∷ bytes) (unwritten written (place + 1) rest)

pub registers_after-start : (kind : Kind) → registers_after kind [] ≡ initial_registers kind
registers_after-start (Block sectors read_only) = registers_after-is (Block sectors read_only) []
registers_after-start (Net mac) = registers_after-is (Net mac) []
    ∙ ap (λ bytes. record (initial_registers (Net mac)) { mac = bytes }) (unwritten (λ place e past. byte_written Device place e) mac_field.offset mac)

-- ---- after any entry

kept-more : (e : MemberEntry) (past : List MemberEntry) → arrivals (since_reset (e ∷ past)) ≡ kept_then e (arrivals (since_reset past))
kept-more e past = go (is_reset e) refl
  where
    go : (b : Bool) → is_reset e ≡ b → arrivals (since_reset (e ∷ past)) ≡ kept_then e (arrivals (since_reset past))
    go true resets = ap arrivals (ends e past resets) ∙ sym (ap (λ b. cond b [] (with_frame (frame_kept e) (arrivals (since_reset past)))) resets)
    go false stays = ap arrivals (goes_on e past stays) ∙ sym (ap (λ b. cond b [] (with_frame (frame_kept e) (arrivals (since_reset past)))) stays)

abbrev leaving : List MemberEntry → ℕ
leaving run = count leaves_backlog run

left-more : (e : MemberEntry) (past : List MemberEntry) → leaving (since_reset (e ∷ past)) ≡ left_then e (leaving (since_reset past))
left-more e past = go (is_reset e) refl
  where
    go : (b : Bool) → is_reset e ≡ b → leaving (since_reset (e ∷ past)) ≡ left_then e (leaving (since_reset past))
    go true resets = ap leaving (ends e past resets) ∙ sym (ap (λ b. cond b 0 (cond (leaves_backlog e) (leaving (since_reset past) + 1) (leaving (since_reset past)))) resets)
    go false stays = ap leaving (goes_on e past stays) ∙ sym (ap (λ b. cond b 0 (cond (leaves_backlog e) (leaving (since_reset past) + 1) (leaving (since_reset past)))) stays)

few-more : (resets leaves : Bool) (n m : ℕ) → n ≤ m → cond resets 0 (cond leaves (n + 1) n) ≤ m + 1
few-more true leaves n m few = omega arith
few-more false true n m few = omega arith
few-more false false n m few = omega arith

raised-more : (e : MemberEntry) (past : List MemberEntry) → raised (e ∷ past) ≡ raised_then e (raised past)
raised-more e past = go (takes_irqs e) refl
  where
    go : (b : Bool) → takes_irqs e ≡ b → raised (e ∷ past) ≡ raised_then e (raised past)
    go true takes = rw takes refl
    go false leaves = rw leaves refl

killed-more : (e : MemberEntry) (at : ℕ) (floor : Option ℕ) (past : List MemberEntry) → is_some floor ≡ is_killed past → is_some (floor_then at e floor) ≡ is_killed (e ∷ past)
killed-more e at floor past same = go (kills e)
  where
    go : (b : Bool) → is_some (cond b (Some (at + 1)) floor) ≡ (b || is_killed past)
    go true = refl
    go false = same

floor-more : (e : MemberEntry) (at : ℕ) (floor : Option ℕ) (past : List MemberEntry) → at ≡ length past → unwrap_or floor 0 ≡ gone_floor past → unwrap_or (floor_then at e floor) 0 ≡ gone_floor (e ∷ past)
floor-more e at floor past at_is same = go (kills e)
  where
    go : (b : Bool) → unwrap_or (cond b (Some (at + 1)) floor) 0 ≡ unwrap_or (cond b (Some (length past + 1)) None) (gone_floor past)
    go true = ap (λ (n : ℕ). n + 1) at_is
    go false = same

-- ---- replies raise what the registers let them

registers_of_facts : (made : MemberMade) (h : List MemberEntry) → (facts made h).registers ≡ registers_after made.kind h
unfolding facts
registers_of_facts made h = refl

usual_choice : (r : Registers) (b : Bool) (x y : MemberReply) → IsUsual r x → IsUsual r y → IsUsual r (cond b x y)
usual_choice r true x y usual other = usual
usual_choice r false x y usual other = other

quiet : (r : Registers) (reply : MemberReply) → HasSmallVector reply → FitsRegisters reply r → IsUsual r reply
quiet r reply small fits = record { vector = small; isr = fits }

usual_access : (kind : Kind) (r : Registers) (command : LegacyCmd) → IsUsual r (access_answer kind r command)
usual_access kind r (CommonWrite offset bytes) = quiet r _ tt tt
usual_access kind r (CommonRead offset count) = quiet r _ tt tt
usual_access kind r (DevWrite offset bytes) = quiet r _ tt tt
usual_access kind r (DevRead offset count) = quiet r _ tt tt
usual_access kind r NotifyInfo = quiet r _ tt tt

usual_living : (made : MemberMade) (f : Facts) (memory disk : List ℕ) (call : MemberCall) → AreSmall f.registers → IsUsual f.registers (living_answer made f memory disk call)
usual_living made f memory disk (Act command) small = usual_choice f.registers (is_refused made.kind f.registers.msix command) (Refused Field) (access_answer made.kind f.registers command) (quiet f.registers _ tt tt) (usual_access made.kind f.registers command)
usual_living made f memory disk (Notify queue) small = quiet f.registers _ tt tt
usual_living made f memory disk (Msix on) small = quiet f.registers _ tt tt
usual_living made f memory disk (MemWrite addr bytes) small = usual_choice f.registers (fits made addr (length bytes)) Written (Refused Range) (quiet f.registers _ tt tt) (quiet f.registers _ tt tt)
usual_living made f memory disk (MemRead addr count) small = usual_choice f.registers (fits made addr count) (Data (bytes_at addr count memory)) (Refused Range) (quiet f.registers _ tt tt) (quiet f.registers _ tt tt)
usual_living made f memory disk TakeIrqs small = quiet f.registers _ tt tt
usual_living made f memory disk (Step q) small = outcome_usual made memory disk f q (small q)
usual_living made f memory disk (Arrive frame) small =
    usual_choice f.registers (not (receives made.kind 0 && is_frame_length (length frame))) (Refused Frame) (cond (nat_le backlog_limit (length f.waiting)) BacklogFull Arrived) (quiet f.registers _ tt tt)
    (usual_choice f.registers (nat_le backlog_limit (length f.waiting)) BacklogFull Arrived (quiet f.registers _ tt tt) (quiet f.registers _ tt tt))
usual_living made f memory disk Flr small = quiet f.registers _ tt tt
usual_living made f memory disk Kill small = quiet f.registers _ tt tt

facts_usual : (made : MemberMade) (h : List MemberEntry) (call : MemberCall) → IsUsual (facts made h).registers (member_answer made h call)
facts_usual made h call = usual_choice (facts made h).registers (is_killed h && not (is_memory_call call)) (Gone (gone_floor h)) (living_answer made (facts made h) (memory_after made h) (disk_after made h) call)
    (quiet (facts made h).registers _ tt tt)
    (usual_living made (facts made h) (memory_after made h) (disk_after made h) call (subst AreSmall (sym (registers_of_facts made h)) (are_small made.kind h)))

answer_usual : (made : MemberMade) (h : List MemberEntry) (call : MemberCall) → IsUsual (registers_after made.kind h) (member_answer made h call)
answer_usual made h call = subst (λ r. IsUsual r (member_answer made h call)) (registers_of_facts made h) (facts_usual made h call)

-- ---- after an entry

module _ (made : MemberMade) (s later : Seen) (h : List MemberEntry) (call : MemberCall) (reply : MemberReply) (at : ℕ)
    (stands : Stands made s h) (at_is : at ≡ length h) (reply_is : reply ≡ member_answer made h call) (notes : Notes at (entry call reply) s later)
  where
    abbrev e : MemberEntry
    e = entry call reply

    usual : IsUsual s.regs.registers reply
    usual = subst (λ r. IsUsual r reply) (sym stands.registers) (subst (IsUsual (registers_after made.kind h)) (sym reply_is) (answer_usual made h call))

    bank_is : later.regs ≡ bank_then call reply s.regs
    bank_is = notes.regs usual.isr

    selected_was : selected_of s.regs.registers ≡ selected (since_reset h)
    selected_was = ap selected_of stands.registers ∙ ap selected_of (registers_after-is made.kind h)

    queues_after : later.queues ≡ both_queues made.kind (since_reset (e ∷ h))
    queues_after = notes.queues
        ∙ (λ i. queue_then (stands.kind i) 0 (selected_was i) e (slice_index_or (stands.queues i) 0 unseen)
        ∷ queue_then (stands.kind i) 1 (selected_was i) e (slice_index_or (stands.queues i) 1 unseen) ∷ [])
        ∙ sym (λ i. queue_seen-more made.kind 0 e h i ∷ queue_seen-more made.kind 1 e h i ∷ [])

    pub stands_after : Stands made later (e ∷ h)
    stands_after = record {
      kind = notes.kind ∙ stands.kind;
      bank = ap (λ (b : Bank). b.kind) bank_is ∙ stands.bank;
      registers = ap (λ (b : Bank). b.registers) bank_is ∙ (λ i. registers_then (stands.bank i) call reply (stands.registers i)) ∙ sym (registers_after-more made.kind 0 call reply h);
      msix = notes.msix ∙ ap (msix_then e) stands.msix;
      queues = queues_after;
      kept = notes.kept ∙ ap (kept_then e) stands.kept ∙ sym (kept-more e h);
      left = notes.left ∙ ap (left_then e) stands.left ∙ sym (left-more e h);
      few = (let most = few-more (is_reset e) (leaves_backlog e) s.frames.left (length h) stands.few in let same = notes.left in omega arith);
      raised = notes.raised usual.vector ∙ ap (raised_then e) stands.raised ∙ sym (raised-more e h);
      killed = ap is_some notes.floor ∙ killed-more e at s.floor h stands.killed;
      floor = ap (λ o. unwrap_or o 0) notes.floor ∙ floor-more e at s.floor h at_is stands.floor;
    }
