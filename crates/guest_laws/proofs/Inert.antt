-- Entries that leave a member's registers, queues and disk as they were.
use Rattle.std.proofs.Common.{◌≡◌, ℕ, ◌+◌, Bool, true, false, cond, List, [], ◌∷◌, Option, None, Some, refl, sym, ap, ◌∙◌, arith, subst}
use Rattle.std.specs.Prelude.{◌||◌, ◌&&◌, ◌==◌, ◌%◌, drop, not, bit_and, bit_or}
use Rattle.std.specs.List.{list_any}
use Rattle.std.proofs.lemmas.Nat.{and_le_l, or_disjoint}
use Rattle.ring_layout.specs.Chain.{index_modulus}
use Rattle.legacy_regs.specs.declared.device.Kind.{Kind}
use Rattle.legacy_regs.specs.declared.accesses.Space.TheVariants.{Common}
use Rattle.legacy_regs.specs.Registers.{Registers}
use Rattle.history.specs.Look.{after_latest, count}
use Rattle.group_calls.specs.declared.member.MemberMade.{MemberMade}
use Rattle.group_calls.specs.declared.member.MemberCall.{MemberCall}
use Rattle.group_calls.specs.declared.member.MemberCall.TheVariants.{MemWrite, MemRead, TakeIrqs, Step, Arrive, Kill}
use Rattle.group_calls.specs.declared.member.MemberReply.{MemberReply}
use Rattle.group_calls.specs.declared.member.MemberReply.TheVariants.{Gone}
use Rattle.group_calls.specs.MemberEntries.{MemberEntry, is_done, done_write, is_zero_status, is_reset, since_reset}
use Rattle.group_calls.specs.MemberRegisters.{registers_after, selected}
use Rattle.group_calls.specs.MemberQueues.{moves, is_address_write, fresh, is_served, is_empty, is_halt, is_step, position, is_halted, receives, notifies, is_notified, is_pending, frame_kept, with_frame, arrivals, leaves_backlog, backlog, bit_raised, all_bits, takes_irqs, raised}
use Rattle.group_calls.specs.RegisterSteps.{registers_then}
use Rattle.group_calls.specs.Member.{is_memory_call}
use Rattle.group_calls.specs.Facts.{facts}
use Rattle.group_calls.specs.Steps.{Outcome, outcome}
use Rattle.group_calls.specs.Storage.{memory_then, memory_after, disk_after}
use Rattle.group_calls.specs.Replay.{disk_then}
use Rattle.group_calls.proofs.Stages.{disk_after-more}
use Rattle.group_calls.proofs.RegisterEntries.{registers_after-more}
use Rattle.member_laws.proofs.Alike.{entry, either_way, two}
use Rattle.guest_laws.specs.Disabled.{is_memory_write}

pub and_none : (b : Bool) → (b && false) ≡ false
and_none true = refl
and_none false = refl

no_bits : (n : ℕ) → bit_or 0 n ≡ n
no_bits n =
    let none : bit_and 0 n ≡ 0 = let at_most = and_le_l 0 n in omega (arith, at_most) in
    let sum : 0 + n ≡ n = omega arith in
    or_disjoint 0 n none ∙ sum

-- an entry that tells nothing of registers and queues
pub record IsInert (e : MemberEntry) : Type 0 where
  pub common : done_write Common e ≡ None
  pub resets : is_reset e ≡ false
  pub served : (q : ℕ) → is_step is_served q e ≡ false
  pub halted : (q : ℕ) → is_step is_halt q e ≡ false
  pub emptied : (q : ℕ) → is_step is_empty q e ≡ false
  pub notified : (kind : Kind) (q : ℕ) → notifies kind q e ≡ false
  pub frame : frame_kept e ≡ None
  pub leaves : leaves_backlog e ≡ false
  pub bit : bit_raised e ≡ 0
  pub takes : takes_irqs e ≡ false
  pub registers : (kind : Kind) (r : Registers) → registers_then kind e.call e.reply r ≡ r
  pub disk : (does : ℕ → Outcome) (disk : List ℕ) → disk_then does disk e.call e.reply ≡ disk

-- ---- answered Gone

module _ (who floor : ℕ) where
  gone_step : (passes : MemberReply → Bool) → passes (Gone floor) ≡ false → (call : MemberCall) (q : ℕ) → is_step passes q (entry who call (Gone floor)) ≡ false
  gone_step passes test (Step queue) q = ap (λ b. (queue == q) && b) test ∙ and_none (queue == q)
  gone_step passes test _ q = refl

  gone_frame : (call : MemberCall) → frame_kept (entry who call (Gone floor)) ≡ None
  gone_frame (Arrive frame) = refl
  gone_frame _ = refl

  gone_leaves : (call : MemberCall) → leaves_backlog (entry who call (Gone floor)) ≡ false
  gone_leaves (Step queue) = ap (λ b. b || false) (and_none (queue == 0))
  gone_leaves _ = refl

  gone_bit : (call : MemberCall) → bit_raised (entry who call (Gone floor)) ≡ 0
  gone_bit (Step queue) = refl
  gone_bit _ = refl

  gone_takes : (call : MemberCall) → takes_irqs (entry who call (Gone floor)) ≡ false
  gone_takes TakeIrqs = refl
  gone_takes _ = refl

  gone_disk : (call : MemberCall) (does : ℕ → Outcome) (disk : List ℕ) → disk_then does disk call (Gone floor) ≡ disk
  gone_disk (Step queue) does disk = refl
  gone_disk _ does disk = refl

  gone_inert : (call : MemberCall) → IsInert (entry who call (Gone floor))
  gone_inert call = record {
    common = refl;
    resets = refl;
    served = gone_step is_served refl call;
    halted = gone_step is_halt refl call;
    emptied = gone_step is_empty refl call;
    notified = λ kind q. ap (λ (o : Option (List ℕ)). receives kind q && elim o [ None ↦ false | Some frame ↦ true ]) (gone_frame call) ∙ and_none (receives kind q);
    frame = gone_frame call;
    leaves = gone_leaves call;
    bit = gone_bit call;
    takes = gone_takes call;
    registers = λ kind r. refl;
    disk = gone_disk call;
  }

-- ---- a read or write of the memory, and the Kill itself

module _ (who : ℕ) (reply : MemberReply) where
  mem_write_inert : (addr : ℕ) (bytes : List ℕ) → IsInert (entry who (MemWrite addr bytes) reply)
  mem_write_inert addr bytes = record {
    common = either_way (is_done reply) None;
    resets = two (λ o b. is_zero_status o || b) _ _ _ _ (either_way (is_done reply) None) (and_none (is_done reply));
    served = λ q. refl;
    halted = λ q. refl;
    emptied = λ q. refl;
    notified = λ kind q. two (λ a b. a || b) _ _ _ _ (and_none (is_done reply)) (and_none (receives kind q));
    frame = refl;
    leaves = refl;
    bit = refl;
    takes = refl;
    registers = λ kind r. either_way (is_done reply) r;
    disk = λ does disk. refl;
  }

  mem_read_inert : (addr count : ℕ) → IsInert (entry who (MemRead addr count) reply)
  mem_read_inert addr count = record {
    common = either_way (is_done reply) None;
    resets = two (λ o b. is_zero_status o || b) _ _ _ _ (either_way (is_done reply) None) (and_none (is_done reply));
    served = λ q. refl;
    halted = λ q. refl;
    emptied = λ q. refl;
    notified = λ kind q. two (λ a b. a || b) _ _ _ _ (and_none (is_done reply)) (and_none (receives kind q));
    frame = refl;
    leaves = refl;
    bit = refl;
    takes = refl;
    registers = λ kind r. either_way (is_done reply) r;
    disk = λ does disk. refl;
  }

  kill_inert : IsInert (entry who Kill reply)
  kill_inert = record {
    common = either_way (is_done reply) None;
    resets = two (λ o b. is_zero_status o || b) _ _ _ _ (either_way (is_done reply) None) (and_none (is_done reply));
    served = λ q. refl;
    halted = λ q. refl;
    emptied = λ q. refl;
    notified = λ kind q. two (λ a b. a || b) _ _ _ _ (and_none (is_done reply)) (and_none (receives kind q));
    frame = refl;
    leaves = refl;
    bit = refl;
    takes = refl;
    registers = λ kind r. either_way (is_done reply) r;
    disk = λ does disk. refl;
  }

-- a call of a member that was killed: a read or write of the memory, or it is answered Gone
pub dead_inert : (who : ℕ) (call : MemberCall) (reply living : MemberReply) (floor : ℕ) → reply ≡ cond (is_memory_call call) living (Gone floor) → IsInert (entry who call reply)
dead_inert who (MemWrite addr bytes) reply living floor is = mem_write_inert who reply addr bytes
dead_inert who (MemRead addr count) reply living floor is = mem_read_inert who reply addr count
dead_inert who call reply living floor is = subst (λ (r : MemberReply). IsInert (entry who call r)) (sym is) (gone_inert who floor call)

pub killing_inert : (e : MemberEntry) → e.call ≡ Kill → IsInert e
killing_inert e is = subst (λ (c : MemberCall). IsInert (entry e.who c e.reply)) (sym is) (kill_inert e.who e.reply)

-- which writes nothing to the memory, unless it is such a write
pub dead_memory : (call : MemberCall) (reply living : MemberReply) (floor : ℕ) (does : ℕ → Outcome) (memory : List ℕ) → reply ≡ cond (is_memory_call call) living (Gone floor) → is_memory_write call ≡ false → memory_then does memory call reply ≡ memory
dead_memory (MemWrite addr bytes) reply living floor does memory is other = absurd (cc)
dead_memory (Step queue) reply living floor does memory is other = ap (memory_then does memory (Step queue)) is
dead_memory _ reply living floor does memory is other = refl

-- ---- what stays

module _ (e : MemberEntry) (past : List MemberEntry) (inert : IsInert e) where
  pub since_kept : since_reset (e ∷ past) ≡ e ∷ since_reset past
  since_kept = ap (λ (b : Bool). cond b [] (e ∷ since_reset past)) inert.resets

  module _ (run : List MemberEntry) (q : ℕ) where
    fresh_kept : fresh (e ∷ run) q ≡ e ∷ fresh run q
    fresh_kept =
        let unmoved : moves q e run ≡ false = ap (λ o. (q == selected run) && is_address_write o) inert.common ∙ and_none (q == selected run) in
        ap (λ (b : Bool). cond b [] (e ∷ fresh run q)) unmoved

    position_kept : position (e ∷ run) q ≡ position run q
    position_kept =
        ap (λ l. count (is_step is_served q) l % index_modulus) fresh_kept
        ∙ ap (λ (b : Bool). cond b (count (is_step is_served q) (fresh run q) + 1) (count (is_step is_served q) (fresh run q)) % index_modulus) (inert.served q)

    halted_kept : is_halted (e ∷ run) q ≡ is_halted run q
    halted_kept = ap (λ l. list_any (is_step is_halt q) l) fresh_kept ∙ ap (λ b. b || list_any (is_step is_halt q) (fresh run q)) (inert.halted q)

    notified_kept : (kind : Kind) → is_notified kind (e ∷ run) q ≡ is_notified kind run q
    notified_kept kind =
        let rest : List MemberEntry = after_latest (is_step is_empty q) (fresh run q) in
        ap (λ l. list_any (notifies kind q) (after_latest (is_step is_empty q) l)) fresh_kept
        ∙ (ap (λ (b : Bool). list_any (notifies kind q) (cond b [] (e ∷ rest))) (inert.emptied q) ∙ ap (λ b. b || list_any (notifies kind q) rest) (inert.notified kind q))

    pending_kept : (kind : Kind) → is_pending kind (e ∷ run) q ≡ is_pending kind run q
    pending_kept kind = two (λ x y. not x && y) _ _ _ _ halted_kept (notified_kept kind)

  backlog_kept : (run : List MemberEntry) → backlog (e ∷ run) ≡ backlog run
  backlog_kept run =
      two (λ n l. drop n l) _ _ _ _ (ap (λ (b : Bool). cond b (count leaves_backlog run + 1) (count leaves_backlog run)) inert.leaves) (ap (λ o. with_frame o (arrivals run)) inert.frame)

  raised_kept : raised (e ∷ past) ≡ raised past
  raised_kept =
      let rest : List MemberEntry = after_latest takes_irqs past in
      ap (λ (b : Bool). all_bits bit_raised (cond b [] (e ∷ rest))) inert.takes ∙ (ap (λ n. bit_or n (all_bits bit_raised rest)) inert.bit ∙ no_bits (all_bits bit_raised rest))

  module _ (made : MemberMade) where
    pub registers_kept : (kind : Kind) → registers_after kind (e ∷ past) ≡ registers_after kind past
    registers_kept kind = registers_after-more kind e.who e.call e.reply past ∙ inert.registers kind (registers_after kind past)

    pub facts_kept : facts made (e ∷ past) ≡ facts made past
    unfolding facts
    facts_kept =
        let run : List MemberEntry = since_reset past in
        let registers_are = registers_kept made.kind in
        let positions : (q : ℕ) → position (since_reset (e ∷ past)) q ≡ position run q = λ q. ap (λ l. position l q) since_kept ∙ position_kept run q in
        let pendings : (q : ℕ) → is_pending made.kind (since_reset (e ∷ past)) q ≡ is_pending made.kind run q = λ q. ap (λ l. is_pending made.kind l q) since_kept ∙ pending_kept run q made.kind in
        let waiting_are : backlog (since_reset (e ∷ past)) ≡ backlog run = ap backlog since_kept ∙ backlog_kept run in
        let raised_are = raised_kept in
        λ j. record {
          registers = registers_are j;
          position = λ q. positions q j;
          pending = λ q. pendings q j;
          waiting = waiting_are j;
          raised = raised_are j;
        }

    pub disk_kept : disk_after made (e ∷ past) ≡ disk_after made past
    disk_kept = disk_after-more made e past ∙ inert.disk (outcome made (memory_after made past) (disk_after made past) (facts made past)) (disk_after made past)
