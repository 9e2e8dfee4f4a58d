-- What a member that stands as its history says tells of it.
use Rattle.std.proofs.Common.{◌≡◌, ℕ, zero, suc, ◌<◌, ◌≤◌, Bool, true, false, cond, List, refl, sym, ap, ◌∙◌, inl, inr, arith}
use Rattle.std.specs.Prelude.{nat_lt, nat_le, not, ◌&&◌, length, is_some, unwrap_or, slice_index_or}
use Rattle.std.proofs.lemmas.Bool.Decides.{nat_tests}
use Rattle.std.proofs.lemmas.Bool.{cases_lt}
use Rattle.byte_fields.specs.Places.{bytes_at}
use Rattle.net_engine.specs.Frames.{backlog_limit, is_frame_length}
use Rattle.admin_wire.specs.declared.command.LegacyCmd.{LegacyCmd}
use Rattle.admin_wire.specs.declared.command.LegacyCmd.TheVariants.{CommonWrite, CommonRead, DevWrite, DevRead, Info as NotifyInfo}
use Rattle.legacy_regs.specs.declared.device.Kind.{Kind}
use Rattle.legacy_regs.specs.declared.device.Kind.TheVariants.{Block, Net}
use Rattle.legacy_regs.specs.Registers.{Registers, queue_count}
use Rattle.group_calls.specs.declared.member.MemberMade.{MemberMade}
use Rattle.group_calls.specs.declared.member.Why.TheVariants.{Field, Range, Frame}
use Rattle.group_calls.specs.declared.member.MemberCall.{MemberCall}
use Rattle.group_calls.specs.declared.member.MemberCall.TheVariants.{Act, Notify, Msix, MemWrite, MemRead, TakeIrqs, Step, Arrive, Flr, Kill}
use Rattle.group_calls.specs.declared.member.MemberReply.{MemberReply}
use Rattle.group_calls.specs.declared.member.MemberReply.TheVariants.{Data, Written, Refused, Gone, Arrived, BacklogFull}
use Rattle.group_calls.specs.MemberEntries.{MemberEntry, since_reset}
use Rattle.group_calls.specs.MemberQueues.{receives, backlog}
use Rattle.group_calls.specs.Facts.{Facts, facts}
use Rattle.group_calls.specs.Steps.{outcome}
use Rattle.group_calls.specs.Member.{is_refused, access_answer, fits, living_answer, is_memory_call, answer_by, member_answer}
use Rattle.member_device.specs.Device.{AreFacts}
use Rattle.member_core.specs.declared.state.State.{State}
use Rattle.member_core.specs.declared.queues.QueueFacts.{QueueFacts}
use Rattle.member_core.specs.Queues.{first_facts, is_pending, queue_facts}
use Rattle.member_core.specs.Vectors.{AreSmall, HasSmallVector}
use Rattle.member_core.specs.Kept.{AreTold, Stands}
use Rattle.member_core.proofs.SmallVectors.{are_small}
use Rattle.member_core.proofs.Outcomes.{outcome_usual, outcome-beyond}

pub facts_waiting : (made : MemberMade) (h : List MemberEntry) → (facts made h).waiting ≡ backlog (since_reset h)
unfolding facts
facts_waiting made h = refl

pub facts_small : (made : MemberMade) (h : List MemberEntry) → AreSmall (facts made h).registers
unfolding facts
facts_small made h q = are_small made.kind h q

-- the facts of the history are what the state tells
pub facts_are_told : (made : MemberMade) (s : State) (h : List MemberEntry) → Stands made s h → AreTold s (facts made h)
unfolding facts
facts_are_told made s h stands = record {
  registers = sym (ap (λ d. d.registers) stands.device);
  waiting = sym (ap (λ d. d.waiting) stands.device);
  position = λ q few. ap (λ (x : QueueFacts). x.position) (kept q few);
  pending = λ q few. ap is_pending (kept q few);
  raised = sym stands.raised;
}
  where
    kept : (q : ℕ) → q < 2 → queue_facts made.kind (since_reset h) q ≡ slice_index_or s.queues q first_facts
    kept zero few = sym (ap (λ qs. slice_index_or qs 0 first_facts) stands.queues)
    kept (suc zero) few = sym (ap (λ qs. slice_index_or qs 1 first_facts) stands.queues)
    kept (suc (suc q)) few = absurd (omega arith)

-- some facts that are told
pub told_by : State → Facts
told_by s = record {
  registers = s.device.registers;
  position = λ q. (slice_index_or s.queues q first_facts).position;
  pending = λ q. is_pending (slice_index_or s.queues q first_facts);
  waiting = s.device.waiting;
  raised = s.raised;
}

pub told_by_are_told : (s : State) → AreTold s (told_by s)
unfolding told_by
told_by_are_told s = record { registers = refl; waiting = refl; position = λ q few. refl; pending = λ q few. refl; raised = refl }

pub told_by_small : (s : State) → AreSmall s.device.registers → AreSmall (told_by s).registers
unfolding told_by
told_by_small s small = small

-- what a member that stands as its history says answers
pub answer_of : (made : MemberMade) (s : State) (h : List MemberEntry) (call : MemberCall) → Stands made s h
    → answer_by s.device.made (is_some s.killed) (unwrap_or s.killed 0) (facts made h) s.device.memory s.device.disk call ≡ member_answer made h call
answer_of made s h call stands = λ i. answer_by (stands.device i).made (stands.killed i) (stands.floor i) (facts made h) (stands.device i).memory (stands.device i).disk call

-- ---- a step over what is told

few_queues : (kind : Kind) → queue_count kind ≤ 2
few_queues (Block sectors read_only) = omega arith
few_queues (Net mac) = omega arith

-- of a queue that doesn't exist the device may be told anything
abbrev standing_in : State → ℕ → Bool → Facts
standing_in s position pending = record { registers = s.device.registers; position = λ q. position; pending = λ q. pending; waiting = s.device.waiting; raised = 0 }

beyond : (made : MemberMade) (q : ℕ) → 2 ≤ q → nat_lt q (queue_count made.kind) ≡ false
beyond made q many = let few = few_queues made.kind in grind (arith, nat_tests, many, few)

-- facts that the device is told of a queue, which give the same outcome
pub record AreAsGood (made : MemberMade) (s : State) (f : Facts) (q position : ℕ) (pending : Bool) : Type 0 where
  pub others : Facts
  pub told : AreFacts s.device q position pending others
  pub same : outcome made s.device.memory s.device.disk others q ≡ outcome made s.device.memory s.device.disk f q

pub as_good : (made : MemberMade) (s : State) (f : Facts) (q position : ℕ) (pending : Bool) → AreTold s f
    → position ≡ (slice_index_or s.queues q first_facts).position → pending ≡ is_pending (slice_index_or s.queues q first_facts) → AreAsGood made s f q position pending
as_good made s f q position pending told position_is pending_is = elim (cases_lt q 2) [
  | inl few ↦ record {
    others = f;
    told = record { registers = told.registers; waiting = told.waiting; position = told.position q few ∙ sym position_is; pending = told.pending q few ∙ sym pending_is };
    same = refl;
  }
  | inr many ↦ record {
    others = standing_in s position pending;
    told = record { registers = refl; waiting = refl; position = refl; pending = refl };
    same = outcome-beyond made s.device.memory s.device.disk (standing_in s position pending) q (beyond made q many) ∙ sym (outcome-beyond made s.device.memory s.device.disk f q (beyond made q many));
  }
]

-- ---- replies with small vectors

small_access : (kind : Kind) (r : Registers) (command : LegacyCmd) → HasSmallVector (access_answer kind r command)
small_access kind r (CommonWrite offset bytes) = tt
small_access kind r (CommonRead offset count) = tt
small_access kind r (DevWrite offset bytes) = tt
small_access kind r (DevRead offset count) = tt
small_access kind r NotifyInfo = tt

small_choice : (b : Bool) (x y : MemberReply) → HasSmallVector x → HasSmallVector y → HasSmallVector (cond b x y)
small_choice true x y small other = small
small_choice false x y small other = other

small_living : (made : MemberMade) (f : Facts) (memory disk : List ℕ) (call : MemberCall) → AreSmall f.registers → HasSmallVector (living_answer made f memory disk call)
small_living made f memory disk (Act command) small = small_choice (is_refused made.kind f.registers.msix command) (Refused Field) (access_answer made.kind f.registers command) tt (small_access made.kind f.registers command)
small_living made f memory disk (Notify queue) small = tt
small_living made f memory disk (Msix on) small = tt
small_living made f memory disk (MemWrite addr bytes) small = small_choice (fits made addr (length bytes)) Written (Refused Range) tt tt
small_living made f memory disk (MemRead addr count) small = small_choice (fits made addr count) (Data (bytes_at addr count memory)) (Refused Range) tt tt
small_living made f memory disk TakeIrqs small = tt
small_living made f memory disk (Step q) small = (outcome_usual made memory disk f q (small q)).vector
small_living made f memory disk (Arrive frame) small =
    small_choice (not (receives made.kind 0 && is_frame_length (length frame))) (Refused Frame) (cond (nat_le backlog_limit (length f.waiting)) BacklogFull Arrived) tt (small_choice (nat_le backlog_limit (length f.waiting)) BacklogFull Arrived tt tt)
small_living made f memory disk Flr small = tt
small_living made f memory disk Kill small = tt

pub small_answer : (made : MemberMade) (dead : Bool) (floor : ℕ) (f : Facts) (memory disk : List ℕ) (call : MemberCall) → AreSmall f.registers → HasSmallVector (answer_by made dead floor f memory disk call)
small_answer made dead floor f memory disk call small = small_choice (dead && not (is_memory_call call)) (Gone floor) (living_answer made f memory disk call) tt (small_living made f memory disk call small)
