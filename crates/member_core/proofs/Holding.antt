-- What a member's device holds, after one entry more and at first.
use Rattle.std.proofs.Common.{◌≡◌, ℕ, ◌+◌, true, List, [], ◌∷◌, replicate, refl, sym, ap, ◌∙◌}
use Rattle.std.specs.Prelude.{Option}
use Rattle.legacy_regs.specs.declared.device.Kind.{Kind}
use Rattle.legacy_regs.specs.declared.device.Kind.TheVariants.{Block, Net}
use Rattle.legacy_regs.specs.declared.accesses.Space.TheVariants.{Device}
use Rattle.legacy_regs.specs.Fields.{mac_field}
use Rattle.legacy_regs.specs.Registers.{initial_registers}
use Rattle.group_calls.specs.declared.member.MemberMade.{MemberMade}
use Rattle.group_calls.specs.declared.member.MemberCall.{MemberCall}
use Rattle.group_calls.specs.declared.member.MemberCall.TheVariants.{Step}
use Rattle.group_calls.specs.declared.member.MemberReply.{MemberReply}
use Rattle.group_calls.specs.declared.member.MemberReply.TheVariants.{Served}
use Rattle.group_calls.specs.MemberEntries.{MemberEntry, byte_written, since_reset}
use Rattle.group_calls.specs.MemberRegisters.{bytes_left, registers_after}
use Rattle.group_calls.specs.MemberQueues.{is_arrival}
use Rattle.group_calls.specs.Facts.{facts}
use Rattle.group_calls.specs.Steps.{Outcome, stops, serves, outcome, outcome_reply}
use Rattle.group_calls.specs.Storage.{memory_length, disk_length, memory_left, memory_then, memory_after, disk_after}
use Rattle.group_calls.specs.Replay.{disk_left, disk_then}
use Rattle.group_calls.proofs.RegisterSteps.{registers_after-is}
use Rattle.group_calls.proofs.RegisterEntries.{registers_after-more}
use Rattle.group_calls.proofs.Stages.{memory_after-start, disk_after-start, memory_after-more, disk_after-more}
use Rattle.member_device.specs.Device.{Holdings, left_by_step}
use Rattle.member_core.specs.Holding.{holdings, holdings_then}
use Rattle.member_core.proofs.WaitingSteps.{Few, backlog-more}

-- after any entry
pub holdings-more : (made : MemberMade) (who : ℕ) (call : MemberCall) (reply : MemberReply) (past : List MemberEntry) → (is_arrival (record { who = who; call = call; reply = reply }) ≡ true → Few (since_reset past))
    → holdings made (record { who = who; call = call; reply = reply } ∷ past)
    ≡ holdings_then (outcome made (memory_after made past) (disk_after made past) (facts made past)) call reply (holdings made past)
holdings-more made who call reply past few = λ i. record {
  made = made;
  registers = registers_after-more made.kind who call reply past i;
  memory = memory_after-more made (record { who = who; call = call; reply = reply }) past i;
  disk = disk_after-more made (record { who = who; call = call; reply = reply }) past i;
  waiting = backlog-more who call reply past few i;
}

-- ---- a step

stopped_memory : (does : ℕ → Outcome) (q : ℕ) (memory : List ℕ) (reply : MemberReply) → does q ≡ stops reply → memory_then does memory (Step q) reply ≡ memory
stopped_memory does q memory (Served size irq sent) is = ap (memory_left memory) is
stopped_memory does q memory _ is = refl

stopped_disk : (does : ℕ → Outcome) (q : ℕ) (disk : List ℕ) (reply : MemberReply) → does q ≡ stops reply → disk_then does disk (Step q) reply ≡ disk
stopped_disk does q disk (Served size irq sent) is = ap (disk_left disk) is
stopped_disk does q disk _ is = refl

step_memory : (does : ℕ → Outcome) (q : ℕ) (memory : List ℕ) (o : Outcome) → does q ≡ o → memory_left memory o ≡ memory_then does memory (Step q) (outcome_reply o)
step_memory does q memory (stops reply) is = sym (stopped_memory does q memory reply is)
step_memory does q memory (serves s) is = sym (ap (memory_left memory) is)

step_disk : (does : ℕ → Outcome) (q : ℕ) (disk : List ℕ) (o : Outcome) → does q ≡ o → disk_left disk o ≡ disk_then does disk (Step q) (outcome_reply o)
step_disk does q disk (stops reply) is = sym (stopped_disk does q disk reply is)
step_disk does q disk (serves s) is = sym (ap (disk_left disk) is)

pub left_by_step-is : (does : ℕ → Outcome) (q : ℕ) (d : Holdings) → left_by_step q (does q) d ≡ holdings_then does (Step q) (outcome_reply (does q)) d
left_by_step-is does q d = λ i. record (left_by_step q (does q) d) {
  memory = step_memory does q d.memory (does q) refl i;
  disk = step_disk does q d.disk (does q) refl i;
}

-- ---- at first

unwritten : (written : ℕ → MemberEntry → List MemberEntry → Option ℕ) (place : ℕ) (first : List ℕ) → bytes_left written [] place first ≡ first
unwritten written place [] = refl
unwritten written place (byte ∷ rest) = ap (λ bytes. byte ∷ bytes) (unwritten written (place + 1) rest)

registers_after-start : (kind : Kind) → registers_after kind [] ≡ initial_registers kind
registers_after-start (Block sectors read_only) = registers_after-is (Block sectors read_only) []
registers_after-start (Net mac) = registers_after-is (Net mac) []
    ∙ ap (λ bytes. record (initial_registers (Net mac)) { mac = bytes }) (unwritten (λ place e past. byte_written Device place e) mac_field.offset mac)

pub holdings-start : (made : MemberMade) (d : Holdings) → d.made ≡ made → d.registers ≡ initial_registers made.kind → d.memory ≡ replicate (memory_length made) 0 → d.disk ≡ replicate (disk_length made) 0 → d.waiting ≡ []
    → d ≡ holdings made []
holdings-start made d made_is registers memory disk waiting = λ i. record {
  made = made_is i;
  registers = (registers ∙ sym (registers_after-start made.kind)) i;
  memory = (memory ∙ sym (memory_after-start made)) i;
  disk = (disk ∙ sym (disk_after-start made)) i;
  waiting = waiting i;
}
