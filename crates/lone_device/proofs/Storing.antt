-- What is stored is what the history says, at first and after each entry.
use Rattle.std.proofs.Common.{◌≡◌, ℕ, zero, suc, ◌<◌, ◌≤◌, Bool, true, false, cond, List, [], ◌∷◌, ◌++◌, drop, length, refl, sym, ap, ◌∙◌, subst, inl, inr, arith}
use Rattle.std.specs.Prelude.{nat_lt, slice_index_or, if◌then◌else◌}
use Rattle.std.proofs.lemmas.Bool.Decides.{nat_tests}
use Rattle.std.proofs.lemmas.Bool.{cases_lt}
use Rattle.ring_layout.specs.declared.layout.Layout.{Layout}
use Rattle.ring_layout.specs.declared.descriptor.Descriptor.{Descriptor}
use Rattle.ring_layout.specs.Chain.{Write, written, scattered, used_writes, event_write, writable_part, available}
use Rattle.legacy_regs.specs.declared.device.Kind.{Kind}
use Rattle.legacy_regs.specs.declared.device.Kind.TheVariants.{Block, Net}
use Rattle.legacy_regs.specs.Registers.{queue_count, uses_events}
use Rattle.group_calls.specs.declared.member.MemberMade.{MemberMade}
use Rattle.group_calls.specs.declared.member.Why.TheVariants.{Range}
use Rattle.group_calls.specs.declared.member.MemberCall.{MemberCall}
use Rattle.group_calls.specs.declared.member.MemberCall.TheVariants.{Act, Notify, Msix, MemWrite, MemRead, TakeIrqs, Step, Arrive, Flr, Kill}
use Rattle.group_calls.specs.declared.member.MemberReply.{MemberReply}
use Rattle.group_calls.specs.declared.member.MemberReply.TheVariants.{Written, Refused, Served}
use Rattle.group_calls.specs.declared.lone.LoneEvent.{LoneEvent}
use Rattle.group_calls.specs.declared.lone.LoneEvent.TheVariants.{Read, Write as Writes, Other as Called}
use Rattle.group_calls.specs.declared.lone.LoneReply.TheVariants.{Other}
use Rattle.group_calls.specs.declared.lone.LoneItem.{LoneItem}
use Rattle.group_calls.specs.MemberEntries.{MemberEntry, is_done, since_reset}
use Rattle.group_calls.specs.Facts.{Facts, facts}
use Rattle.group_calls.specs.Steps.{Outcome, serves, service, interrupt, event_writes, outcome, outcome_reply}
use Rattle.group_calls.specs.Storage.{memory_left, memory_then, memory_after, disk_after}
use Rattle.group_calls.specs.Replay.{disk_left, disk_then}
use Rattle.group_calls.specs.Member.{is_killed, gone_floor, fits, answer_by, mem_write_answer, member_answer}
use Rattle.group_calls.specs.Lone.{device_base, access_of, reply_of, as_history, lone_reply}
use Rattle.group_calls.proofs.Stages.{memory_after-more, disk_after-more}
use Rattle.lone_device.specs.declared.queue.QueueSeen.{QueueSeen}
use Rattle.lone_device.specs.declared.seen.Seen.{Seen}
use Rattle.lone_device.specs.declared.service.Service.{Service}
use Rattle.lone_device.specs.declared.service.Outcome.{Outcome as Found}
use Rattle.lone_device.specs.declared.service.Outcome.TheVariants.{Stops}
use Rattle.lone_device.specs.declared.stored.Stored.{Stored}
use Rattle.lone_device.specs.Entries.{entry}
use Rattle.lone_device.specs.Queues.{unseen, is_pending, queue_seen}
use Rattle.lone_device.specs.Seen.{Stands, waiting, seen_facts}
use Rattle.lone_device.specs.Service.{as_outcome, disk_served, does, Holds, FitsMemory}
use Rattle.lone_device.proofs.Alike.{outcome_alike}
use Rattle.lone_device.proofs.Outcomes.{outcome-beyond}
use Rattle.lone_device.proofs.Noting.{IsAccess}

-- ---- a step over what is seen

few_queues : (kind : Kind) → queue_count kind ≤ 2
few_queues (Block sectors read_only) = omega arith
few_queues (Net mac) = omega arith

beyond : (made : MemberMade) (q : ℕ) → 2 ≤ q → nat_lt q (queue_count made.kind) ≡ false
beyond made q many = let few = few_queues made.kind in grind (arith, nat_tests, many, few)

seen_queue : (made : MemberMade) (s : Seen) (h : List MemberEntry) (q : ℕ) → q < 2 → Stands made s h → slice_index_or s.queues q unseen ≡ queue_seen made.kind (since_reset h) q
seen_queue made s h zero few stands = ap (λ qs. slice_index_or qs 0 unseen) stands.queues
seen_queue made s h (suc zero) few stands = ap (λ qs. slice_index_or qs 1 unseen) stands.queues
seen_queue made s h (suc (suc q)) few stands = absurd (omega arith)

pub waiting_is : (made : MemberMade) (s : Seen) (h : List MemberEntry) → Stands made s h → waiting s.frames ≡ (facts made h).waiting
unfolding facts
waiting_is made s h stands = λ i. drop (stands.left i) (stands.kept i)

pub raised_is : (made : MemberMade) (s : Seen) (h : List MemberEntry) → Stands made s h → s.raised ≡ (facts made h).raised
unfolding facts
raised_is made s h stands = stands.raised

few_alike : (made : MemberMade) (s : Seen) (h : List MemberEntry) (memory disk : List ℕ) (q : ℕ) → q < 2 → Stands made s h → outcome made memory disk (seen_facts s) q ≡ outcome made memory disk (facts made h) q
unfolding facts
few_alike made s h memory disk q few stands =
    outcome_alike made memory disk (seen_facts s) (facts made h) q stands.registers (waiting_is made s h stands)
    (ap (λ (x : QueueSeen). x.position) (seen_queue made s h q few stands)) (ap is_pending (seen_queue made s h q few stands))

pub does_alike : (made : MemberMade) (s : Seen) (h : List MemberEntry) (memory disk : List ℕ) (q : ℕ) → Stands made s h → outcome made memory disk (seen_facts s) q ≡ outcome made memory disk (facts made h) q
does_alike made s h memory disk q stands = elim (cases_lt q 2) [
  | inl few ↦ few_alike made s h memory disk q few stands
  | inr many ↦ outcome-beyond made memory disk (seen_facts s) q (beyond made q many) ∙ sym (outcome-beyond made memory disk (facts made h) q (beyond made q many))
]

module _ (made : MemberMade) (d : Stored) (s : Seen) (h : List MemberEntry) (stands : Stands made s h) (holds : Holds made d h) where
  abbrev by_history : ℕ → Outcome
  by_history q = outcome made (memory_after made h) (disk_after made h) (facts made h) q

  pub does_is : (q : ℕ) → does d s q ≡ by_history q
  does_is q = (λ i. outcome (holds.made_is i) (holds.memory i) (holds.disk i) (seen_facts s) q) ∙ does_alike made s h (memory_after made h) (disk_after made h) q stands

  -- after an entry
  pub holds_after : (later : Stored) (call : MemberCall) (reply : MemberReply) → later.made ≡ d.made → later.memory ≡ memory_then (does d s) d.memory call reply → later.disk ≡ disk_then (does d s) d.disk call reply
      → Holds made later (entry call reply ∷ h)
  holds_after later call reply made_stays memory_is disk_is = record {
    made_is = made_stays ∙ holds.made_is;
    memory = memory_is ∙ (λ i. memory_then (λ q. does_is q i) (holds.memory i) call reply) ∙ sym (memory_after-more made (entry call reply) h);
    disk = disk_is ∙ (λ i. disk_then (λ q. does_is q i) (holds.disk i) call reply) ∙ sym (disk_after-more made (entry call reply) h);
  }

  -- a write of the memory is done where it fits, also of a device that was killed
  pub write_fits : (call : MemberCall) (reply : MemberReply) → reply ≡ member_answer made h call → FitsMemory d.made call reply
  write_fits (MemWrite addr bytes) reply told =
      let done : is_done (mem_write_answer made addr bytes) ≡ fits made addr (length bytes) = either (fits made addr (length bytes)) in
      ap is_done told ∙ lives (is_killed h) ∙ done ∙ sym (ap (λ (m : MemberMade). fits m addr (length bytes)) holds.made_is)
    where
      either : (b : Bool) → is_done (cond b Written (Refused Range)) ≡ b
      either true = refl
      either false = refl

      lives : (dead : Bool) → is_done (answer_by made dead (gone_floor h) (facts made h) (memory_after made h) (disk_after made h) (MemWrite addr bytes)) ≡ is_done (mem_write_answer made addr bytes)
      lives true = refl
      lives false = refl
  write_fits (Act command) reply told = tt
  write_fits (Notify queue) reply told = tt
  write_fits (Msix on) reply told = tt
  write_fits (MemRead addr count) reply told = tt
  write_fits TakeIrqs reply told = tt
  write_fits (Step q) reply told = tt
  write_fits (Arrive frame) reply told = tt
  write_fits Flr reply told = tt
  write_fits Kill reply told = tt

-- ---- an event that was noted

abbrev pub IsAct : MemberCall → Type 0
IsAct (Act command) = Unit {0}
IsAct _ = ⊥

act_stores : (made : MemberMade) (d : Stored) (h : List MemberEntry) (command : MemberCall) (reply : MemberReply) → IsAct command → Holds made d h → Holds made d (entry command reply ∷ h)
act_stores made d h (Act command) reply is holds = record {
  made_is = holds.made_is;
  memory = holds.memory ∙ sym (memory_after-more made (entry (Act command) reply) h);
  disk = holds.disk ∙ sym (disk_after-more made (entry (Act command) reply) h);
}
act_stores made d h _ reply is holds = absurd is

act_choice : (b : Bool) (x y : MemberCall) → IsAct x → IsAct y → IsAct (cond b x y)
act_choice true x y is other = is
act_choice false x y is other = other

access_is_act : (base : ℕ) (event : LoneEvent) → IsAccess event → IsAct (access_of base event)
access_is_act base (Read offset count) is = act_choice (nat_lt offset base) _ _ tt tt
access_is_act base (Writes offset bytes) is = act_choice (nat_lt offset base) _ _ tt tt
access_is_act base (Called call) is = absurd is

pub noted_access : (made : MemberMade) (d : Stored) (items : List LoneItem) (item : LoneItem) → IsAccess item.event → Holds made d (as_history made items) → Holds made d (as_history made (item ∷ items))
noted_access made d items item is holds =
    act_stores made d (as_history made items) (access_of (device_base (as_history made items)) item.event) (reply_of made (as_history made items) item.event item.reply)
    (access_is_act (device_base (as_history made items)) item.event is) holds

module _ (made : MemberMade) (d : Stored) (s : Seen) (items : List LoneItem) (item : LoneItem) (call : MemberCall) (reply : MemberReply)
    (stands : Stands made s (as_history made items)) (holds : Holds made d (as_history made items)) (event_is : item.event ≡ Called call) (reply_is : item.reply ≡ Other reply)
    (replied : item.reply ≡ lone_reply made items item.event)
  where
    told_call : reply ≡ member_answer made (as_history made items) call
    told_call =
        let same : Other reply ≡ Other (member_answer made (as_history made items) call) = sym reply_is ∙ replied ∙ ap (lone_reply made items) event_is in
        cc

    pub call_fits : FitsMemory d.made call reply
    call_fits = write_fits made d s (as_history made items) stands holds call reply told_call

    pub noted_call : (later : Stored) → later.memory ≡ memory_then (does d s) d.memory call reply → later.disk ≡ disk_then (does d s) d.disk call reply → later.made ≡ d.made
        → Holds made later (as_history made (item ∷ items))
    noted_call later memory_is disk_is made_stays =
        let h : List MemberEntry = as_history made items in
        subst (λ (e : MemberEntry). Holds made later (e ∷ h)) (sym (λ i. entry (access_of (device_base h) (event_is i)) (reply_of made h (event_is i) (reply_is i))))
        (holds_after made d s h stands holds later call reply made_stays memory_is disk_is)

-- ---- services

written-append : (ws us : List Write) (memory : List ℕ) → written (ws ++ us) memory ≡ written us (written ws memory)
written-append [] us memory = refl
written-append (w ∷ ws) us memory = written-append ws us _

service-is : (memory : List ℕ) (f : Facts) (q : ℕ) (l : Layout) (ds : List Descriptor) (reply disk sent : List ℕ)
    → service memory f q l ds reply disk sent ≡ serves record {
      reply = reply;
      writes = scattered (writable_part ds) reply ++ used_writes l (f.position q) (available memory l (f.position q)) (length reply) ++ event_writes f q l;
      disk = disk;
      sent = sent;
      irq = interrupt memory f q l;
    }
unfolding service
service-is memory f q l ds reply disk sent = refl

module _ (memory disk : List ℕ) (f : Facts) (q : ℕ) (s : Service) where
  abbrev served : Outcome
  served = service memory f q s.layout s.chain.parts s.reply (disk_served s disk) s.sent

  pub service_reply : Served (length s.reply) (interrupt memory f q s.layout) s.sent ≡ outcome_reply served
  service_reply = rw service-is refl

  -- the memory once the reply is in its chain, the chain in the used ring, and the next position asked for
  pub service_memory : {position head count : ℕ} {event : Bool} {replied used asked : List ℕ}
      → position ≡ f.position q → event ≡ uses_events f.registers → head ≡ available memory s.layout (f.position q) → count ≡ length s.reply
      → replied ≡ written (scattered (writable_part s.chain.parts) s.reply) memory
      → used ≡ written (used_writes s.layout position head count) replied
      → asked ≡ written (if event then event_write s.layout position ∷ [] else []) used
      → asked ≡ memory_left memory served
  service_memory position_is event_is head_is count_is replied_is used_is asked_is =
      let replies : List Write = scattered (writable_part s.chain.parts) s.reply in
      let uses : List Write = used_writes s.layout (f.position q) (available memory s.layout (f.position q)) (length s.reply) in
      let asks : List Write = event_writes f q s.layout in
      asked_is
      ∙ (λ i. written (if event_is i then event_write s.layout (position_is i) ∷ [] else []) (used_is i))
      ∙ (λ i. written asks (written (used_writes s.layout (position_is i) (head_is i) (count_is i)) (replied_is i)))
      ∙ ap (written asks) (sym (written-append replies uses memory))
      ∙ sym (written-append (replies ++ uses) asks memory)
      ∙ sym (ap (memory_left memory) (service-is memory f q s.layout s.chain.parts s.reply (disk_served s disk) s.sent))

  pub service_disk : disk_served s disk ≡ disk_left disk served
  service_disk = rw service-is refl

-- where the code found no service there is none
pub stopped_memory : (memory disk : List ℕ) (f : Facts) (q : ℕ) (o : Found) (reply : MemberReply) → o ≡ Stops reply → memory ≡ memory_left memory (as_outcome memory disk f q o)
stopped_memory memory disk f q o reply is = sym (ap (λ (o : Found). memory_left memory (as_outcome memory disk f q o)) is)

pub stopped_disk : (memory disk : List ℕ) (f : Facts) (q : ℕ) (o : Found) (reply : MemberReply) → o ≡ Stops reply → disk ≡ disk_left disk (as_outcome memory disk f q o)
stopped_disk memory disk f q o reply is = sym (ap (λ (o : Found). disk_left disk (as_outcome memory disk f q o)) is)
