-- What a step of a queue may answer: no large vector, and an interrupt of ISR only with MSI-X disabled.
use Rattle.std.proofs.Common.{◌≡◌, ℕ, Bool, true, false, cond, List, [], ◌∷◌, Option, Some, None, length, refl, sym, ap, ◌∙◌, subst}
use Rattle.std.specs.Prelude.{◌==◌, ◌&&◌, not, nat_lt}
use Rattle.ring_layout.specs.declared.layout.Layout.{Layout}
use Rattle.ring_layout.specs.declared.descriptor.Descriptor.{Descriptor}
use Rattle.ring_layout.specs.Layout.{legacy_layout}
use Rattle.ring_layout.specs.Chain.{Found, nothing, bad_index, bad_chain, chain, found, writable_part, total_length, readable_bytes, wants_interrupt}
use Rattle.blk_engine.specs.Block.{is_malformed, block_reply, disk_after_request}
use Rattle.net_engine.specs.Frames.{with_header}
use Rattle.legacy_regs.specs.declared.device.Kind.{Kind}
use Rattle.legacy_regs.specs.declared.device.Kind.TheVariants.{Block, Net}
use Rattle.legacy_regs.specs.declared.interrupts.Irq.TheVariants.{Silent, Isr, Vector}
use Rattle.legacy_regs.specs.Registers.{Registers, no_vector, member_ring_size, queue_count, page_number, queue_vector, uses_tables, uses_events}
use Rattle.legacy_regs.specs.Interrupts.{vector_irq, queue_irq}
use Rattle.group_calls.specs.declared.member.MemberMade.{MemberMade}
use Rattle.group_calls.specs.declared.member.Halt.TheVariants.{Ring, Index, Chain, Request}
use Rattle.group_calls.specs.declared.member.MemberReply.{MemberReply}
use Rattle.group_calls.specs.declared.member.MemberReply.TheVariants.{Empty, NotPending, Halted, Dropped, Served}
use Rattle.group_calls.specs.MemberQueues.{receives}
use Rattle.group_calls.specs.Facts.{Facts}
use Rattle.group_calls.specs.Steps.{Outcome, stops, interrupt, service, block_step, receive_step, transmit_step, chain_step, found_step, ring_step, are_none, outcome, outcome_reply}
use Rattle.group_calls.proofs.Stages.{outcome-is, ring_step-none, ring_step-some, found_step-nothing, found_step-bad_index, found_step-bad_chain, found_step-chain, chain_step-block, chain_step-net}
use Rattle.lone_device.specs.Entries.{IsSmall, HasSmallVector}
use Rattle.lone_device.specs.Seen.{FitsRegisters}
use Rattle.lone_device.proofs.Vectors.{is_small, irq_is_small}

-- a reply that raises what these registers let it
pub record IsUsual (r : Registers) (reply : MemberReply) : Type 0 where
  pub vector : HasSmallVector reply
  pub isr : FitsRegisters reply r

stopped : (r : Registers) (reply : MemberReply) → HasSmallVector reply → FitsRegisters reply r → IsUsual r (outcome_reply (stops reply))
stopped r reply small fits = record { vector = small; isr = fits }

module _ (made : MemberMade) (memory disk : List ℕ) (f : Facts) (q : ℕ) (small : is_small (queue_vector f.registers q) ≡ true) where
  abbrev Usual : Outcome → Type 0
  Usual o = IsUsual f.registers (outcome_reply o)

  interrupt_small : (l : Layout) → IsSmall (interrupt memory f q l)
  interrupt_small l = go (wants_interrupt (uses_events f.registers) memory l (f.position q))
    where
      go : (b : Bool) → IsSmall (cond b (queue_irq f.registers q) Silent)
      go true = irq_is_small f.registers q small
      go false = tt

  vector_fits : (vector size : ℕ) (sent : List ℕ) → FitsRegisters (Served size (vector_irq vector) sent) f.registers
  vector_fits vector size sent = go (vector == no_vector)
    where
      go : (b : Bool) → FitsRegisters (Served size (cond b Silent (Vector vector)) sent) f.registers
      go true = tt
      go false = tt

  interrupt_fits : (l : Layout) (size : ℕ) (sent : List ℕ) → FitsRegisters (Served size (interrupt memory f q l) sent) f.registers
  interrupt_fits l size sent = go (wants_interrupt (uses_events f.registers) memory l (f.position q)) f.registers.msix refl
    where
      go : (b m : Bool) → f.registers.msix ≡ m → FitsRegisters (Served size (cond b (cond m (vector_irq (queue_vector f.registers q)) Isr) Silent) sent) f.registers
      go true true is = vector_fits (queue_vector f.registers q) size sent
      go true false is = is
      go false m is = tt

  service_usual : (l : Layout) (ds : List Descriptor) (reply disk_then sent : List ℕ) → Usual (service memory f q l ds reply disk_then sent)
  unfolding service
  service_usual l ds reply disk_then sent = record { vector = interrupt_small l; isr = interrupt_fits l (length reply) sent }

  block_usual : (read_only : Bool) (l : Layout) (ds : List Descriptor) → Usual (block_step made read_only memory disk f q l ds)
  unfolding block_step
  block_usual read_only l ds = go (is_malformed (readable_bytes memory ds) (total_length (writable_part ds)))
    where
      go : (b : Bool) → Usual (cond b (stops (Halted Request)) (service memory f q l ds
          (block_reply made.id read_only disk (readable_bytes memory ds) (total_length (writable_part ds)))
          (disk_after_request read_only disk (readable_bytes memory ds) (total_length (writable_part ds))) []))
      go true = stopped f.registers (Halted Request) tt tt
      go false = service_usual l ds (block_reply made.id read_only disk (readable_bytes memory ds) (total_length (writable_part ds))) (disk_after_request read_only disk (readable_bytes memory ds) (total_length (writable_part ds))) []

  receive_usual : (l : Layout) (ds : List Descriptor) (frames : List (List ℕ)) → Usual (receive_step memory disk f q l ds frames)
  unfolding receive_step
  receive_usual l ds [] = stopped f.registers Empty tt tt
  receive_usual l ds (frame ∷ frames) = go (nat_lt (total_length (writable_part ds)) (length (with_header frame)))
    where
      go : (b : Bool) → Usual (cond b (stops Dropped) (service memory f q l ds (with_header frame) disk []))
      go true = stopped f.registers Dropped tt tt
      go false = service_usual l ds (with_header frame) disk []

  transmit_usual : (l : Layout) (ds : List Descriptor) → Usual (transmit_step memory disk f q l ds)
  unfolding transmit_step
  transmit_usual l ds = service_usual l ds [] disk _

  chain_usual : (kind : Kind) (l : Layout) (ds : List Descriptor) → Usual (chain_step made kind memory disk f q l ds)
  chain_usual (Block sectors read_only) l ds = subst Usual (sym (chain_step-block made memory disk f q sectors read_only l ds)) (block_usual read_only l ds)
  chain_usual (Net mac) l ds = subst Usual (sym (chain_step-net made memory disk f q mac l ds)) (go (q == 0))
    where
      go : (b : Bool) → Usual (cond b (receive_step memory disk f q l ds f.waiting) (transmit_step memory disk f q l ds))
      go true = receive_usual l ds f.waiting
      go false = transmit_usual l ds

  found_usual : (l : Layout) (x : Found) → Usual (found_step made memory disk f q l x)
  found_usual l nothing = subst Usual (sym (found_step-nothing made memory disk f q l)) (stopped f.registers Empty tt tt)
  found_usual l bad_index = subst Usual (sym (found_step-bad_index made memory disk f q l)) (stopped f.registers (Halted Index) tt tt)
  found_usual l bad_chain = subst Usual (sym (found_step-bad_chain made memory disk f q l)) (stopped f.registers (Halted Chain) tt tt)
  found_usual l (chain ds) = subst Usual (sym (found_step-chain made memory disk f q l ds)) (chain_usual made.kind l ds)

  ring_usual : (o : Option Layout) → Usual (ring_step made memory disk f q o)
  ring_usual None = subst Usual (sym (ring_step-none made memory disk f q)) (stopped f.registers (Halted Ring) tt tt)
  ring_usual (Some l) = subst Usual (sym (ring_step-some made memory disk f q l)) (found_usual l (found (uses_tables f.registers) memory l (f.position q)))

  pub outcome_usual : Usual (outcome made memory disk f q)
  outcome_usual = subst Usual (sym (outcome-is made memory disk f q)) (go (not (nat_lt q (queue_count made.kind) && f.pending q)) (receives made.kind q && are_none f.waiting))
    where
      go : (idle lacks : Bool) → Usual (cond idle (stops NotPending) (cond lacks (stops Empty) (ring_step made memory disk f q (legacy_layout (page_number f.registers q) member_ring_size (length memory)))))
      go true lacks = stopped f.registers NotPending tt tt
      go false true = stopped f.registers Empty tt tt
      go false false = ring_usual (legacy_layout (page_number f.registers q) member_ring_size (length memory))

-- a queue that doesn't exist
pub outcome-beyond : (made : MemberMade) (memory disk : List ℕ) (f : Facts) (q : ℕ) → nat_lt q (queue_count made.kind) ≡ false → outcome made memory disk f q ≡ stops NotPending
outcome-beyond made memory disk f q beyond = outcome-is made memory disk f q
    ∙ ap (λ b. cond (not (b && f.pending q)) (stops NotPending) (cond (receives made.kind q && are_none f.waiting) (stops Empty) (ring_step made memory disk f q (legacy_layout (page_number f.registers q) member_ring_size (length memory))))) beyond
