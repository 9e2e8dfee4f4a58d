-- What a step of a queue may answer: a small vector, and Dropped by queue 0 alone; and a frame leaves only where one waits.
use Rattle.std.proofs.Common.{◌≡◌, ℕ, Bool, true, false, cond, List, [], ◌∷◌, Option, Some, None, length, refl, sym, ap, ◌∙◌, subst}
use Rattle.std.specs.Prelude.{◌==◌, ◌||◌, ◌&&◌, not, nat_lt}
use Rattle.ring_layout.specs.declared.layout.Layout.{Layout}
use Rattle.ring_layout.specs.declared.descriptor.Descriptor.{Descriptor}
use Rattle.ring_layout.specs.Layout.{legacy_layout}
use Rattle.ring_layout.specs.Chain.{Found, nothing, bad_index, bad_chain, chain, found, writable_part, total_length, readable_bytes, wants_interrupt}
use Rattle.blk_engine.specs.Block.{is_malformed, block_reply, disk_after_request}
use Rattle.net_engine.specs.Frames.{with_header}
use Rattle.legacy_regs.specs.declared.device.Kind.{Kind}
use Rattle.legacy_regs.specs.declared.device.Kind.TheVariants.{Block, Net}
use Rattle.legacy_regs.specs.declared.interrupts.Irq.TheVariants.{Silent}
use Rattle.legacy_regs.specs.Registers.{member_ring_size, queue_count, page_number, queue_vector, uses_tables, uses_events}
use Rattle.legacy_regs.specs.Interrupts.{queue_irq}
use Rattle.group_calls.specs.declared.member.MemberMade.{MemberMade}
use Rattle.group_calls.specs.declared.member.Halt.TheVariants.{Ring, Index, Chain, Request}
use Rattle.group_calls.specs.declared.member.MemberReply.{MemberReply}
use Rattle.group_calls.specs.declared.member.MemberReply.TheVariants.{Empty, NotPending, Halted, Dropped}
use Rattle.group_calls.specs.MemberQueues.{receives, is_served, is_dropped}
use Rattle.group_calls.specs.Facts.{Facts}
use Rattle.group_calls.specs.Steps.{Outcome, stops, interrupt, service, block_step, receive_step, transmit_step, chain_step, found_step, ring_step, are_none, outcome, outcome_reply}
use Rattle.group_calls.proofs.Stages.{outcome-is, ring_step-none, ring_step-some, found_step-nothing, found_step-bad_index, found_step-bad_chain, found_step-chain, chain_step-block, chain_step-net}
use Rattle.member_core.specs.Vectors.{is_small, IsSmall, HasSmallVector}
use Rattle.member_core.proofs.SmallVectors.{irq_is_small}

-- what an outcome of queue q is like
pub record IsUsual (q : ℕ) (o : Outcome) : Type 0 where
  pub vector : HasSmallVector (outcome_reply o)
  pub drops : (q == 0) ≡ false → is_dropped (outcome_reply o) ≡ false

halts_usual : (q : ℕ) (reply : MemberReply) → HasSmallVector reply → is_dropped reply ≡ false → IsUsual q (stops reply)
halts_usual q reply small drops = record { vector = small; drops = λ other. drops }

module _ (made : MemberMade) (memory disk : List ℕ) (f : Facts) (q : ℕ) (small : is_small (queue_vector f.registers q) ≡ true) where
  interrupt_small : (l : Layout) → IsSmall (interrupt memory f q l)
  interrupt_small l = go (wants_interrupt (uses_events f.registers) memory l (f.position q))
    where
      go : (b : Bool) → IsSmall (cond b (queue_irq f.registers q) Silent)
      go true = irq_is_small f.registers q small
      go false = tt

  service_usual : (l : Layout) (ds : List Descriptor) (reply disk_then sent : List ℕ) → IsUsual q (service memory f q l ds reply disk_then sent)
  unfolding service
  service_usual l ds reply disk_then sent = record { vector = interrupt_small l; drops = λ other. refl }

  block_usual : (read_only : Bool) (l : Layout) (ds : List Descriptor) → IsUsual q (block_step made read_only memory disk f q l ds)
  unfolding block_step
  block_usual read_only l ds = go (is_malformed (readable_bytes memory ds) (total_length (writable_part ds)))
    where
      go : (b : Bool) → IsUsual q (cond b (stops (Halted Request)) (service memory f q l ds
          (block_reply made.id read_only disk (readable_bytes memory ds) (total_length (writable_part ds)))
          (disk_after_request read_only disk (readable_bytes memory ds) (total_length (writable_part ds))) []))
      go true = halts_usual q (Halted Request) tt refl
      go false = service_usual l ds (block_reply made.id read_only disk (readable_bytes memory ds) (total_length (writable_part ds))) (disk_after_request read_only disk (readable_bytes memory ds) (total_length (writable_part ds))) []

  receive_usual : (q == 0) ≡ true → (l : Layout) (ds : List Descriptor) (frames : List (List ℕ)) → IsUsual q (receive_step memory disk f q l ds frames)
  unfolding receive_step
  receive_usual first l ds [] = halts_usual q Empty tt refl
  receive_usual first l ds (frame ∷ frames) = go (nat_lt (total_length (writable_part ds)) (length (with_header frame)))
    where
      go : (b : Bool) → IsUsual q (cond b (stops Dropped) (service memory f q l ds (with_header frame) disk []))
      go true = record { vector = tt; drops = λ other. (let no : true ≡ false = sym first ∙ other in cc) }
      go false = service_usual l ds (with_header frame) disk []

  transmit_usual : (l : Layout) (ds : List Descriptor) → IsUsual q (transmit_step memory disk f q l ds)
  unfolding transmit_step
  transmit_usual l ds = service_usual l ds [] disk _

  chain_usual : (kind : Kind) (l : Layout) (ds : List Descriptor) → IsUsual q (chain_step made kind memory disk f q l ds)
  chain_usual (Block sectors read_only) l ds = subst (IsUsual q) (sym (chain_step-block made memory disk f q sectors read_only l ds)) (block_usual read_only l ds)
  chain_usual (Net mac) l ds = subst (IsUsual q) (sym (chain_step-net made memory disk f q mac l ds)) (go (q == 0) refl)
    where
      go : (b : Bool) → (q == 0) ≡ b → IsUsual q (cond b (receive_step memory disk f q l ds f.waiting) (transmit_step memory disk f q l ds))
      go true first = receive_usual first l ds f.waiting
      go false other = transmit_usual l ds

  found_usual : (l : Layout) (x : Found) → IsUsual q (found_step made memory disk f q l x)
  found_usual l nothing = subst (IsUsual q) (sym (found_step-nothing made memory disk f q l)) (halts_usual q Empty tt refl)
  found_usual l bad_index = subst (IsUsual q) (sym (found_step-bad_index made memory disk f q l)) (halts_usual q (Halted Index) tt refl)
  found_usual l bad_chain = subst (IsUsual q) (sym (found_step-bad_chain made memory disk f q l)) (halts_usual q (Halted Chain) tt refl)
  found_usual l (chain c) = subst (IsUsual q) (sym (found_step-chain made memory disk f q l c)) (chain_usual made.kind l c)

  ring_usual : (o : Option Layout) → IsUsual q (ring_step made memory disk f q o)
  ring_usual None = subst (IsUsual q) (sym (ring_step-none made memory disk f q)) (halts_usual q (Halted Ring) tt refl)
  ring_usual (Some l) = subst (IsUsual q) (sym (ring_step-some made memory disk f q l)) (found_usual l (found (uses_tables f.registers) memory l (f.position q)))

  pub outcome_usual : IsUsual q (outcome made memory disk f q)
  outcome_usual = subst (IsUsual q) (sym (outcome-is made memory disk f q)) (go (not (nat_lt q (queue_count made.kind) && f.pending q)) (receives made.kind q && are_none f.waiting))
    where
      go : (b z : Bool) → IsUsual q (cond b (stops NotPending) (cond z (stops Empty) (ring_step made memory disk f q (legacy_layout (page_number f.registers q) member_ring_size (length memory)))))
      go true z = halts_usual q NotPending tt refl
      go false true = halts_usual q Empty tt refl
      go false false = ring_usual (legacy_layout (page_number f.registers q) member_ring_size (length memory))

-- a queue that doesn't exist
pub outcome-beyond : (made : MemberMade) (memory disk : List ℕ) (f : Facts) (q : ℕ) → nat_lt q (queue_count made.kind) ≡ false → outcome made memory disk f q ≡ stops NotPending
outcome-beyond made memory disk f q beyond = outcome-is made memory disk f q
    ∙ ap (λ b. cond (not (b && f.pending q)) (stops NotPending) (cond (receives made.kind q && are_none f.waiting) (stops Empty) (ring_step made memory disk f q (legacy_layout (page_number f.registers q) member_ring_size (length memory))))) beyond

-- ---- a frame leaves only where one waits

-- the frame that waits first leaves with this reply to a step of queue q
abbrev pub leaves : ℕ → MemberReply → Bool
leaves q reply = ((q == 0) && is_served reply) || is_dropped reply

pub none_leaves : (q : ℕ) (reply : MemberReply) → is_served reply ≡ false → is_dropped reply ≡ false → leaves q reply ≡ false
none_leaves q reply served dropped = go (q == 0)
  where
    go : (b : Bool) → ((b && is_served reply) || is_dropped reply) ≡ false
    go true = (λ i. served i || dropped i)
    go false = dropped

receives_first : (kind : Kind) (q : ℕ) → receives kind 0 ≡ true → (q == 0) ≡ true → receives kind q ≡ true
receives_first (Block sectors read_only) q takes first = takes
receives_first (Net mac) q takes first = first

stopped_none : (q : ℕ) (b : Bool) → leaves q (outcome_reply (cond b (stops NotPending) (stops Empty))) ≡ false
stopped_none q true = none_leaves q NotPending refl refl
stopped_none q false = none_leaves q Empty refl refl

module _ (made : MemberMade) (memory disk : List ℕ) (f : Facts) (q : ℕ) (small : is_small (queue_vector f.registers q) ≡ true) (takes : receives made.kind 0 ≡ true) where
  none_waits : are_none f.waiting ≡ true → leaves q (outcome_reply (outcome made memory disk f q)) ≡ false
  none_waits none = go (q == 0) refl
    where
      go : (b : Bool) → (q == 0) ≡ b → leaves q (outcome_reply (outcome made memory disk f q)) ≡ false
      go true first = ap (λ o. leaves q (outcome_reply o)) (outcome-is made memory disk f q
          ∙ (λ i. cond (not (nat_lt q (queue_count made.kind) && f.pending q)) (stops NotPending) (cond (receives_first made.kind q takes first i && none i) (stops Empty)
          (ring_step made memory disk f q (legacy_layout (page_number f.registers q) member_ring_size (length memory))))))
          ∙ stopped_none q (not (nat_lt q (queue_count made.kind) && f.pending q))
      go false other = λ i. (other i && is_served (outcome_reply (outcome made memory disk f q))) || (outcome_usual made memory disk f q small).drops other i

  pub leaving : leaves q (outcome_reply (outcome made memory disk f q)) ≡ true → are_none f.waiting ≡ false
  leaving gone = go (are_none f.waiting) refl
    where
      go : (b : Bool) → are_none f.waiting ≡ b → are_none f.waiting ≡ false
      go true none = let no : true ≡ false = sym gone ∙ none_waits none in cc
      go false some = some
