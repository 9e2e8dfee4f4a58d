-- A step that is answered NotPending finds its queue not pending.
use Rattle.std.proofs.Common.{◌≡◌, ℕ, ◌<◌, Bool, true, false, cond, List, [], ◌∷◌, Option, None, Some, length, refl, sym, ap, ◌∙◌, arith, true≢false}
use Rattle.std.specs.Prelude.{◌==◌, ◌&&◌, not, nat_lt}
use Rattle.std.proofs.lemmas.Bool.Decides.{nat_tests}
use Rattle.ring_layout.specs.declared.layout.Layout.{Layout}
use Rattle.ring_layout.specs.declared.descriptor.Descriptor.{Descriptor}
use Rattle.ring_layout.specs.Layout.{legacy_layout}
use Rattle.ring_layout.specs.Chain.{Found, nothing, bad_index, bad_chain, chain, found, writable_part, total_length, readable_bytes}
use Rattle.blk_engine.specs.Block.{is_malformed}
use Rattle.net_engine.specs.Frames.{with_header}
use Rattle.legacy_regs.specs.declared.device.Kind.{Kind}
use Rattle.legacy_regs.specs.declared.device.Kind.TheVariants.{Block, Net}
use Rattle.legacy_regs.specs.Registers.{member_ring_size, queue_count, page_number, uses_tables}
use Rattle.history.specs.Places.{entry_at, before}
use Rattle.group_calls.specs.declared.member.MemberMade.{MemberMade}
use Rattle.group_calls.specs.declared.member.MemberCall.TheVariants.{Step}
use Rattle.group_calls.specs.declared.member.Halt.TheVariants.{Request}
use Rattle.group_calls.specs.declared.member.MemberReply.{MemberReply}
use Rattle.group_calls.specs.declared.member.MemberReply.TheVariants.{Empty, NotPending, Halted, Dropped}
use Rattle.group_calls.specs.MemberEntries.{MemberEntry, since_reset}
use Rattle.group_calls.specs.MemberQueues.{receives, is_pending}
use Rattle.group_calls.specs.Facts.{Facts, facts}
use Rattle.group_calls.specs.Steps.{Outcome, stops, service, block_step, receive_step, transmit_step, chain_step, found_step, ring_step, are_none, outcome, outcome_reply}
use Rattle.group_calls.specs.Storage.{memory_after, disk_after}
use Rattle.group_calls.specs.Member.{IsLegalMember}
use Rattle.group_calls.proofs.Stages.{outcome-is}
use Rattle.member_laws.specs.Ends.{killed}
use Rattle.member_laws.proofs.Ends.{by_end, answered_at}

abbrev is_idle : MemberReply → Bool
is_idle reply = elim reply [ NotPending ↦ true | _ ↦ false ]

abbrev Acts : Outcome → Type 0
Acts o = is_idle (outcome_reply o) ≡ false

either : (b : Bool) (x y : Outcome) → Acts x → Acts y → Acts (cond b x y)
either true x y a c = a
either false x y a c = c

module _ (made : MemberMade) (memory disk : List ℕ) (f : Facts) (q : ℕ) where
  service_acts : (l : Layout) (ds : List Descriptor) (reply disk_then sent : List ℕ) → Acts (service memory f q l ds reply disk_then sent)
  unfolding service
  service_acts l ds reply disk_then sent = refl

  block_acts : (read_only : Bool) (l : Layout) (ds : List Descriptor) → Acts (block_step made read_only memory disk f q l ds)
  unfolding block_step
  block_acts read_only l ds =
      either (is_malformed (readable_bytes memory ds) (total_length (writable_part ds))) (stops (Halted Request)) _ refl (service_acts l ds _ _ _)

  receive_acts : (l : Layout) (ds : List Descriptor) (frames : List (List ℕ)) → Acts (receive_step memory disk f q l ds frames)
  unfolding receive_step
  receive_acts l ds [] = refl
  receive_acts l ds (frame ∷ frames) =
      either (nat_lt (total_length (writable_part ds)) (length (with_header frame))) (stops Dropped) _ refl (service_acts l ds _ _ _)

  transmit_acts : (l : Layout) (ds : List Descriptor) → Acts (transmit_step memory disk f q l ds)
  unfolding transmit_step
  transmit_acts l ds = service_acts l ds _ _ _

  chain_acts : (kind : Kind) (l : Layout) (ds : List Descriptor) → Acts (chain_step made kind memory disk f q l ds)
  unfolding chain_step
  chain_acts (Block sectors read_only) l ds = block_acts read_only l ds
  chain_acts (Net mac) l ds = either (q == 0) _ _ (receive_acts l ds f.waiting) (transmit_acts l ds)

  found_acts : (l : Layout) (it : Found) → Acts (found_step made memory disk f q l it)
  unfolding found_step
  found_acts l nothing = refl
  found_acts l bad_index = refl
  found_acts l bad_chain = refl
  found_acts l (chain c) = chain_acts made.kind l c

  ring_acts : (o : Option Layout) → Acts (ring_step made memory disk f q o)
  unfolding ring_step
  ring_acts None = refl
  ring_acts (Some l) = found_acts l (found (uses_tables f.registers) memory l (f.position q))

  -- a queue that exists and is pending is served, or halts, or finds nothing
  idle_outcome : q < queue_count made.kind → outcome_reply (outcome made memory disk f q) ≡ NotPending → f.pending q ≡ false
  idle_outcome exists is = go (f.pending q) refl
    where
      go : (b : Bool) → f.pending q ≡ b → f.pending q ≡ false
      go false idle = idle
      go true pending =
          let there : nat_lt q (queue_count made.kind) ≡ true = grind (arith, nat_tests, exists) in
          let rest : Outcome = cond (receives made.kind q && are_none f.waiting) (stops Empty) (ring_step made memory disk f q (legacy_layout (page_number f.registers q) member_ring_size (length memory))) in
          let acts : is_idle (outcome_reply rest) ≡ false = either (receives made.kind q && are_none f.waiting) (stops Empty) _ refl (ring_acts (legacy_layout (page_number f.registers q) member_ring_size (length memory))) in
          let now : outcome made memory disk f q ≡ rest = outcome-is made memory disk f q ∙ (λ i. cond (not (there i && pending i)) (stops NotPending) rest) in
          absurd (true≢false (sym (ap is_idle (sym (ap outcome_reply now) ∙ is)) ∙ acts))

-- at its place in a legal history
pub idle_at : (made : MemberMade) (h : List MemberEntry) (p who q : ℕ) → IsLegalMember made h → q < queue_count made.kind → entry_at p h ≡ Some (record { who = who; call = Step q; reply = NotPending })
    → is_pending made.kind (since_reset (before p h)) q ≡ false
unfolding facts
idle_at made h p who q legal exists at = go (killed (before p h)) refl
  where
    answered : NotPending ≡ by_end made (killed (before p h)) (facts made (before p h)) (memory_after made (before p h)) (disk_after made (before p h)) (Step q)
    answered = answered_at made h p (record { who = who; call = Step q; reply = NotPending }) legal at

    go : (o : Option ℕ) → killed (before p h) ≡ o → is_pending made.kind (since_reset (before p h)) q ≡ false
    go None lives =
        idle_outcome made (memory_after made (before p h)) (disk_after made (before p h)) (facts made (before p h)) q exists
        (sym (answered ∙ ap (λ (o : Option ℕ). by_end made o (facts made (before p h)) (memory_after made (before p h)) (disk_after made (before p h)) (Step q)) lives))
    go (Some n) dead =
        let gone = answered ∙ ap (λ (o : Option ℕ). by_end made o (facts made (before p h)) (memory_after made (before p h)) (disk_after made (before p h)) (Step q)) dead in
        absurd (cc)
