-- A step looks at the registers, the frames, and one queue's position and whether it is pending: facts that agree in these give the same outcome.
use Rattle.std.proofs.Common.{◌≡◌, ℕ, Bool, List, [], ◌∷◌, length, Option, Some, None, refl, ap, ◌∙◌}
use Rattle.std.specs.Prelude.{nat_lt, not, ◌&&◌, ◌==◌, if◌then◌else◌}
use Rattle.ring_layout.specs.declared.layout.Layout.{Layout}
use Rattle.ring_layout.specs.declared.descriptor.Descriptor.{Descriptor}
use Rattle.ring_layout.specs.Layout.{legacy_layout}
use Rattle.ring_layout.specs.Chain.{Found as RingFound, nothing, bad_index, bad_chain, chain as a_chain, found}
use Rattle.legacy_regs.specs.declared.device.Kind.{Kind}
use Rattle.legacy_regs.specs.declared.device.Kind.TheVariants.{Block, Net}
use Rattle.legacy_regs.specs.Registers.{Registers, member_ring_size, queue_count, page_number, uses_tables}
use Rattle.group_calls.specs.declared.member.MemberMade.{MemberMade}
use Rattle.group_calls.specs.declared.member.MemberReply.TheVariants.{NotPending, Empty}
use Rattle.group_calls.specs.MemberQueues.{receives}
use Rattle.group_calls.specs.Facts.{Facts}
use Rattle.group_calls.specs.Steps.{Outcome, stops, are_none, service, block_step, receive_step, transmit_step, chain_step, found_step, ring_step, outcome}

module _ (made : MemberMade) (memory disk : List ℕ) (f g : Facts) (q : ℕ)
    (registers : f.registers ≡ g.registers) (waiting : f.waiting ≡ g.waiting) (position : f.position q ≡ g.position q) (pending : f.pending q ≡ g.pending q) where
  service_alike : (l : Layout) (ds : List Descriptor) (reply disk' sent : List ℕ) → service memory f q l ds reply disk' sent ≡ service memory g q l ds reply disk' sent
  unfolding service
  service_alike l ds reply disk' sent = rw (position, registers) refl

  block_alike : (ro : Bool) (l : Layout) (ds : List Descriptor) → block_step made ro memory disk f q l ds ≡ block_step made ro memory disk g q l ds
  unfolding block_step
  block_alike ro l ds = rw service_alike refl

  receive_alike : (l : Layout) (ds : List Descriptor) (frames : List (List ℕ)) → receive_step memory disk f q l ds frames ≡ receive_step memory disk g q l ds frames
  unfolding receive_step
  receive_alike l ds [] = refl
  receive_alike l ds (frame ∷ frames) = rw service_alike refl

  transmit_alike : (l : Layout) (ds : List Descriptor) → transmit_step memory disk f q l ds ≡ transmit_step memory disk g q l ds
  unfolding transmit_step
  transmit_alike l ds = service_alike l ds _ _ _

  chain_alike : (kind : Kind) (l : Layout) (ds : List Descriptor) → chain_step made kind memory disk f q l ds ≡ chain_step made kind memory disk g q l ds
  unfolding chain_step
  chain_alike (Block sectors ro) l ds = block_alike ro l ds
  chain_alike (Net mac) l ds =
      ap (λ (o : Outcome). if q == 0 then o else transmit_step memory disk f q l ds) (ap (receive_step memory disk f q l ds) waiting ∙ receive_alike l ds g.waiting)
      ∙ ap (λ (o : Outcome). if q == 0 then receive_step memory disk g q l ds g.waiting else o) (transmit_alike l ds)

  found_alike : (l : Layout) (x : RingFound) → found_step made memory disk f q l x ≡ found_step made memory disk g q l x
  unfolding found_step
  found_alike l nothing = refl
  found_alike l bad_index = refl
  found_alike l bad_chain = refl
  found_alike l (a_chain c) = chain_alike made.kind l c

  ring_alike : (o : Option Layout) → ring_step made memory disk f q o ≡ ring_step made memory disk g q o
  unfolding ring_step
  ring_alike None = refl
  ring_alike (Some l) =
      found_alike l (found (uses_tables f.registers) memory l (f.position q))
      ∙ ap (λ (p : ℕ). found_step made memory disk g q l (found (uses_tables f.registers) memory l p)) position
      ∙ ap (λ (r : Registers). found_step made memory disk g q l (found (uses_tables r) memory l (g.position q))) registers

  abbrev layout_of : Registers → Option Layout
  layout_of r = legacy_layout (page_number r q) member_ring_size (length memory)

  -- the outcome, where its ring has this one
  abbrev chosen : Bool → List (List ℕ) → Outcome → Outcome
  chosen pending waiting ring =
      if not (nat_lt q (queue_count made.kind) && pending) then stops NotPending else
      if receives made.kind q && are_none waiting then stops Empty else
      ring

  pub outcome_alike : outcome made memory disk f q ≡ outcome made memory disk g q
  unfolding outcome
  outcome_alike =
      ap (λ (p : Bool). chosen p f.waiting (ring_step made memory disk f q (layout_of f.registers))) pending
      ∙ ap (λ (w : List (List ℕ)). chosen (g.pending q) w (ring_step made memory disk f q (layout_of f.registers))) waiting
      ∙ ap (λ (r : Registers). chosen (g.pending q) g.waiting (ring_step made memory disk f q (layout_of r))) registers
      ∙ ap (chosen (g.pending q) g.waiting) (ring_alike (layout_of g.registers))
