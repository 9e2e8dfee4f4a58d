-- The outcome of a step, from what is known of its queue.
use Rattle.std.proofs.Common.{◌≡◌, ℕ, true, false, List, length, Some, None, refl, sym, ap, ◌∙◌}
use Rattle.std.specs.Prelude.{nat_lt, not, ◌&&◌}
use Rattle.ring_layout.specs.declared.layout.Layout.{Layout}
use Rattle.ring_layout.specs.Layout.{legacy_layout}
use Rattle.ring_layout.specs.Chain.{found}
use Rattle.legacy_regs.specs.Registers.{member_ring_size, queue_count, page_number, uses_tables}
use Rattle.group_calls.specs.declared.member.MemberMade.{MemberMade}
use Rattle.group_calls.specs.declared.member.Halt.TheVariants.{Ring}
use Rattle.group_calls.specs.declared.member.MemberReply.TheVariants.{NotPending, Empty, Halted}
use Rattle.group_calls.specs.MemberQueues.{receives}
use Rattle.group_calls.specs.Facts.{Facts}
use Rattle.group_calls.specs.Steps.{stops, found_step, ring_step, are_none, outcome}
use Rattle.group_calls.proofs.Stages.{outcome-is, ring_step-none, ring_step-some}

module _ (made : MemberMade) (memory disk : List ℕ) (f : Facts) (q : ℕ) where
  pub outcome_idle : true ≡ not (nat_lt q (queue_count made.kind) && f.pending q) → stops NotPending ≡ outcome made memory disk f q
  outcome_idle idle = sym (outcome-is made memory disk f q ∙ rw (← idle) refl)

  module _ (goes : false ≡ not (nat_lt q (queue_count made.kind) && f.pending q)) where
    pub outcome_without_frame : true ≡ (receives made.kind q && are_none f.waiting) → stops Empty ≡ outcome made memory disk f q
    outcome_without_frame lacks = sym (outcome-is made memory disk f q ∙ rw (← goes, ← lacks) refl)

    module _ (has : false ≡ (receives made.kind q && are_none f.waiting)) where
      outcome_of_ring : outcome made memory disk f q ≡ ring_step made memory disk f q (legacy_layout (page_number f.registers q) member_ring_size (length memory))
      outcome_of_ring = outcome-is made memory disk f q ∙ rw (← goes, ← has) refl

      module _ (page size : ℕ) (page_is : page ≡ page_number f.registers q) (size_is : size ≡ length memory) where
        same_layout : legacy_layout page member_ring_size size ≡ legacy_layout (page_number f.registers q) member_ring_size (length memory)
        same_layout = ap (λ (p : ℕ). legacy_layout p member_ring_size size) page_is ∙ ap (legacy_layout (page_number f.registers q) member_ring_size) size_is

        pub outcome_without_ring : None ≡ legacy_layout page member_ring_size size → stops (Halted Ring) ≡ outcome made memory disk f q
        outcome_without_ring none = sym (outcome_of_ring ∙ ap (ring_step made memory disk f q) (sym (none ∙ same_layout)) ∙ ring_step-none made memory disk f q)

        pub outcome_with_ring : (l : Layout) → Some l ≡ legacy_layout page member_ring_size size → found_step made memory disk f q l (found (uses_tables f.registers) memory l (f.position q)) ≡ outcome made memory disk f q
        outcome_with_ring l some = sym (outcome_of_ring ∙ ap (ring_step made memory disk f q) (sym (some ∙ same_layout)) ∙ ring_step-some made memory disk f q l)
