-- What stands at a position of a ring, as a step goes on with it.
use Rattle.std.proofs.Common.{◌≡◌, ℕ, List, sym, ap, ◌∙◌}
use Rattle.ring_layout.specs.declared.layout.Layout.{Layout}
use Rattle.ring_layout.specs.Chain.{available, Found as RingFound, nothing, bad_index, bad_chain, chain as a_chain}
use Rattle.ring_device.specs.Buffers.{Buffers}
use Rattle.ring_device.specs.Answer.{told}
use Rattle.ring_device.specs.declared.next.Found.TheVariants.{Chain, Empty, Bad}
use Rattle.ring_device.specs.declared.next.Bad.TheVariants.{Index, Chain as BrokenChain}
use Rattle.group_calls.specs.declared.member.MemberMade.{MemberMade}
use Rattle.group_calls.specs.declared.member.Halt.TheVariants.{Index as AtIndex, Chain as AtChain}
use Rattle.group_calls.specs.declared.member.MemberReply.TheVariants.{Empty as Nothing, Halted}
use Rattle.group_calls.specs.Facts.{Facts}
use Rattle.group_calls.specs.Steps.{stops, chain_step, found_step}
use Rattle.group_calls.proofs.Stages.{found_step-nothing, found_step-bad_index, found_step-bad_chain, found_step-chain}

module _ (made : MemberMade) (memory disk : List ℕ) (f : Facts) (q : ℕ) (l : Layout) (position : ℕ) where
  pub found_chain : (x : RingFound) (c : Buffers) → Chain c ≡ told memory l position x → chain_step made made.kind memory disk f q l c.parts ≡ found_step made memory disk f q l x
  found_chain nothing c h = cc
  found_chain bad_index c h = cc
  found_chain bad_chain c h = cc
  found_chain (a_chain xs) c h =
      let same : c ≡ record { head = available memory l position; parts = xs } = cc in
      ap (λ (b : Buffers). chain_step made made.kind memory disk f q l b.parts) same ∙ sym (found_step-chain made memory disk f q l xs)

  pub found_nothing : (x : RingFound) → Empty ≡ told memory l position x → stops Nothing ≡ found_step made memory disk f q l x
  found_nothing nothing h = sym (found_step-nothing made memory disk f q l)
  found_nothing bad_index h = cc
  found_nothing bad_chain h = cc
  found_nothing (a_chain xs) h = cc

  pub found_bad_index : (x : RingFound) → Bad Index ≡ told memory l position x → stops (Halted AtIndex) ≡ found_step made memory disk f q l x
  found_bad_index nothing h = cc
  found_bad_index bad_index h = sym (found_step-bad_index made memory disk f q l)
  found_bad_index bad_chain h = cc
  found_bad_index (a_chain xs) h = cc

  pub found_bad_chain : (x : RingFound) → Bad BrokenChain ≡ told memory l position x → stops (Halted AtChain) ≡ found_step made memory disk f q l x
  found_bad_chain nothing h = cc
  found_bad_chain bad_index h = cc
  found_bad_chain bad_chain h = sym (found_step-bad_chain made memory disk f q l)
  found_bad_chain (a_chain xs) h = cc
