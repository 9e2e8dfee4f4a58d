-- The stages of a step, and memory and disk after one entry more: what each folded definition says.
use Rattle.std.proofs.Common.{◌≡◌, ℕ, Bool, List, [], ◌∷◌, length, replicate, Some, None, refl}
use Rattle.std.specs.Prelude.{◌==◌, ◌&&◌, not, nat_lt, if◌then◌else◌}
use Rattle.ring_layout.specs.declared.layout.Layout.{Layout}
use Rattle.ring_layout.specs.declared.descriptor.Descriptor.{Descriptor}
use Rattle.ring_layout.specs.Layout.{legacy_layout}
use Rattle.ring_layout.specs.Chain.{nothing, bad_index, bad_chain, chain, found}
use Rattle.legacy_regs.specs.declared.device.Kind.TheVariants.{Block, Net}
use Rattle.legacy_regs.specs.Registers.{member_ring_size, queue_count, page_number, uses_tables}
use Rattle.group_calls.specs.declared.member.MemberMade.{MemberMade}
use Rattle.group_calls.specs.declared.member.Halt.TheVariants.{Ring, Index, Chain}
use Rattle.group_calls.specs.declared.member.MemberReply.TheVariants.{Empty, NotPending, Halted}
use Rattle.group_calls.specs.MemberEntries.{MemberEntry}
use Rattle.group_calls.specs.MemberQueues.{receives}
use Rattle.group_calls.specs.Facts.{Facts, facts}
use Rattle.group_calls.specs.Steps.{stops, block_step, receive_step, transmit_step, chain_step, found_step, ring_step, are_none, outcome}
use Rattle.group_calls.specs.Storage.{zeros, memory_length, disk_length, memory_then, memory_from, memory_after, disk_after}
use Rattle.group_calls.specs.Replay.{disk_then}
use Rattle.group_calls.proofs.Disks.{memory_from-more, disk_from-more, disk_from-start}

module _ (made : MemberMade) (memory disk : List ℕ) (f : Facts) (q : ℕ) where
  pub outcome-is : outcome made memory disk f q ≡ (
      if not (nat_lt q (queue_count made.kind) && f.pending q) then stops NotPending else
      if receives made.kind q && are_none f.waiting then stops Empty else
      ring_step made memory disk f q (legacy_layout (page_number f.registers q) member_ring_size (length memory)))
  unfolding outcome
  outcome-is = refl

  pub ring_step-none : ring_step made memory disk f q None ≡ stops (Halted Ring)
  unfolding ring_step
  ring_step-none = refl

  pub ring_step-some : (l : Layout) → ring_step made memory disk f q (Some l) ≡ found_step made memory disk f q l (found (uses_tables f.registers) memory l (f.position q))
  unfolding ring_step
  ring_step-some l = refl

  pub found_step-nothing : (l : Layout) → found_step made memory disk f q l nothing ≡ stops Empty
  unfolding found_step
  found_step-nothing l = refl

  pub found_step-bad_index : (l : Layout) → found_step made memory disk f q l bad_index ≡ stops (Halted Index)
  unfolding found_step
  found_step-bad_index l = refl

  pub found_step-bad_chain : (l : Layout) → found_step made memory disk f q l bad_chain ≡ stops (Halted Chain)
  unfolding found_step
  found_step-bad_chain l = refl

  pub found_step-chain : (l : Layout) (ds : List Descriptor) → found_step made memory disk f q l (chain ds) ≡ chain_step made made.kind memory disk f q l ds
  unfolding found_step
  found_step-chain l ds = refl

  pub chain_step-block : (sectors : ℕ) (read_only : Bool) (l : Layout) (ds : List Descriptor)
      → chain_step made (Block sectors read_only) memory disk f q l ds ≡ block_step made read_only memory disk f q l ds
  unfolding chain_step
  chain_step-block sectors read_only l ds = refl

  pub chain_step-net : (mac : List ℕ) (l : Layout) (ds : List Descriptor)
      → chain_step made (Net mac) memory disk f q l ds ≡ (if q == 0 then receive_step memory disk f q l ds f.waiting else transmit_step memory disk f q l ds)
  unfolding chain_step
  chain_step-net mac l ds = refl

module _ (made : MemberMade) where
  pub memory_after-start : memory_after made [] ≡ replicate (memory_length made) 0
  unfolding memory_from
  memory_after-start = refl

  pub disk_after-start : disk_after made [] ≡ replicate (disk_length made) 0
  disk_after-start = disk_from-start (zeros made) made

  pub memory_after-more : (e : MemberEntry) (past : List MemberEntry)
      → memory_after made (e ∷ past) ≡ memory_then (outcome made (memory_after made past) (disk_after made past) (facts made past)) (memory_after made past) e.call e.reply
  memory_after-more e past = memory_from-more (zeros made) made e past

  pub disk_after-more : (e : MemberEntry) (past : List MemberEntry)
      → disk_after made (e ∷ past) ≡ disk_then (outcome made (memory_after made past) (disk_after made past) (facts made past)) (disk_after made past) e.call e.reply
  disk_after-more e past = disk_from-more (zeros made) made e past
