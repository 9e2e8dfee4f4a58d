-- What is planned for a chain is what its stage of a step says.
use Rattle.std.proofs.Common.{◌≡◌, ℕ, ◌<◌, ◌≤◌, Bool, true, false, List, [], ◌∷◌, length, refl, sym, ap, ◌∙◌, arith}
use Rattle.std.specs.Prelude.{◌==◌, nat_lt, if◌then◌else◌}
use Rattle.std.proofs.lemmas.Bool.Decides.{nat_tests}
use Rattle.ring_layout.specs.declared.layout.Layout.{Layout}
use Rattle.ring_layout.specs.declared.descriptor.Descriptor.{Descriptor}
use Rattle.ring_layout.specs.Chain.{readable_bytes, writable_part, total_length}
use Rattle.blk_engine.specs.declared.service.BlkAnswer.TheVariants.{Reply, Malformed}
use Rattle.blk_engine.specs.Block.{is_malformed, block_reply, disk_after_request, answered, disk_after}
use Rattle.net_engine.specs.Frames.{with_header, transmitted, first_with_header}
use Rattle.legacy_regs.specs.declared.device.Kind.{Kind}
use Rattle.legacy_regs.specs.declared.device.Kind.TheVariants.{Block, Net}
use Rattle.group_calls.specs.declared.member.MemberMade.{MemberMade}
use Rattle.group_calls.specs.declared.member.Halt.TheVariants.{Request}
use Rattle.group_calls.specs.declared.member.MemberReply.TheVariants.{Empty, Halted, Dropped}
use Rattle.group_calls.specs.Facts.{Facts}
use Rattle.group_calls.specs.Steps.{stops, service, frame_or_nothing, block_step, receive_step, transmit_step, chain_step}
use Rattle.group_calls.proofs.Stages.{chain_step-block, chain_step-net}

-- a reply is told of a request that is well formed, and no reply of another
told_reply : (malformed : Bool) (reply bytes : List ℕ) → Reply bytes ≡ (if malformed then Malformed else Reply reply) → (malformed ≡ false) × (bytes ≡ reply)
told_reply true reply bytes told = cc
told_reply false reply bytes told = (refl, cc)

told_malformed : (malformed : Bool) (reply : List ℕ) → Malformed ≡ (if malformed then Malformed else Reply reply) → malformed ≡ true
told_malformed true reply told = refl
told_malformed false reply told = cc

same_service : (memory : List ℕ) (f : Facts) (q : ℕ) (l : Layout) (ds : List Descriptor) (reply reply' disk disk' sent sent' : List ℕ)
    → reply ≡ reply' → disk ≡ disk' → sent ≡ sent' → service memory f q l ds reply disk sent ≡ service memory f q l ds reply' disk' sent'
same_service memory f q l ds reply reply' disk disk' sent sent' r d s = cc

-- ---- block devices

module _ (made : MemberMade) (ro : Bool) (memory disk : List ℕ) (f : Facts) (q : ℕ) (l : Layout) (ds : List Descriptor) where
  block_halts : is_malformed (readable_bytes memory ds) (total_length (writable_part ds)) ≡ true → block_step made ro memory disk f q l ds ≡ stops (Halted Request)
  unfolding block_step
  block_halts test = rw test refl

  block_goes : is_malformed (readable_bytes memory ds) (total_length (writable_part ds)) ≡ false
      → block_step made ro memory disk f q l ds
      ≡ service memory f q l ds (block_reply made.id ro disk (readable_bytes memory ds) (total_length (writable_part ds))) (disk_after_request ro disk (readable_bytes memory ds) (total_length (writable_part ds))) []
  unfolding block_step
  block_goes test = rw test refl

  module _ (request : List ℕ) (writable : ℕ) (request_is : request ≡ readable_bytes memory ds) (writable_is : writable ≡ total_length (writable_part ds)) where
    same_test : is_malformed request writable ≡ is_malformed (readable_bytes memory ds) (total_length (writable_part ds))
    same_test = ap (λ (r : List ℕ). is_malformed r writable) request_is ∙ ap (is_malformed (readable_bytes memory ds)) writable_is

    pub block_is_halted : Malformed ≡ answered made.id ro disk request writable → stops (Halted Request) ≡ block_step made ro memory disk f q l ds
    block_is_halted told =
        let bad : is_malformed request writable ≡ true = told_malformed (is_malformed request writable) (block_reply made.id ro disk request writable) told in
        sym (block_halts (sym same_test ∙ bad))

    pub block_is_served : (reply left : List ℕ) → Reply reply ≡ answered made.id ro disk request writable → left ≡ disk_after ro disk request writable
        → service memory f q l ds reply left [] ≡ block_step made ro memory disk f q l ds
    block_is_served reply left told left_is =
        let both : (is_malformed request writable ≡ false) × (reply ≡ block_reply made.id ro disk request writable) = told_reply (is_malformed request writable) (block_reply made.id ro disk request writable) reply told in
        let well : is_malformed (readable_bytes memory ds) (total_length (writable_part ds)) ≡ false = sym same_test ∙ both.0 in
        let reply_is : reply ≡ block_reply made.id ro disk (readable_bytes memory ds) (total_length (writable_part ds)) = both.1 ∙ ap (λ (r : List ℕ). block_reply made.id ro disk r writable) request_is ∙ ap (block_reply made.id ro disk (readable_bytes memory ds)) writable_is in
        let disk_is : disk_after ro disk request writable ≡ disk_after_request ro disk (readable_bytes memory ds) (total_length (writable_part ds)) = ap (λ (r : List ℕ). disk_after ro disk r writable) request_is ∙ ap (disk_after ro disk (readable_bytes memory ds)) writable_is ∙ rw well refl in
        same_service memory f q l ds reply _ left _ [] [] reply_is (left_is ∙ disk_is) refl ∙ sym (block_goes well)

-- ---- network devices

module _ (memory disk : List ℕ) (f : Facts) (q : ℕ) (l : Layout) (ds : List Descriptor) where
  pub receive_is_empty : (waiting : List (List ℕ)) → length waiting ≡ 0 → stops Empty ≡ receive_step memory disk f q l ds waiting
  unfolding receive_step
  receive_is_empty [] none = refl
  receive_is_empty (frame ∷ frames) none = absurd (omega arith)

  pub receive_is_dropped : (waiting : List (List ℕ)) (writable : ℕ) → 0 < length waiting → writable ≡ total_length (writable_part ds) → writable < length (first_with_header waiting)
      → stops Dropped ≡ receive_step memory disk f q l ds waiting
  unfolding receive_step
  receive_is_dropped [] writable some writable_is short = absurd (omega arith)
  receive_is_dropped (frame ∷ frames) writable some writable_is short =
      let less : total_length (writable_part ds) < length (with_header frame) = omega (arith, writable_is) in
      let test : nat_lt (total_length (writable_part ds)) (length (with_header frame)) ≡ true = grind (arith, nat_tests, less) in
      rw test refl

  pub receive_is_served : (waiting : List (List ℕ)) (reply : List ℕ) (writable : ℕ) → 0 < length waiting → reply ≡ first_with_header waiting → writable ≡ total_length (writable_part ds) → length (first_with_header waiting) ≤ writable
      → service memory f q l ds reply disk [] ≡ receive_step memory disk f q l ds waiting
  unfolding receive_step
  receive_is_served [] reply writable some reply_is writable_is fits = absurd (omega arith)
  receive_is_served (frame ∷ frames) reply writable some reply_is writable_is fits =
      let most : length (with_header frame) ≤ total_length (writable_part ds) = omega (arith, writable_is) in
      let test : nat_lt (total_length (writable_part ds)) (length (with_header frame)) ≡ false = grind (arith, nat_tests, most) in
      rw test (same_service memory f q l ds reply _ disk disk [] [] reply_is refl refl)

  pub transmit_is_served : (request sent : List ℕ) → request ≡ readable_bytes memory ds → sent ≡ frame_or_nothing (transmitted request)
      → service memory f q l ds [] disk sent ≡ transmit_step memory disk f q l ds
  unfolding transmit_step
  transmit_is_served request sent request_is sent_is =
      same_service memory f q l ds [] [] disk disk sent _ refl refl (sent_is ∙ ap (λ (r : List ℕ). frame_or_nothing (transmitted r)) request_is)

-- ---- the chain of a queue

module _ (made : MemberMade) (memory disk : List ℕ) (f : Facts) (q : ℕ) (l : Layout) (ds : List Descriptor) where
  pub chain_of_block : (sectors : ℕ) (ro : Bool) → made.kind ≡ Block sectors ro → block_step made ro memory disk f q l ds ≡ chain_step made made.kind memory disk f q l ds
  chain_of_block sectors ro kind = sym (ap (λ (k : Kind). chain_step made k memory disk f q l ds) kind ∙ chain_step-block made memory disk f q sectors ro l ds)

  chain_of_net : (mac : List ℕ) → made.kind ≡ Net mac → chain_step made made.kind memory disk f q l ds ≡ (if q == 0 then receive_step memory disk f q l ds f.waiting else transmit_step memory disk f q l ds)
  chain_of_net mac kind = ap (λ (k : Kind). chain_step made k memory disk f q l ds) kind ∙ chain_step-net made memory disk f q mac l ds

  pub chain_of_receive : (mac : List ℕ) (waiting : List (List ℕ)) → made.kind ≡ Net mac → q ≡ 0 → f.waiting ≡ waiting → receive_step memory disk f q l ds waiting ≡ chain_step made made.kind memory disk f q l ds
  chain_of_receive mac waiting kind first frames =
      let test : (q == 0) ≡ true = grind (arith, nat_tests, first) in
      sym (chain_of_net mac kind ∙ rw test (ap (receive_step memory disk f q l ds) frames))

  pub chain_of_transmit : (mac : List ℕ) → made.kind ≡ Net mac → ¬ (q ≡ 0) → transmit_step memory disk f q l ds ≡ chain_step made made.kind memory disk f q l ds
  chain_of_transmit mac kind other =
      let test : (q == 0) ≡ false = grind (arith, nat_tests, other) in
      sym (chain_of_net mac kind ∙ rw test refl)
