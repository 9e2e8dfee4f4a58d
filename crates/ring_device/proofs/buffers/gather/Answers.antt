use Rattle.std.proofs.Common.{◌≡◌, List, [], ◌++◌, length, drop, ap, sym, ◌∙◌}
use Rattle.std.proofs.lemmas.List.{drop_all, append-nil}
use Rattle.ring_layout.specs.declared.descriptor.Descriptor.{Descriptor}
use Rattle.ring_layout.specs.Chain.{readable_bytes}
use Rattle.ring_layout.proofs.Parts.{length-readable_bytes}
use Rattle.ring_device.proofs.buffers.gather.Goals as goal

pub returns-clause-length : goal.returns-clause-length
returns-clause-length c =
    let none : drop c.loop-part.part-index c.parts-parts.result.now ≡ [] = drop_all c.loop-part.part-index c.parts-parts.result.now c.loop-part-test.false in
    let all : c.loop-part.bytes.items ≡ readable_bytes c.args.mem.now c.parts-parts.result.now
    = sym (append-nil c.loop-part.bytes.items) ∙ sym (ap (λ (ds : List Descriptor). c.loop-part.bytes.items ++ readable_bytes c.args.mem.now ds) none) ∙ c.loop-part.invariant in
    ap length (c.from-2.ensures ∙ all ∙ ap (readable_bytes c.args.mem.now) c.parts-parts.ensures) ∙ length-readable_bytes c.args.mem.now c.args.chain.now.parts c.requires
