use Rattle.std.proofs.Common.{◌≡◌, ◌+◌, ◌*◌, ◌++◌, replicate, ap, ◌∙◌, arith}
use Rattle.std.proofs.lemmas.List.{replicate-append-replicate}
use Rattle.guest_mem.proofs.memory.zeros.Goals as goal

pub parts-preserved : goal.parts-preserved
parts-preserved c =
    let next : 1024 * c.parts._part + 1024 ≡ 1024 * (c.parts._part + 1) = omega arith in
    c.in_ok-extend_from_slice.ensures.items
    ∙ ap (λ xs. xs ++ replicate 1024 0) c.parts.invariant
    ∙ replicate-append-replicate (1024 * c.parts._part) 1024 0
    ∙ ap (λ n. replicate n 0) next
