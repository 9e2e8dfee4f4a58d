-- How many bytes buffers that lie in the memory give.
use Rattle.std.proofs.Common.{◌≡◌, ℕ, ◌+◌, ◌≤◌, Bool, true, false, cond, List, [], ◌∷◌, length, refl, ◌∙◌, arith, length-append}
use Rattle.std.specs.Prelude.{◌&&◌, not}
use Rattle.std.specs.List.{list_all, flat_map}
use Rattle.std.proofs.lemmas.Bool.Decides.{nat_tests}
use Rattle.std.proofs.lemmas.List.Sums.{sum_by-cons}
use Rattle.byte_fields.specs.Places.{bytes_at}
use Rattle.byte_fields.proofs.Places.{length-bytes_at}
use Rattle.ring_layout.specs.declared.descriptor.Descriptor.{Descriptor}
use Rattle.ring_layout.specs.Chain.{is_inside, is_written, readable_part, readable_bytes, total_length}

both : (a b : Bool) → (a && b) ≡ true → (a ≡ true) × (b ≡ true)
both true true h = (refl, refl)
both true false h = cc
both false b h = cc

-- a buffer more, where it is one to read
one_more : (mem : List ℕ) (read : Bool) (d : Descriptor) (ds : List Descriptor) → length (bytes_at d.addr d.len mem) ≡ d.len → length (flat_map (λ e. bytes_at e.addr e.len mem) ds) ≡ total_length ds
    → length (flat_map (λ e. bytes_at e.addr e.len mem) (cond read (d ∷ ds) ds)) ≡ total_length (cond read (d ∷ ds) ds)
one_more mem true d ds part rest =
    length-append (bytes_at d.addr d.len mem) (flat_map (λ e. bytes_at e.addr e.len mem) ds) ∙ (let sum = sum_by-cons (λ (e : Descriptor). e.len) d ds in omega (arith, part, rest, sum))
one_more mem false d ds part rest = rest

-- buffers in the memory give as many bytes as they have
pub length-readable_bytes : (mem : List ℕ) (ds : List Descriptor) → list_all (is_inside (length mem)) ds ≡ true → length (readable_bytes mem ds) ≡ total_length (readable_part ds)
length-readable_bytes mem [] inside = refl
length-readable_bytes mem (d ∷ ds) inside =
    let p = both (is_inside (length mem) d) (list_all (is_inside (length mem)) ds) inside in
    let here = p.0 in
    let fits : d.addr + d.len ≤ length mem = grind (arith, nat_tests, here) in
    let rest : length (readable_bytes mem ds) ≡ total_length (readable_part ds) = length-readable_bytes mem ds p.1 in
    let part : length (bytes_at d.addr d.len mem) ≡ d.len = length-bytes_at d.addr d.len mem fits in
    one_more mem (not (is_written d)) d (readable_part ds) part rest
