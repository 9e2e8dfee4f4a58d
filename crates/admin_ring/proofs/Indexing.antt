-- A table whose note changes, and not its number.
use Rattle.std.proofs.Common.{◌≡◌, ℕ, inl, inr, Some, sym, ap, ◌∙◌, nat_eq}
use Rattle.std.specs.declared.hash.FoldHasher.{FoldHasher}
use Rattle.std.specs.declared.hash.BuildHasherDefault.{BuildHasherDefault}
use Rattle.std.specs.HashMap.{HashMap, get as value_at}
use Rattle.std.proofs.lemmas.Bool.{cases_eq}
use Rattle.slab.specs.Slab.{Slab, get, ContainsKey, with_value, Updates}
use Rattle.slab.proofs.SlabLemmas.{Updates-with_value}
use Rattle.admin_ring.specs.declared.table.Note.{Note}
use Rattle.admin_ring.specs.Finding.{IsIndexed}

pub indexed_change : (notes : Slab Note) (keys : HashMap ℕ ℕ (BuildHasherDefault FoldHasher)) (key : ℕ) (x y : Note) → ContainsKey notes key → get notes key ≡ Some x → y.seq ≡ x.seq → IsIndexed notes keys → IsIndexed (with_value notes key y) keys
indexed_change notes keys key x y contains there same is =
    let up : Updates notes (with_value notes key y) key (Some y) = Updates-with_value notes key y contains in
    record {
      found = λ s k e. found_at up s k (is.found s k e);
      kept = λ k z at. kept_at up k z at;
    }
  where
    found_at : Updates notes (with_value notes key y) key (Some y) → (s k : ℕ) → (z : Note) × (get notes k ≡ Some z) × (z.seq ≡ s) → (z : Note) × (get (with_value notes key y) k ≡ Some z) × (z.seq ≡ s)
    found_at up s k f = elim (cases_eq k key) [
      | inl e ↦
          let both : Some x ≡ Some f.0 = sym there ∙ ap (get notes) (sym e) ∙ f.1 in
          let one : x ≡ f.0 = cc in
          (y, ap (get (with_value notes key y)) e ∙ up.changed, same ∙ ap (λ (z : Note). z.seq) one ∙ f.2)
      | inr off ↦ (f.0, up.others k off ∙ f.1, f.2)
    ]

    kept_at : Updates notes (with_value notes key y) key (Some y) → (k : ℕ) (z : Note) → get (with_value notes key y) k ≡ Some z → value_at nat_eq keys z.seq ≡ Some k
    kept_at up k z at = elim (cases_eq k key) [
      | inl e ↦
          let both : Some y ≡ Some z = sym up.changed ∙ ap (get (with_value notes key y)) (sym e) ∙ at in
          let one : y ≡ z = cc in
          ap (value_at nat_eq keys) (ap (λ (n : Note). n.seq) (sym one) ∙ same) ∙ is.kept key x there ∙ ap Some (sym e)
      | inr off ↦ is.kept k z (sym (up.others k off) ∙ at)
    ]
