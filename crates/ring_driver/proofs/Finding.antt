-- What a device finds at its position.
use Rattle.std.proofs.Common.{◌≡◌, ℕ, ◌+◌, ◌*◌, ◌%◌, ◌≤◌, true, false, inl, List, [], ◌∷◌, length, Some, refl, sym, ap, ◌∙◌, arith, subst}
use Rattle.std.specs.Prelude.{◌==◌, nat_lt, nat_le}
use Rattle.std.proofs.lemmas.Bool.Decides.{nat_tests}
use Rattle.byte_fields.specs.Places.{le16}
use Rattle.ring_layout.specs.declared.layout.Layout.{Layout}
use Rattle.ring_layout.specs.Chain.{IsChain, descriptor, available, gap, found, chain_at, nothing, chain}
use Rattle.ring_layout.proofs.Chains.{only_chain}
use Rattle.ring_driver.specs.Driver.{Driver}
use Rattle.ring_driver.specs.Between.{Pair, Ring, Stands, IsInTable, AreInTable, AreAvailable, first_of, second_of}
use Rattle.ring_driver.proofs.Places.{placed, wraps}

gap_is : (mem : List ℕ) (d : Driver) (r : Ring) → Stands mem d r → gap mem d.layout (r.fetched % 65536) ≡ length r.waiting
unfolding gap
gap_is mem d r st =
    let a = st.available_index in
    let b = st.pairs in
    let c = (placed (length mem) d.layout st.lies).size.most in
    omega (arith, a, b, c)

pub finds_nothing : (mem : List ℕ) (d : Driver) (r : Ring) → Stands mem d r → r.waiting ≡ [] → found false mem d.layout (r.fetched % 65536) ≡ nothing
unfolding found
finds_nothing mem d r st none =
    let e : gap mem d.layout (r.fetched % 65536) ≡ 0 = gap_is mem d r st ∙ ap length none in
    rw e refl

available_wraps : (mem : List ℕ) (l : Layout) (n m : ℕ) → n % l.size ≡ m % l.size → available mem l n ≡ available mem l m
unfolding available
available_wraps mem l n m same = ap (λ (i : ℕ). le16 (l.avail + 4 + 2 * i) mem) same

pair_is_chain : (mem : List ℕ) (l : Layout) (pos : ℕ) (p : Pair) → 4 ≤ l.size → available mem l pos ≡ p.head → IsInTable mem l p → IsChain false mem l pos (first_of p ∷ second_of p ∷ [])
pair_is_chain mem l pos p least entry c =
    let below = c.below in
    let inside = c.readable in
    let inside_too = c.writable in
    let t1 : nat_le (p.readable.addr + p.readable.len) (length mem) ≡ true = grind (arith, nat_tests, inside) in
    let t2 : nat_le (p.writable.addr + p.writable.len) (length mem) ≡ true = grind (arith, nat_tests, inside_too) in
    record {
      parts = inl (record {
        linked = (omega (arith, below, entry), sym c.first ∙ ap (descriptor mem l.table) (sym entry), refl, (omega (arith, below), sym c.second, refl));
        few = omega (arith, least);
      });
      buffers = rw (t1, t2) refl;
      ordered = refl;
    }

-- the chain that waits longest
pub finds_chain : (mem : List ℕ) (d : Driver) (r : Ring) (p : Pair) (ps : List Pair) → Stands mem d r → r.waiting ≡ p ∷ ps
    → (available mem d.layout (r.fetched % 65536) ≡ p.head) × IsInTable mem d.layout p × (found false mem d.layout (r.fetched % 65536) ≡ chain (first_of p ∷ second_of p ∷ []))
unfolding found
finds_chain mem d r p ps st waiting =
    let place = placed (length mem) d.layout st.lies in
    let least = place.size.least in
    let entries = subst (λ (qs : List Pair). AreAvailable mem d.layout r.fetched qs) waiting st.waits in
    let chains = subst (λ (qs : List Pair). AreInTable mem d.layout qs) waiting st.waiting_chains in
    let entry : available mem d.layout (r.fetched % 65536) ≡ p.head = available_wraps mem d.layout (r.fetched % 65536) r.fetched (wraps r.fetched d.layout.size st.lies.size) ∙ entries.0 in
    let n : length r.waiting ≡ length ps + 1 = ap length waiting ∙ omega arith in
    let whole = st.pairs in
    let g = gap_is mem d r st in
    let t : (gap mem d.layout (r.fetched % 65536) == 0) ≡ false = grind (arith, nat_tests, g, n) in
    let few : length r.waiting ≤ d.layout.size = omega (arith, whole, least) in
    let u : nat_lt d.layout.size (gap mem d.layout (r.fetched % 65536)) ≡ false = grind (arith, nat_tests, g, few) in
    let c : chain_at false mem d.layout (r.fetched % 65536) ≡ Some (first_of p ∷ second_of p ∷ []) = only_chain false mem d.layout (r.fetched % 65536) (first_of p ∷ second_of p ∷ []) (pair_is_chain mem d.layout (r.fetched % 65536) p least entry chains.0) in
    (entry, chains.0, rw (t, u, c) refl)
