-- What the device finds in the ring.
use Rattle.std.proofs.Common.{◌≡◌, ℕ, ◌%◌, List, [], ◌∷◌, Some, None, refl, sym, ap, ◌∙◌}
use Rattle.ring_layout.specs.declared.layout.Layout.{Layout}
use Rattle.ring_device.specs.declared.pair.PairFound.{PairFound}
use Rattle.ring_device.specs.declared.pair.PairFound.TheVariants.{Pair as PairAt, Empty as NoPair, Other}
use Rattle.ring_device.specs.Pair.{pair_answer, pair_told}
use Rattle.ring_driver.specs.Driver.{Driver}
use Rattle.ring_driver.specs.Between.{Pair, Ring, Stands}
use Rattle.ring_driver.proofs.Finding.{finds_chain, finds_nothing}
use Rattle.ring_driver.proofs.Using.{has_fetched}
use Rattle.admin_ring.specs.declared.host.Host.{Host}
use Rattle.admin_ring.specs.declared.host.Chain.{Chain}
use Rattle.admin_ring.specs.Host.{IsHost, HasRing, HasFetched, pair_of, served_by}

finds_pair : (mem : List ℕ) (d : Driver) (r : Ring) (p : Pair) (ps : List Pair) → Stands mem d r → r.waiting ≡ p ∷ ps
    → pair_answer mem d.layout (r.fetched % 65536) ≡ PairAt p.head p.readable.addr p.readable.len p.writable.addr p.writable.len
finds_pair mem d r p ps st waiting =
    let f = finds_chain mem d r p ps st waiting in
    let entry = f.0 in
    ap (pair_told mem d.layout (r.fetched % 65536)) f.2 ∙ rw entry refl

finds_none : (mem : List ℕ) (d : Driver) (r : Ring) → Stands mem d r → r.waiting ≡ [] → pair_answer mem d.layout (r.fetched % 65536) ≡ NoPair
finds_none mem d r st none = ap (pair_told mem d.layout (r.fetched % 65536)) (finds_nothing mem d r st none)

-- the chain that a pair is, or another
abbrev chain_or : Pair → PairFound → Pair
chain_or other (PairAt head readable len writable room) = record { head = head; readable = record { addr = readable; len = len }; writable = record { addr = writable; len = room } }
chain_or other NoPair = other
chain_or other Other = other

module _ (h : Host) (pos : ℕ) (is : IsHost h) (r : Ring) (has : HasRing h r) (at : pos ≡ r.fetched % 65536) where
  here : pair_answer h.mem h.layout pos ≡ pair_answer h.mem h.driver.layout (r.fetched % 65536)
  here = ap (λ (l : Layout). pair_answer h.mem l pos) (sym is.driven) ∙ ap (pair_answer h.mem h.driver.layout) at

  pub fetches : (c : Chain) → h.serving ≡ None → PairAt c.head c.readable.addr c.readable.len c.writable.addr c.writable.len ≡ pair_answer h.mem h.layout pos → HasFetched (Some c) h (record h { serving = Some c }) r
  fetches c idle found = by r.waiting refl
    where
      by : (ps : List Pair) → r.waiting ≡ ps → HasFetched (Some c) h (record h { serving = Some c }) r
      by [] e = let no : PairAt c.head c.readable.addr c.readable.len c.writable.addr c.writable.len ≡ NoPair = found ∙ here ∙ finds_none h.mem h.driver r has.stands e in cc
      by (p ∷ ps) e =
          let one : pair_of c ≡ p = ap (chain_or p) (found ∙ here ∙ finds_pair h.mem h.driver r p ps has.stands e) in
          let waiting : r.waiting ≡ pair_of c ∷ ps = e ∙ ap (λ (q : Pair). q ∷ ps) (sym one) in (
            ps,
            waiting,
            record {
              stands = has_fetched h.mem h.driver r (pair_of c) ps has.stands waiting;
              held = ap (λ (qs : List Pair). pair_of c ∷ qs) (has.held ∙ ap served_by idle);
              done = has.done;
            },
            refl,
          )

  pub fetches_none : NoPair ≡ pair_answer h.mem h.layout pos → HasFetched None h h r
  fetches_none found = by r.waiting refl
    where
      by : (ps : List Pair) → r.waiting ≡ ps → HasFetched None h h r
      by [] e = (e, refl)
      by (p ∷ ps) e = let no : NoPair ≡ PairAt p.head p.readable.addr p.readable.len p.writable.addr p.writable.len = found ∙ here ∙ finds_pair h.mem h.driver r p ps has.stands e in cc

  -- nothing else stands in it
  pub never_other : Other ≡ pair_answer h.mem h.layout pos → ⊥
  never_other found = by r.waiting refl
    where
      by : (ps : List Pair) → r.waiting ≡ ps → ⊥
      by [] e = let no : Other ≡ NoPair = found ∙ here ∙ finds_none h.mem h.driver r has.stands e in cc
      by (p ∷ ps) e = let no : Other ≡ PairAt p.head p.readable.addr p.readable.len p.writable.addr p.writable.len = found ∙ here ∙ finds_pair h.mem h.driver r p ps has.stands e in cc
