-- What of a ring's state stays where bytes stayed, and lists with one chain or element more.
use Rattle.std.proofs.Common.{◌≡◌, ◌≢◌, ℕ, ◌+◌, ◌*◌, ◌%◌, ◌<◌, ◌≤◌, ◌⊎◌, inl, inr, List, [], ◌∷◌, ◌++◌, length, ◌∙◌, arith, subst}
use Rattle.std.proofs.lemmas.Bool.{cases_lt}
use Rattle.ring_layout.specs.declared.layout.Layout.{Layout}
use Rattle.ring_layout.specs.Chain.{available}
use Rattle.ring_driver.specs.Same.{SameBytes}
use Rattle.ring_driver.specs.Between.{Pair, Element, IsInTable, AreInTable, AreAvailable, AreUsed, element, times, heads}
use Rattle.ring_driver.proofs.Bytes.{descriptor_same}
use Rattle.ring_driver.proofs.Counts.{other_first}

-- a chain stands on the 32 bytes of its descriptors
pub chain_kept : (l : Layout) (p : Pair) (old new : List ℕ) → SameBytes (l.table + 16 * p.head) (l.table + 16 * p.head + 32) old new → length new ≡ length old → IsInTable old l p → IsInTable new l p
chain_kept l p old new same long chain =
    let a = chain.readable in
    let b = chain.writable in
    record {
      below = chain.below;
      even = chain.even;
      first = descriptor_same l p.head (l.table + 16 * p.head) (l.table + 16 * p.head + 32) old new same (omega arith) (omega arith) ∙ chain.first;
      second = descriptor_same l (p.head + 1) (l.table + 16 * p.head) (l.table + 16 * p.head + 32) old new same (omega arith) (omega arith) ∙ chain.second;
      readable = omega (arith, a, long);
      writable = omega (arith, b, long);
    }

-- chains of which none has this head stay where only its descriptors change
pub chains_kept : (l : Layout) (h : ℕ) (ps : List Pair) (old new : List ℕ) → h % 2 ≡ 0 → l.avail ≡ l.table + 16 * l.size
    → ((from to : ℕ) → from + 2 ≤ l.size → (from + 2 ≤ h) ⊎ (h + 2 ≤ from) → SameBytes (l.table + 16 * from) (l.table + 16 * from + 32) old new)
    → length new ≡ length old → times h (heads ps) ≡ 0 → AreInTable old l ps → AreInTable new l ps
chains_kept l h [] old new even at same long none chains = tt
chains_kept l h (p ∷ ps) old new even at same long none chains =
    let o = other_first h p.head (heads ps) none in
    (chain_kept l p old new (same p.head 0 chains.0.below (off l p h even o.0 chains.0.even)) long chains.0, chains_kept l h ps old new even at same long o.1 chains.1)
  where
    off : (l : Layout) (p : Pair) (h : ℕ) → h % 2 ≡ 0 → p.head ≢ h → p.head % 2 ≡ 0 → (p.head + 2 ≤ h) ⊎ (h + 2 ≤ p.head)
    off l p h even other too = elim (cases_lt p.head h) [
      | inl low ↦ inl (omega arith)
      | inr high ↦ inr (omega arith)
    ]

-- all chains stay where the table does
pub chains_same : (l : Layout) (ps : List Pair) (old new : List ℕ) → SameBytes l.table l.avail old new → l.avail ≡ l.table + 16 * l.size → length new ≡ length old → AreInTable old l ps → AreInTable new l ps
chains_same l [] old new same at long chains = tt
chains_same l (p ∷ ps) old new same at long chains =
    let below = chains.0.below in
    (chain_kept l p old new (λ k near far. same k (omega arith) (omega (arith, below))) long chains.0, chains_same l ps old new same at long chains.1)

pub chains-append : (mem : List ℕ) (l : Layout) (ps qs : List Pair) → AreInTable mem l ps → AreInTable mem l qs → AreInTable mem l (ps ++ qs)
chains-append mem l [] qs a b = b
chains-append mem l (p ∷ ps) qs a b = (a.0, chains-append mem l ps qs a.1 b)

pub chains-split : (mem : List ℕ) (l : Layout) (ps : List Pair) (p : Pair) (qs : List Pair) → AreInTable mem l (ps ++ p ∷ qs) → IsInTable mem l p × AreInTable mem l (ps ++ qs)
chains-split mem l [] p qs a = (a.0, a.1)
chains-split mem l (o ∷ ps) p qs a = let r = chains-split mem l ps p qs a.1 in (r.0, (a.0, r.1))

-- ---- the available ring

pub entries_kept : (l : Layout) (pos : ℕ) (ps : List Pair) (old new : List ℕ) → ((k : ℕ) → k < length ps → available new l (pos + k) ≡ available old l (pos + k)) → AreAvailable old l pos ps → AreAvailable new l pos ps
entries_kept l pos [] old new same entries = tt
entries_kept l pos (p ∷ ps) old new same entries =
    let e : pos + 0 ≡ pos = omega arith in
    let first : available new l pos ≡ available old l pos = subst (λ (n : ℕ). available new l n ≡ available old l n) e (same 0 (omega arith)) in (
      first ∙ entries.0,
      entries_kept l (pos + 1) ps old new
          (λ k below. let f : pos + (k + 1) ≡ pos + 1 + k = omega arith in subst (λ (n : ℕ). available new l n ≡ available old l n) f (same (k + 1) (omega arith))) entries.1,
    )

pub entries-push : (mem : List ℕ) (l : Layout) (pos : ℕ) (ps : List Pair) (p : Pair) → AreAvailable mem l pos ps → available mem l (pos + length ps) ≡ p.head → AreAvailable mem l pos (ps ++ p ∷ [])
entries-push mem l pos [] p entries last = let e : pos + 0 ≡ pos = omega arith in (subst (λ (n : ℕ). available mem l n ≡ p.head) e last, tt)
entries-push mem l pos (q ∷ ps) p entries last =
    let e : pos + length (q ∷ ps) ≡ pos + 1 + length ps = omega arith in
    (entries.0, entries-push mem l (pos + 1) ps p entries.1 (subst (λ (n : ℕ). available mem l n ≡ p.head) e last))

-- ---- the used ring

pub elements_kept : (l : Layout) (pos : ℕ) (es : List Element) (old new : List ℕ) → ((k : ℕ) → k < length es → element new l (pos + k) ≡ element old l (pos + k)) → AreUsed old l pos es → AreUsed new l pos es
elements_kept l pos [] old new same used = tt
elements_kept l pos (e ∷ es) old new same used =
    let z : pos + 0 ≡ pos = omega arith in
    let first : element new l pos ≡ element old l pos = subst (λ (n : ℕ). element new l n ≡ element old l n) z (same 0 (omega arith)) in (
      first ∙ used.0,
      elements_kept l (pos + 1) es old new
          (λ k below. let f : pos + (k + 1) ≡ pos + 1 + k = omega arith in subst (λ (n : ℕ). element new l n ≡ element old l n) f (same (k + 1) (omega arith))) used.1,
    )

pub elements-push : (mem : List ℕ) (l : Layout) (pos : ℕ) (es : List Element) (e : Element) → AreUsed mem l pos es → element mem l (pos + length es) ≡ e → AreUsed mem l pos (es ++ e ∷ [])
elements-push mem l pos [] e used last = let z : pos + 0 ≡ pos = omega arith in (subst (λ (n : ℕ). element mem l n ≡ e) z last, tt)
elements-push mem l pos (f ∷ es) e used last =
    let z : pos + length (f ∷ es) ≡ pos + 1 + length es = omega arith in
    (used.0, elements-push mem l (pos + 1) es e used.1 (subst (λ (n : ℕ). element mem l n ≡ e) z last))
