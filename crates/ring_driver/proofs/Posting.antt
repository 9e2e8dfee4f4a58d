-- A chain that is posted.
use Rattle.std.proofs.Common.{◌≡◌, ◌≢◌, ℕ, ◌+◌, ◌-◌, ◌*◌, ◌/◌, ◌%◌, ◌<◌, ◌≤◌, ◌⊎◌, inl, inr, List, [], ◌∷◌, ◌++◌, length, sym, ap, ◌∙◌, arith, subst, length-append}
use Rattle.byte_fields.specs.Places.{le16}
use Rattle.ring_layout.specs.declared.layout.Layout.{Layout}
use Rattle.ring_layout.specs.Layout.{LiesIn}
use Rattle.ring_layout.specs.Chain.{descriptor, available}
use Rattle.ring_driver.specs.declared.span.Span.{Span}
use Rattle.ring_driver.specs.Driver.{Driver}
use Rattle.ring_driver.specs.Same.{SameBytes, PutsDescriptor, MakesAvailable}
use Rattle.ring_driver.specs.Between.{Pair, Ring, Stands, IsInTable, first_of, second_of, times, heads, used_heads, once_a_pair, posted, with_posted, SpanLiesIn}
use Rattle.ring_driver.proofs.Places.{IsPlaced, placed, wraps, apart, entry_below}
use Rattle.ring_driver.proofs.Bytes.{same_within, same_twice, number_same, descriptor_same, available_same, element_same}
use Rattle.ring_driver.proofs.Counts.{times-append, times_first, heads-append, at_most_once, is_head, IsHead}
use Rattle.ring_driver.proofs.Kept.{chains_kept, chains-append, entries_kept, entries-push, elements_kept}

-- the last free head is the head of a pair, and no chain has it
pub record IsFree (mem : List ℕ) (d : Driver) (r : Ring) (h : ℕ) : Type 0 where
  pub is : IsHead d.layout.size h
  pub room : h + 2 ≤ d.layout.size
  pub not_waiting : times h (heads r.waiting) ≡ 0
  pub not_held : times h (heads r.held) ≡ 0

pub free_head : (mem : List ℕ) (d : Driver) (r : Ring) (rest : List ℕ) (h : ℕ) → Stands mem d r → d.free ≡ rest ++ h ∷ [] → IsFree mem d r h
free_head mem d r rest h st free =
    let here : times h d.free ≡ times h rest + (1 + times h []) = ap (times h) free ∙ times-append h rest (h ∷ []) ∙ ap (λ (n : ℕ). times h rest + n) (times_first h []) in
    let one = st.one_place h in
    let most = at_most_once d.layout.size h in
    let is : IsHead d.layout.size h = is_head d.layout.size h (omega (arith, here, one)) in
    let even = is.even in
    let below = is.below in
    let size = (placed (length mem) d.layout st.lies).size.even in
    record {
      is = is;
      room = omega (arith, even, below, size);
      not_waiting = omega (arith, here, one, most);
      not_held = omega (arith, here, one, most);
    }

module _ (m0 m1 m2 m3 : List ℕ) (d : Driver) (r : Ring) (rest : List ℕ) (h : ℕ) (readable writable : Span) (st : Stands m0 d r) (free : d.free ≡ rest ++ h ∷ [])
    (one : PutsDescriptor d.layout h (record { addr = readable.addr; len = readable.len; flags = record { 0 = 1 }; next = h + 1 }) m0 m1) (long1 : length m1 ≡ length m0)
    (two : PutsDescriptor d.layout (h + 1) (record { addr = writable.addr; len = writable.len; flags = record { 0 = 2 }; next = 0 }) m1 m2) (long2 : length m2 ≡ length m1)
    (three : MakesAvailable d.layout d.posted h m2 m3) (long3 : length m3 ≡ length m2) where
  abbrev l : Layout
  l = d.layout

  abbrev p : Pair
  p = record { head = h; readable = readable; writable = writable }

  place : IsPlaced (length m0) l
  place = placed (length m0) l st.lies

  is_free : IsFree m0 d r h
  is_free = free_head m0 d r rest h st free

  pub long : length m3 ≡ length m0
  long = long3 ∙ long2 ∙ long1

  -- the descriptors of other pairs
  others_stay : (from to : ℕ) → from + 2 ≤ l.size → (from + 2 ≤ h) ⊎ (h + 2 ≤ from) → SameBytes (l.table + 16 * from) (l.table + 16 * from + 32) m0 m3
  others_stay from to fits (inl low) =
      let a = place.avail in
      let b = place.used in
      let c = place.end in
      let e = place.inside in
      same_twice (l.table + 16 * from) (l.table + 16 * from + 32) m0 m1 m3 (same_within 0 (l.table + 16 * h) (l.table + 16 * from) (l.table + 16 * from + 32) m0 m1 one.before (omega arith) (omega arith))
      (same_twice (l.table + 16 * from) (l.table + 16 * from + 32) m1 m2 m3 (same_within 0 (l.table + 16 * (h + 1)) (l.table + 16 * from) (l.table + 16 * from + 32) m1 m2 two.before (omega arith) (omega arith))
      (same_within 0 l.avail (l.table + 16 * from) (l.table + 16 * from + 32) m2 m3 three.before (omega arith) (omega arith)))
  others_stay from to fits (inr high) =
      let a = place.avail in
      let b = place.used in
      let c = place.end in
      let e = place.inside in
      same_twice (l.table + 16 * from) (l.table + 16 * from + 32) m0 m1 m3 (same_within (l.table + 16 * h + 16) (length m0) (l.table + 16 * from) (l.table + 16 * from + 32) m0 m1 one.behind (omega arith) (omega arith))
      (same_twice (l.table + 16 * from) (l.table + 16 * from + 32) m1 m2 m3 (same_within (l.table + 16 * (h + 1) + 16) (length m1) (l.table + 16 * from) (l.table + 16 * from + 32) m1 m2 two.behind (omega arith) (omega arith))
      (same_within 0 l.avail (l.table + 16 * from) (l.table + 16 * from + 32) m2 m3 three.before (omega arith) (omega arith)))

  -- behind the table the first two writes change nothing
  first_two : SameBytes l.avail (length m0) m0 m2
  first_two =
      let a = place.avail in
      let f = is_free.room in
      same_twice l.avail (length m0) m0 m1 m2 (same_within (l.table + 16 * h + 16) (length m0) l.avail (length m0) m0 m1 one.behind (omega (arith, a, f)) (omega arith))
      (same_within (l.table + 16 * (h + 1) + 16) (length m1) l.avail (length m0) m1 m2 two.behind (omega (arith, a, f)) (omega (arith, long1)))

  pub behind : SameBytes l.used (length m0) m0 m3
  behind =
      let b = place.used in
      same_twice l.used (length m0) m0 m2 m3 (same_within l.avail (length m0) l.used (length m0) m0 m2 first_two (omega (arith, b)) (omega arith))
      (same_within l.used (length m2) l.used (length m0) m2 m3 three.behind (omega arith) (omega (arith, long1, long2)))

  pub before : SameBytes 0 l.table m0 m3
  before =
      let a = place.avail in
      same_twice 0 l.table m0 m1 m3 (same_within 0 (l.table + 16 * h) 0 l.table m0 m1 one.before (omega arith) (omega arith))
      (same_twice 0 l.table m1 m2 m3 (same_within 0 (l.table + 16 * (h + 1)) 0 l.table m1 m2 two.before (omega arith) (omega arith)) (same_within 0 l.avail 0 l.table m2 m3 three.before (omega arith) (omega (arith, a))))

  -- the posted chain
  new_first : descriptor m3 l.table h ≡ first_of p
  new_first =
      let a = place.avail in
      let f = is_free.room in
      descriptor_same l h 0 l.avail m2 m3 three.before (omega arith) (omega (arith, a, f)) ∙ descriptor_same l h 0 (l.table + 16 * (h + 1)) m1 m2 two.before (omega arith) (omega arith) ∙ one.stands

  new_second : descriptor m3 l.table (h + 1) ≡ second_of p
  new_second =
      let a = place.avail in
      let f = is_free.room in
      descriptor_same l (h + 1) 0 l.avail m2 m3 three.before (omega arith) (omega (arith, a, f)) ∙ two.stands

  new_chain : SpanLiesIn (length m0) readable → SpanLiesIn (length m0) writable → IsInTable m3 l p
  new_chain a b =
      let even = is_free.is.even in
      record {
        below = is_free.room;
        even = even;
        first = new_first;
        second = new_second;
        readable = omega (arith, a, long);
        writable = omega (arith, b, long);
      }

  -- entries of the available ring
  earlier_entry : (pos : ℕ) → available m2 l pos ≡ available m0 l pos
  earlier_entry pos =
      let s = entry_below pos l.size place.size.least in
      let b = place.used in
      let c = place.end in
      let e = place.inside in
      available_same l pos l.avail (length m0) m0 m2 first_two (omega arith) (omega (arith, s, b, c, e))

  few : length r.waiting < l.size
  few = let a = st.pairs in let b = place.size.least in omega (arith, a, b)

  other_entry : (k : ℕ) → k < length r.waiting → available m3 l (r.fetched + k) ≡ available m0 l (r.fetched + k)
  other_entry k below =
      let f = few in
      let more : r.fetched + k + (length r.waiting - k) ≡ posted r = omega arith in
      let off : (r.fetched + k) % l.size ≢ posted r % l.size
      = subst (λ (n : ℕ). (r.fetched + k) % l.size ≢ n % l.size) more (apart (r.fetched + k) (length r.waiting - k) l.size st.lies.size (omega arith) (omega (arith, f))) in
      let same : d.posted % l.size ≡ posted r % l.size = ap (λ (n : ℕ). n % l.size) st.driver_posted ∙ wraps (posted r) l.size st.lies.size in
      three.others (r.fetched + k) (λ q. off (q ∙ same)) ∙ earlier_entry (r.fetched + k)

  last_entry : available m3 l (posted r) ≡ h
  unfolding available
  last_entry =
      let same : d.posted % l.size ≡ posted r % l.size = ap (λ (n : ℕ). n % l.size) st.driver_posted ∙ wraps (posted r) l.size st.lies.size in
      ap (λ (n : ℕ). le16 (l.avail + 4 + 2 * n) m3) (sym same) ∙ three.entry

  -- where the pairs are
  moved : (x : ℕ) → times x rest + times x (heads (r.waiting ++ p ∷ [])) + times x (heads r.held) + times x (used_heads r.done) ≡ once_a_pair l.size x
  moved x =
      let a : times x d.free ≡ times x rest + times x (h ∷ []) = ap (times x) free ∙ times-append x rest (h ∷ []) in
      let b : times x (heads (r.waiting ++ p ∷ [])) ≡ times x (heads r.waiting) + times x (h ∷ []) = ap (times x) (heads-append r.waiting (p ∷ [])) ∙ times-append x (heads r.waiting) (h ∷ []) in
      let c = st.one_place x in
      omega (arith, a, b, c)

  counted : length rest + length (r.waiting ++ p ∷ []) + length r.held + length r.done ≡ l.size / 2
  counted =
      let a : length d.free ≡ length rest + 1 = ap length free ∙ length-append rest (h ∷ []) in
      let b : length (r.waiting ++ p ∷ []) ≡ length r.waiting + 1 = length-append r.waiting (p ∷ []) in
      let c = st.pairs in
      omega (arith, a, b, c)

  pub has_posted : SpanLiesIn (length m0) readable → SpanLiesIn (length m0) writable
      → Stands m3 (record { layout = d.layout; free = rest; posted = (d.posted + 1) % 65536; taken = d.taken }) (with_posted r p)
  has_posted a b =
      let more : length (r.waiting ++ p ∷ []) ≡ length r.waiting + 1 = length-append r.waiting (p ∷ []) in
      let now = st.driver_posted in
      let one_more : (d.posted + 1) % 65536 ≡ (r.fetched + length (r.waiting ++ p ∷ [])) % 65536 = omega (arith, more, now) in
      let even = is_free.is.even in
      record {
        lies = subst (λ (n : ℕ). LiesIn n l) (sym long) st.lies;
        available_index = three.index ∙ one_more;
        used_index = number_same 2 (l.used + 2) l.used (length m0) m0 m3 behind (omega arith) (let c = place.end in let e = place.inside in omega (arith, c, e)) ∙ st.used_index;
        driver_posted = one_more;
        driver_taken = st.driver_taken;
        waits = entries-push m3 l r.fetched r.waiting p (entries_kept l r.fetched r.waiting m0 m3 other_entry st.waits) last_entry;
        waiting_chains = chains-append m3 l r.waiting (p ∷ []) (chains_kept l h r.waiting m0 m3 even place.avail others_stay long is_free.not_waiting st.waiting_chains) (new_chain a b, tt);
        held_chains = chains_kept l h r.held m0 m3 even place.avail others_stay long is_free.not_held st.held_chains;
        elements = elements_kept l r.taken r.done m0 m3
            (λ k below. let s = entry_below (r.taken + k) l.size place.size.least in let c = place.end in let e = place.inside in
            element_same l (r.taken + k) l.used (length m0) m0 m3 behind (omega arith) (omega (arith, s, c, e))) st.elements;
        one_place = moved;
        pairs = counted;
      }
