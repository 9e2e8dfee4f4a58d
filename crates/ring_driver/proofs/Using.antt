-- A chain that is used: what the device's two writes leave.
use Rattle.std.proofs.Common.{◌≡◌, ◌≢◌, ℕ, ◌+◌, ◌-◌, ◌*◌, ◌^◌, ◌%◌, ◌<◌, ◌≤◌, inl, inr, List, [], ◌∷◌, ◌++◌, length, refl, sym, ap, ◌∙◌, arith, subst, length-append}
use Rattle.std.proofs.lemmas.Bool.{cases_lt}
use Rattle.std.proofs.lemmas.List.{append-nil}
use Rattle.byte_fields.specs.Places.{number_at, overwrite, bytes_of, le16, le32}
use Rattle.byte_fields.proofs.Places.{length-bytes_of, number_at-bytes_of, number_at-append, length-overwrite}
use Rattle.byte_fields.proofs.Overwriting.{number_at-overwrite_same, number_at-overwrite_within}
use Rattle.ring_layout.specs.declared.layout.Layout.{Layout}
use Rattle.ring_layout.specs.Layout.{LiesIn}
use Rattle.ring_layout.specs.Chain.{used_writes, written}
use Rattle.ring_driver.specs.Driver.{Driver}
use Rattle.ring_driver.specs.Same.{SameBytes}
use Rattle.ring_driver.specs.Between.{Pair, Ring, Stands, AreInTable, AreAvailable, element, times, heads, used_heads, once_a_pair, used, with_used, with_fetched}
use Rattle.ring_driver.proofs.Places.{IsPlaced, placed, wraps, apart, entry_below}
use Rattle.ring_driver.proofs.Bytes.{same_within, same_twice, number_same, available_same, element_same}
use Rattle.ring_driver.proofs.Written.{overwritten_before, overwritten_after}
use Rattle.ring_driver.proofs.Counts.{times-append, times_first, heads-append, used_heads-append, is_head, IsHead}
use Rattle.ring_driver.proofs.Kept.{chains_same, chains-split, entries_kept, elements_kept, elements-push}

-- the two writes at a position
module _ (l : Layout) (pos head count : ℕ) (old : List ℕ) (place : IsPlaced (length old) l) (small_head : head < 256 ^ 4) (small_count : count < 256 ^ 4) where
  bytes : List ℕ
  bytes = bytes_of 4 head ++ bytes_of 4 count

  abbrev mid : List ℕ
  mid = overwrite (l.used + 4 + 8 * (pos % l.size)) (bytes_of 4 head ++ bytes_of 4 count) old

  abbrev new : List ℕ
  new = written (used_writes l pos head count) old

  slot : pos % l.size < l.size
  slot = entry_below pos l.size place.size.least

  bytes_long : length (bytes_of 4 head ++ bytes_of 4 count) ≡ 8
  bytes_long = let a = length-bytes_of 4 head in let b = length-bytes_of 4 count in length-append (bytes_of 4 head) (bytes_of 4 count) ∙ omega (arith, a, b)

  mid_long : length mid ≡ length old
  mid_long =
      let s = slot in
      let a = bytes_long in
      let b = place.end in
      let c = place.inside in
      length-overwrite (l.used + 4 + 8 * (pos % l.size)) (bytes_of 4 head ++ bytes_of 4 count) old (omega (arith, s, a, b, c))

  pub new_long : length new ≡ length old
  new_long =
      let m = mid_long in
      let a = length-bytes_of 2 ((pos + 1) % 65536) in
      let b = place.end in
      let c = place.inside in
      length-overwrite (l.used + 2) (bytes_of 2 ((pos + 1) % 65536)) mid (omega (arith, m, a, b, c)) ∙ mid_long

  before_one : SameBytes 0 (l.used + 4 + 8 * (pos % l.size)) old mid
  before_one = let s = slot in let b = place.end in let c = place.inside in overwritten_before (l.used + 4 + 8 * (pos % l.size)) (bytes_of 4 head ++ bytes_of 4 count) old mid (omega (arith, s, b, c)) refl

  after_one : SameBytes (l.used + 4 + 8 * (pos % l.size) + 8) (length old) old mid
  after_one = let s = slot in let b = place.end in let c = place.inside in overwritten_after (l.used + 4 + 8 * (pos % l.size)) (length old) 8 (bytes_of 4 head ++ bytes_of 4 count) old mid (omega (arith, s, b, c)) refl bytes_long

  before_two : SameBytes 0 (l.used + 2) mid new
  before_two = let m = mid_long in let b = place.end in let c = place.inside in overwritten_before (l.used + 2) (bytes_of 2 ((pos + 1) % 65536)) mid new (omega (arith, m, b, c)) refl

  after_two : SameBytes (l.used + 2 + 2) (length old) mid new
  after_two = let m = mid_long in let b = place.end in let c = place.inside in overwritten_after (l.used + 2) (length old) 2 (bytes_of 2 ((pos + 1) % 65536)) mid new (omega (arith, m, b, c)) refl (length-bytes_of 2 ((pos + 1) % 65536))

  -- what lies before the used ring, and behind the ring
  pub before_used : SameBytes 0 l.used old new
  before_used = same_twice 0 l.used old mid new (same_within 0 (l.used + 4 + 8 * (pos % l.size)) 0 l.used old mid before_one (omega arith) (omega arith)) (same_within 0 (l.used + 2) 0 l.used mid new before_two (omega arith) (omega arith))

  pub behind_used : SameBytes l.end (length old) old new
  behind_used =
      let s = slot in
      let b = place.end in
      same_twice l.end (length old) old mid new (same_within (l.used + 4 + 8 * (pos % l.size) + 8) (length old) l.end (length old) old mid after_one (omega (arith, s, b)) (omega arith))
      (same_within (l.used + 2 + 2) (length old) l.end (length old) mid new after_two (omega (arith, b)) (omega arith))

  used_index : le16 (l.used + 2) new ≡ (pos + 1) % 65536
  used_index = let m = mid_long in let b = place.end in let c = place.inside in number_at-overwrite_same 2 (l.used + 2) ((pos + 1) % 65536) mid (omega (arith, m, b, c)) (omega arith)

  second_kept : (other : ℕ) → element new l other ≡ element mid l other
  second_kept other = let s = entry_below other l.size place.size.least in let b = place.end in let c = place.inside in element_same l other (l.used + 2 + 2) (length old) mid new after_two (omega arith) (omega (arith, s, b, c))

  first_kept : (other : ℕ) → other % l.size ≢ pos % l.size → element mid l other ≡ element old l other
  first_kept other off =
      let s = entry_below other l.size place.size.least in
      let b = place.end in
      let c = place.inside in
      elim (cases_lt (other % l.size) (pos % l.size)) [
        | inl low ↦ element_same l other 0 (l.used + 4 + 8 * (pos % l.size)) old mid before_one (omega arith) (omega arith)
        | inr high ↦ element_same l other (l.used + 4 + 8 * (pos % l.size) + 8) (length old) old mid after_one (omega arith) (omega (arith, s, b, c))
      ]

  element_kept : (other : ℕ) → other % l.size ≢ pos % l.size → element new l other ≡ element old l other
  element_kept other off = second_kept other ∙ first_kept other off

  element_mid : element mid l pos ≡ record { head = head; length = count }
  unfolding element
  element_mid =
      let s = slot in
      let b = place.end in
      let c = place.inside in
      let n = bytes_long in
      let fits : l.used + 4 + 8 * (pos % l.size) ≤ length old = omega (arith, s, b, c) in
      let p : le32 (l.used + 4 + 8 * (pos % l.size)) mid ≡ head
      = number_at-overwrite_within 4 (l.used + 4 + 8 * (pos % l.size)) (l.used + 4 + 8 * (pos % l.size)) 0 (bytes_of 4 head ++ bytes_of 4 count) old fits (omega arith) (omega (arith, n)) ∙ number_at-bytes_of 4 head (bytes_of 4 count) small_head in
      let q : le32 (l.used + 4 + 8 * (pos % l.size) + 4) mid ≡ count
      = number_at-overwrite_within 4 (l.used + 4 + 8 * (pos % l.size) + 4) (l.used + 4 + 8 * (pos % l.size)) 4 (bytes_of 4 head ++ bytes_of 4 count) old fits (omega arith) (omega (arith, n))
      ∙ number_at-append 4 0 4 (bytes_of 4 head) (bytes_of 4 count) (let a = length-bytes_of 4 head in omega (arith, a)) ∙ ap (number_at 4 0) (sym (append-nil (bytes_of 4 count))) ∙ number_at-bytes_of 4 count [] small_count in
      rw (p, q) refl

  element_put : element new l pos ≡ record { head = head; length = count }
  element_put = second_kept pos ∙ element_mid

-- an element may stand at a position modulo 65,536
pub element_wraps : (mem : List ℕ) (l : Layout) (n m : ℕ) → n % l.size ≡ m % l.size → element mem l n ≡ element mem l m
unfolding element
element_wraps mem l n m same = ap (λ (i : ℕ). record { head = le32 (l.used + 4 + 8 * i) mem; length = le32 (l.used + 4 + 8 * i + 4) mem }) same

module _ (mem : List ℕ) (d : Driver) (r : Ring) (before : List Pair) (p : Pair) (behind : List Pair) (count : ℕ) (st : Stands mem d r) (held : r.held ≡ before ++ p ∷ behind) (small : count < 2 ^ 32) where
  place : IsPlaced (length mem) d.layout
  place = placed (length mem) d.layout st.lies

  abbrev later : List ℕ
  later = written (used_writes d.layout (used r % 65536) p.head count) mem

  holds : times p.head (heads r.held) ≡ times p.head (heads before) + (1 + times p.head (heads behind))
  holds = ap (λ (ps : List Pair). times p.head (heads ps)) held ∙ ap (times p.head) (heads-append before (p ∷ behind)) ∙ times-append p.head (heads before) (p.head ∷ heads behind) ∙ ap (λ (n : ℕ). times p.head (heads before) + n) (times_first p.head (heads behind))

  head_is : IsHead d.layout.size p.head
  head_is = let a = holds in let one = st.one_place p.head in is_head d.layout.size p.head (omega (arith, a, one))

  small_head : p.head < 256 ^ 4
  small_head = let a = head_is.below in let b = place.size.most in omega (arith, a, b)

  pub long : length later ≡ length mem
  long = new_long d.layout (used r % 65536) p.head count mem place small_head (omega arith)

  pub rest_kept : SameBytes 0 d.layout.used mem later
  rest_kept = before_used d.layout (used r % 65536) p.head count mem place small_head (omega arith)

  pub outside_kept : SameBytes d.layout.end (length mem) mem later
  outside_kept = behind_used d.layout (used r % 65536) p.head count mem place small_head (omega arith)

  few : length r.done < d.layout.size
  few =
      let a = st.pairs in
      let b = place.size.least in
      let c : length r.held ≡ length before + length (p ∷ behind) = ap length held ∙ length-append before (p ∷ behind) in
      omega (arith, a, b, c)

  wrapped : (used r % 65536) % d.layout.size ≡ used r % d.layout.size
  wrapped = wraps (used r) d.layout.size st.lies.size

  other_element : (k : ℕ) → k < length r.done → element later d.layout (r.taken + k) ≡ element mem d.layout (r.taken + k)
  other_element k below =
      let f = few in
      let more : r.taken + k + (length r.done - k) ≡ used r = omega arith in
      let off : (r.taken + k) % d.layout.size ≢ used r % d.layout.size
      = subst (λ (n : ℕ). (r.taken + k) % d.layout.size ≢ n % d.layout.size) more (apart (r.taken + k) (length r.done - k) d.layout.size st.lies.size (omega arith) (omega (arith, f))) in
      element_kept d.layout (used r % 65536) p.head count mem place small_head (omega arith) (r.taken + k) (λ q. off (q ∙ wrapped))

  last_element : element later d.layout (used r) ≡ record { head = p.head; length = count }
  last_element = element_wraps later d.layout (used r) (used r % 65536) (sym wrapped) ∙ element_put d.layout (used r % 65536) p.head count mem place small_head (omega arith)

  moved : (h : ℕ) → times h d.free + times h (heads r.waiting) + times h (heads (before ++ behind)) + times h (used_heads (r.done ++ record { head = p.head; length = count } ∷ [])) ≡ once_a_pair d.layout.size h
  moved h =
      let a = st.one_place h in
      let b : times h (heads r.held) ≡ times h (heads before) + times h (p.head ∷ heads behind) = ap (λ (ps : List Pair). times h (heads ps)) held ∙ ap (times h) (heads-append before (p ∷ behind)) ∙ times-append h (heads before) (p.head ∷ heads behind) in
      let c : times h (heads (before ++ behind)) ≡ times h (heads before) + times h (heads behind) = ap (times h) (heads-append before behind) ∙ times-append h (heads before) (heads behind) in
      let e : times h (used_heads (r.done ++ record { head = p.head; length = count } ∷ [])) ≡ times h (used_heads r.done) + times h (p.head ∷ [])
      = ap (times h) (used_heads-append r.done (record { head = p.head; length = count } ∷ [])) ∙ times-append h (used_heads r.done) (p.head ∷ []) in
      omega (arith, a, b, c, e)

  pub has_used : Stands later d (with_used r before p behind count)
  has_used =
      let n : length (r.done ++ record { head = p.head; length = count } ∷ []) ≡ length r.done + 1 = length-append r.done (record { head = p.head; length = count } ∷ []) in
      let avail = place.avail in
      let room = place.used in
      record {
        lies = subst (λ (m : ℕ). LiesIn m d.layout) (sym long) st.lies;
        available_index = number_same 2 (d.layout.avail + 2) 0 d.layout.used mem later rest_kept (omega arith) (omega (arith, room)) ∙ st.available_index;
        used_index = used_index d.layout (used r % 65536) p.head count mem place small_head (omega arith) ∙ omega (arith, n);
        driver_posted = st.driver_posted;
        driver_taken = st.driver_taken;
        waits = entries_kept d.layout r.fetched r.waiting mem later
            (λ k below. let s = entry_below (r.fetched + k) d.layout.size place.size.least in
            available_same d.layout (r.fetched + k) 0 d.layout.used mem later rest_kept (omega arith) (omega (arith, s, room))) st.waits;
        waiting_chains = chains_same d.layout r.waiting mem later (same_within 0 d.layout.used d.layout.table d.layout.avail mem later rest_kept (omega arith) (omega (arith, room))) avail long st.waiting_chains;
        held_chains = chains_same d.layout (before ++ behind) mem later (same_within 0 d.layout.used d.layout.table d.layout.avail mem later rest_kept (omega arith) (omega (arith, room))) avail long
            (chains-split mem d.layout before p behind (subst (λ (ps : List Pair). AreInTable mem d.layout ps) held st.held_chains)).1;
        elements = elements-push later d.layout r.taken r.done (record { head = p.head; length = count }) (elements_kept d.layout r.taken r.done mem later other_element st.elements) last_element;
        one_place = moved;
        pairs = (let a = st.pairs in
            let b : length r.held ≡ length before + length (p ∷ behind) = ap length held ∙ length-append before (p ∷ behind) in
            let c : length (before ++ behind) ≡ length before + length behind = length-append before behind in
            omega (arith, a, b, c, n));
      }

-- a chain that is fetched
pub has_fetched : (mem : List ℕ) (d : Driver) (r : Ring) (p : Pair) (ps : List Pair) → Stands mem d r → r.waiting ≡ p ∷ ps → Stands mem d (with_fetched r p ps)
has_fetched mem d r p ps st waiting =
    let n : length r.waiting ≡ length ps + 1 = ap length waiting ∙ omega arith in
    let entries = subst (λ (qs : List Pair). AreAvailable mem d.layout r.fetched qs) waiting st.waits in
    let chains = subst (λ (qs : List Pair). AreInTable mem d.layout qs) waiting st.waiting_chains in
    record {
      lies = st.lies;
      available_index = st.available_index ∙ omega (arith, n);
      used_index = st.used_index;
      driver_posted = st.driver_posted ∙ omega (arith, n);
      driver_taken = st.driver_taken;
      waits = entries.1;
      waiting_chains = chains.1;
      held_chains = (chains.0, st.held_chains);
      elements = st.elements;
      one_place = λ h. (let a = st.one_place h in let b : times h (heads r.waiting) ≡ times h (heads (p ∷ ps)) = ap (λ (qs : List Pair). times h (heads qs)) waiting in omega (arith, a, b));
      pairs = (let a = st.pairs in omega (arith, a, n));
    }

-- a write elsewhere
pub kept_elsewhere : (old new : List ℕ) (d : Driver) (r : Ring) → Stands old d r → SameBytes d.layout.table d.layout.end old new → length new ≡ length old → Stands new d r
kept_elsewhere old new d r st same long =
    let place = placed (length old) d.layout st.lies in
    let avail = place.avail in
    let room = place.used in
    let end = place.end in
    let table : SameBytes d.layout.table d.layout.avail old new = same_within d.layout.table d.layout.end d.layout.table d.layout.avail old new same (omega arith) (omega (arith, room, end)) in
    record {
      lies = subst (λ (m : ℕ). LiesIn m d.layout) (sym long) st.lies;
      available_index = number_same 2 (d.layout.avail + 2) d.layout.table d.layout.end old new same (omega (arith, avail)) (omega (arith, room, end)) ∙ st.available_index;
      used_index = number_same 2 (d.layout.used + 2) d.layout.table d.layout.end old new same (omega (arith, avail, room)) (omega (arith, end)) ∙ st.used_index;
      driver_posted = st.driver_posted;
      driver_taken = st.driver_taken;
      waits = entries_kept d.layout r.fetched r.waiting old new
          (λ k below. let s = entry_below (r.fetched + k) d.layout.size place.size.least in
          available_same d.layout (r.fetched + k) d.layout.table d.layout.end old new same (omega (arith, avail)) (omega (arith, s, room, end))) st.waits;
      waiting_chains = chains_same d.layout r.waiting old new table avail long st.waiting_chains;
      held_chains = chains_same d.layout r.held old new table avail long st.held_chains;
      elements = elements_kept d.layout r.taken r.done old new
          (λ k below. let s = entry_below (r.taken + k) d.layout.size place.size.least in
          element_same d.layout (r.taken + k) d.layout.table d.layout.end old new same (omega (arith, avail, room)) (omega (arith, s, end))) st.elements;
      one_place = st.one_place;
      pairs = st.pairs;
    }
