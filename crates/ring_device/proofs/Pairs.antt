-- A walk of two steps finds the pair.
use Rattle.std.proofs.Common.{◌≡◌, ℕ, zero, suc, ◌-◌, ◌≤◌, Bool, true, false, List, [], ◌∷◌, Option, Some, None, arith, refl, sym, ap, ◌∙◌, subst}
use Rattle.std.specs.Prelude.{◌&&◌, ◌||◌, not, option_map, if◌then◌else◌}
use Rattle.std.proofs.lemmas.Bool.Decides.{nat_tests}
use Rattle.std.proofs.lemmas.Grind.{common_steps}
use Rattle.ring_layout.specs.declared.layout.Layout.{Layout}
use Rattle.byte_fields.specs.Sizes.{is_queue_size}
use Rattle.ring_layout.specs.declared.descriptor.Descriptor.{Descriptor}
use Rattle.ring_layout.specs.Chain.{descriptor, has_next, is_written, available, ring_table}
use Rattle.ring_device.specs.Buffers.{chain_buffers}
use Rattle.ring_device.specs.Follow.{stands, names_there, buffer_after, walked, named_walked, under_head}
use Rattle.ring_device.specs.Pair.{pair_of, pair_in}
use Rattle.ring_device.specs.declared.pair.PairFound.{PairFound}
use Rattle.ring_device.specs.declared.pair.PairFound.TheVariants.{Pair, Other}
use Rattle.ring_device.proofs.Walked.{walked_chain, none_either}

-- the walk along the ring's table, where no others are used
abbrev walk : List ℕ → Layout → ℕ → Bool → ℕ → Option (List Descriptor)
walk mem l n w i = walked (named_walked false mem) mem (ring_table l) n w i

-- what it says that a buffer was taken, or that none was
chosen : (test : Bool) (d part : Descriptor) → Some part ≡ (if test then Some d else None) → (test ≡ true) × (part ≡ d)
chosen true d part h = (refl, cc)
chosen false d part h = cc

not_chosen : (test : Bool) (d : Descriptor) → (let none : Option Descriptor = None in none ≡ (if test then Some d else None)) → test ≡ false
not_chosen true d h = cc
not_chosen false d h = refl

taken : (mem : List ℕ) (l : Layout) (w : Bool) (i : ℕ) (part : Descriptor) → Some part ≡ buffer_after mem (ring_table l) w i → (stands mem (ring_table l) w i ≡ true) × (part ≡ descriptor mem l.table i)
taken mem l w i part h = chosen (stands mem (ring_table l) w i) (descriptor mem l.table i) part h

none_taken : (mem : List ℕ) (l : Layout) (w : Bool) (i : ℕ) → (let none : Option Descriptor = None in none ≡ buffer_after mem (ring_table l) w i) → stands mem (ring_table l) w i ≡ false
none_taken mem l w i h = not_chosen (stands mem (ring_table l) w i) (descriptor mem l.table i) h

-- where none is, the walk ends
walk_none : (mem : List ℕ) (l : Layout) (n : ℕ) (w : Bool) (i : ℕ) → stands mem (ring_table l) w i ≡ false → walk mem l (suc n) w i ≡ None
walk_none mem l n w i t = rw t (none_either (names_there mem (ring_table l) i))

-- a ring has room for a pair
pub two_at_least : (size : ℕ) → is_queue_size size ≡ true → size ≡ suc (suc (size - 2))
two_at_least size ring = let four : 4 ≤ size = grind (arith, nat_tests, common_steps, ring) in omega arith

-- ---- lists of buffers that are no pair

alone : (head : ℕ) (a : Descriptor) → pair_of head (a ∷ []) ≡ Other
alone head a = refl

written_first : (head : ℕ) (a : Descriptor) (ds : List Descriptor) → is_written a ≡ true → pair_of head (a ∷ ds) ≡ Other
written_first head a [] h = refl
written_first head a (b ∷ []) h = rw h refl
written_first head a (b ∷ c ∷ ds) h = refl

read_second : (head : ℕ) (a b : Descriptor) → is_written b ≡ false → pair_of head (a ∷ b ∷ []) ≡ Other
read_second head a b h = rw h (either (is_written a))
  where
    either : (w : Bool) → (if not w && false then Pair head a.addr a.len b.addr b.len else Other) ≡ Other
    either true = refl
    either false = refl

three : (head : ℕ) (a b c : Descriptor) (ds : List Descriptor) → pair_of head (a ∷ b ∷ c ∷ ds) ≡ Other
three head a b c ds = refl

-- a walk gives no empty list
not_empty : (mem : List ℕ) (l : Layout) (n : ℕ) (w : Bool) (i : ℕ) → ¬ (walk mem l n w i ≡ Some [])
not_empty mem l zero w i h = cc
not_empty mem l (suc n) w i h = either (stands mem (ring_table l) w i) (names_there mem (ring_table l) i) (has_next (descriptor mem l.table i)) (walk mem l n (w || is_written (descriptor mem l.table i)) (descriptor mem l.table i).next) h
  where
    either : (t names next : Bool) (r : Option (List Descriptor)) → (if t then (if next then option_map (λ ds. descriptor mem l.table i ∷ ds) r else Some (descriptor mem l.table i ∷ [])) else if names then None else None) ≡ Some [] → ⊥
    either false true next r e = cc
    either false false next r e = cc
    either true names false r e = cc
    either true names true None e = cc
    either true names true (Some ds) e = cc

both : (a b : Bool) → (not a && b) ≡ true → (a ≡ false) × (b ≡ true)
both false true h = (refl, refl)
both false false h = cc
both true b h = cc

both_last : (a b : Bool) → (a && not b) ≡ true → (a ≡ true) × (b ≡ false)
both_last true false h = (refl, refl)
both_last true true h = cc
both_last false b h = cc

-- what a walk of two steps gives, by what its descriptors say
module _ (mem : List ℕ) (l : Layout) (head n : ℕ) where
  abbrev first : Descriptor
  first = descriptor mem l.table head

  abbrev second : Descriptor
  second = descriptor mem l.table first.next

  abbrev by_walk : PairFound
  by_walk = pair_in (under_head head (walk mem l (suc (suc n)) false head))

  written_then : (r : Option (List Descriptor)) → is_written first ≡ true → Other ≡ pair_in (under_head head (option_map (λ ds. first ∷ ds) r))
  written_then None w = refl
  written_then (Some ds) w = sym (written_first head first ds w)

  no_first_at : stands mem (ring_table l) false head ≡ false → Other ≡ by_walk
  no_first_at t = sym (ap (λ r. pair_in (under_head head r)) (walk_none mem l (suc n) false head t))

  not_first_at : stands mem (ring_table l) false head ≡ true → (not (is_written first) && has_next first) ≡ false → Other ≡ by_walk
  not_first_at t h = step (is_written first) (has_next first) refl refl h
    where
      step : (w next : Bool) → is_written first ≡ w → has_next first ≡ next → (not w && next) ≡ false → Other ≡ by_walk
      step w false e f g = rw (t, f) refl
      step true true e f g = rw (t, f) (written_then (walk mem l (suc n) (false || is_written first) first.next) e)
      step false true e f g = cc

  on : stands mem (ring_table l) false head ≡ true → (not (is_written first) && has_next first) ≡ true → walk mem l (suc (suc n)) false head ≡ option_map (λ ds. first ∷ ds) (walk mem l (suc n) false first.next)
  on t h = let p = both (is_written first) (has_next first) h in let w = p.0 in let next = p.1 in rw (t, next, w) refl

  abbrev by_step : Option (List Descriptor) → PairFound
  by_step r = pair_in (under_head head (option_map (λ ds. first ∷ ds) r))

  no_second_at : stands mem (ring_table l) false head ≡ true → (not (is_written first) && has_next first) ≡ true → stands mem (ring_table l) false first.next ≡ false → Other ≡ by_walk
  no_second_at t h u =
      let none : walk mem l (suc n) false first.next ≡ None = walk_none mem l n false first.next u in
      sym (ap (λ r. pair_in (under_head head r)) (on t h) ∙ ap by_step none)

  more : (r : Option (List Descriptor)) → ¬ (r ≡ Some []) → Other ≡ by_step (option_map (λ ds. second ∷ ds) r)
  more None h = refl
  more (Some []) h = absurd (h refl)
  more (Some (c ∷ ds)) h = refl

  not_second_at : stands mem (ring_table l) false head ≡ true → (not (is_written first) && has_next first) ≡ true → stands mem (ring_table l) false first.next ≡ true → (is_written second && not (has_next second)) ≡ false → Other ≡ by_walk
  not_second_at t h u g = step (is_written second) (has_next second) refl refl g ∙ sym (ap (λ r. pair_in (under_head head r)) (on t h))
    where
      step : (w next : Bool) → is_written second ≡ w → has_next second ≡ next → (w && not next) ≡ false → Other ≡ by_step (walk mem l (suc n) false first.next)
      step w true e f k = rw (u, f) (more (walk mem l n (false || is_written second) second.next) (not_empty mem l n (false || is_written second) second.next))
      step false false e f k = rw (u, f) (sym (read_second head first second e))
      step true false e f k = cc

  pair_at : stands mem (ring_table l) false head ≡ true → (not (is_written first) && has_next first) ≡ true → stands mem (ring_table l) false first.next ≡ true → (is_written second && not (has_next second)) ≡ true
      → Pair head first.addr first.len second.addr second.len ≡ by_walk
  pair_at t h u g =
      let p = both (is_written first) (has_next first) h in
      let q = both_last (is_written second) (has_next second) g in
      let read = p.0 in
      let written = q.0 in
      let end = q.1 in
      let last : walk mem l (suc n) false first.next ≡ Some (second ∷ []) = rw (u, end) refl in
      sym (ap (λ r. pair_in (under_head head r)) (on t h) ∙ ap by_step last ∙ rw (read, written) refl)

-- the same, for buffers that were taken
module _ (mem : List ℕ) (l : Layout) (pos head n : ℕ) (is : head ≡ available mem l pos) (size : l.size ≡ suc (suc n)) where
  whole : (p : PairFound) → p ≡ by_walk mem l head n → p ≡ pair_in (chain_buffers false mem l pos)
  whole p h = h ∙ ap (λ (k : ℕ). pair_in (under_head head (walk mem l k false head))) (sym size) ∙ ap pair_in (walked_chain false mem l pos head is)

  pub no_first : (let none : Option Descriptor = None in none ≡ buffer_after mem (ring_table l) false head) → Other ≡ pair_in (chain_buffers false mem l pos)
  no_first h = whole Other (no_first_at mem l head n (none_taken mem l false head h))

  module _ (a : Descriptor) (took : Some a ≡ buffer_after mem (ring_table l) false head) where
    here : stands mem (ring_table l) false head ≡ true
    here = (taken mem l false head a took).0

    there : a ≡ descriptor mem l.table head
    there = (taken mem l false head a took).1

    pub not_first : (not (is_written a) && has_next a) ≡ false → Other ≡ pair_in (chain_buffers false mem l pos)
    not_first h = whole Other (not_first_at mem l head n here (subst (λ (d : Descriptor). (not (is_written d) && has_next d) ≡ false) there h))

    module _ (leads : (not (is_written a) && has_next a) ≡ true) where
      leads_on : (not (is_written (descriptor mem l.table head)) && has_next (descriptor mem l.table head)) ≡ true
      leads_on = subst (λ (d : Descriptor). (not (is_written d) && has_next d) ≡ true) there leads

      pub no_second : (let none : Option Descriptor = None in none ≡ buffer_after mem (ring_table l) false a.next) → Other ≡ pair_in (chain_buffers false mem l pos)
      no_second h =
          whole Other (no_second_at mem l head n here leads_on (subst (λ (d : Descriptor). stands mem (ring_table l) false d.next ≡ false) there (none_taken mem l false a.next h)))

      module _ (b : Descriptor) (took_b : Some b ≡ buffer_after mem (ring_table l) false a.next) where
        here_b : stands mem (ring_table l) false (descriptor mem l.table head).next ≡ true
        here_b = subst (λ (d : Descriptor). stands mem (ring_table l) false d.next ≡ true) there (taken mem l false a.next b took_b).0

        there_b : b ≡ descriptor mem l.table (descriptor mem l.table head).next
        there_b = (taken mem l false a.next b took_b).1 ∙ ap (λ (d : Descriptor). descriptor mem l.table d.next) there

        pub not_second : (is_written b && not (has_next b)) ≡ false → Other ≡ pair_in (chain_buffers false mem l pos)
        not_second h = whole Other (not_second_at mem l head n here leads_on here_b (subst (λ (d : Descriptor). (is_written d && not (has_next d)) ≡ false) there_b h))

        pub pair_is : (is_written b && not (has_next b)) ≡ true → Pair head a.addr a.len b.addr b.len ≡ pair_in (chain_buffers false mem l pos)
        pair_is h =
            ap (λ (d : Descriptor). Pair head d.addr d.len b.addr b.len) there
            ∙ ap (λ (d : Descriptor). Pair head (descriptor mem l.table head).addr (descriptor mem l.table head).len d.addr d.len) there_b
            ∙ whole (Pair head (descriptor mem l.table head).addr (descriptor mem l.table head).len (descriptor mem l.table (descriptor mem l.table head).next).addr (descriptor mem l.table (descriptor mem l.table head).next).len)
            (pair_at mem l head n here leads_on here_b (subst (λ (d : Descriptor). (is_written d && not (has_next d)) ≡ true) there_b h))
