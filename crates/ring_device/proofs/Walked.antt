-- A walk along a chain finds the chain.
use Rattle.std.proofs.Common.{◌≡◌, ℕ, zero, suc, Bool, true, false, List, [], ◌∷◌, length, Option, refl, sym, ap, ◌∙◌, subst, Some, None}
use Rattle.std.specs.Prelude.{◌&&◌, ◌||◌, not, nat_lt, option_map, if◌then◌else◌}
use Rattle.std.specs.List.{list_all}
use Rattle.std.specs.Option.{IfSome}
use Rattle.ring_layout.specs.declared.layout.Layout.{Layout}
use Rattle.ring_layout.specs.declared.descriptor.Descriptor.{Descriptor}
use Rattle.ring_layout.specs.declared.table.Table.{Table}
use Rattle.ring_layout.specs.Chain.{descriptor, has_next, available, is_buffer, is_inside, is_indirect, is_ordered, is_written, ring_table, named_table, followed, table_buffers, named_buffers, sound, chain_at}
use Rattle.ring_layout.proofs.Chains.{found_is_chain}
use Rattle.ring_device.specs.Buffers.{Buffers, chain_buffers, LieIn}
use Rattle.ring_device.specs.Follow.{walked, onto, any_written, reached, table_walked, named_walked, under_head}
use Rattle.ring_device.specs.declared.walk.End.{End}

-- ---- the walk and the test on a whole list

-- a list of buffers in order, all of them with WRITE behind one that has it
abbrev pub tested : ℕ → Bool → List Descriptor → Bool
tested memory w c = list_all (is_buffer memory) c && (not w || list_all is_written c) && is_ordered c

abbrev pub kept : ℕ → Bool → Option (List Descriptor) → Option (List Descriptor)
kept memory w None = None
kept memory w (Some c) = if tested memory w c then Some c else None

last : (b w v : Bool) (d : Descriptor)
    → (if b && (not w || v) then Some (d ∷ []) else None) ≡ (if ((b && true) && (not w || (v && true))) && ((not v || true) && true) then Some (d ∷ []) else None)
last true true true d = refl
last true true false d = refl
last true false true d = refl
last true false false d = refl
last false w v d = refl

joined : (buffers all ordered b w v : Bool) (d : Descriptor) (ds : List Descriptor)
    → (if b && (not w || v) then option_map (λ es. d ∷ es) (if (buffers && (not (w || v) || all)) && ordered then Some ds else None) else None)
    ≡ (if ((b && buffers) && (not w || (v && all))) && ((not v || all) && ordered) then Some (d ∷ ds) else None)
joined buffers all ordered false w v d ds = refl
joined false all ordered true true true d ds = refl
joined false all ordered true true false d ds = refl
joined false all ordered true false v d ds = refl
joined true all ordered true true false d ds = refl
joined true all true true false false d ds = refl
joined true all false true false false d ds = refl
joined true true true true w true d ds = both_ways w
  where
    both_ways : (w : Bool) → (if true && (not w || true) then option_map (λ es. d ∷ es) (if (true && (not (w || true) || true)) && true then Some ds else None) else None) ≡ (if ((true && true) && (not w || (true && true))) && ((not true || true) && true) then Some (d ∷ ds) else None)
    both_ways true = refl
    both_ways false = refl
joined true true false true true true d ds = refl
joined true true false true false true d ds = refl
joined true false ordered true true true d ds = refl
joined true false ordered true false true d ds = refl

pub none_either : (b : Bool) → let none : Option (List Descriptor) = None in (if b then none else none) ≡ none
none_either true = refl
none_either false = refl

-- a descriptor more, in front of those that are followed
one_more : (memory : ℕ) (w : Bool) (d : Descriptor) (r : Option (List Descriptor))
    → (if is_buffer memory d && (not w || is_written d) then option_map (λ ds. d ∷ ds) (kept memory (w || is_written d) r) else None) ≡ kept memory w (option_map (λ ds. d ∷ ds) r)
one_more memory w d None = none_either (is_buffer memory d && (not w || is_written d))
one_more memory w d (Some ds) = joined (list_all (is_buffer memory) ds) (list_all is_written ds) (is_ordered ds) (is_buffer memory d) w (is_written d) d ds

-- ---- a step of the walk, by the tests on its descriptor

-- one without INDIRECT gives no buffers of its own, and one with it isn't a buffer
no_own : (a b : Bool) (x y : Option (List Descriptor)) → b ≡ false → (if a then x else if b then y else None) ≡ (if a then x else None)
no_own a b x y h = rw h refl

own_alone : (inside indirect follows : Bool) (x y : Option (List Descriptor)) → indirect ≡ true → (if (inside && not indirect) && follows then x else if indirect then y else None) ≡ y
own_alone true true follows x y h = refl
own_alone false true follows x y h = refl
own_alone inside false follows x y h = cc

module _ (here_own : Bool → Descriptor → Option (List Descriptor)) (own : Descriptor → Option (List Descriptor)) (mem : List ℕ) (alike : (w : Bool) (d : Descriptor) → here_own w d ≡ kept (length mem) w (own d)) (t : Table) where
  module _ (n : ℕ) (w : Bool) (i : ℕ) where
    abbrev here : Descriptor
    here = descriptor mem t.addr i

    abbrev rest : Option (List Descriptor)
    rest = walked here_own mem t n (w || is_written here) here.next

    -- where the descriptor is none that names a table
    abbrev by_next : Bool → Option (List Descriptor)
    by_next next = if next then option_map (λ ds. here ∷ ds) rest else Some (here ∷ [])

    plain_step : nat_lt i t.count ≡ true → is_indirect here ≡ false → walked here_own mem t (suc n) w i ≡ (if is_buffer (length mem) here && (not w || is_written here) then by_next (has_next here) else None)
    plain_step s p = rw s (no_own (is_buffer (length mem) here && (not w || is_written here)) (is_indirect here) (by_next (has_next here)) (here_own w here) p)

    step : rest ≡ kept (length mem) (w || is_written here) (followed own mem t n here.next)
        → (below indirect next : Bool) → nat_lt i t.count ≡ below → is_indirect here ≡ indirect → has_next here ≡ next → walked here_own mem t (suc n) w i ≡ kept (length mem) w (followed own mem t (suc n) i)
    step again false indirect next s p u = rw s refl
    step again true true next s p u =
        let there : followed own mem t (suc n) i ≡ own here = rw (s, p) refl in
        rw s (own_alone (is_inside (length mem) here) (is_indirect here) (not w || is_written here) (by_next (has_next here)) (here_own w here) p)
        ∙ alike w here
        ∙ ap (kept (length mem) w) (sym there)
    step again true false false s p u =
        let there : followed own mem t (suc n) i ≡ Some (here ∷ []) = rw (s, p, u) refl in
        plain_step s p
        ∙ ap (λ (b : Bool). if is_buffer (length mem) here && (not w || is_written here) then by_next b else None) u
        ∙ last (is_buffer (length mem) here) w (is_written here) here
        ∙ ap (kept (length mem) w) (sym there)
    step again true false true s p u =
        let there : followed own mem t (suc n) i ≡ option_map (λ ds. here ∷ ds) (followed own mem t n here.next) = rw (s, p, u) refl in
        plain_step s p
        ∙ ap (λ (b : Bool). if is_buffer (length mem) here && (not w || is_written here) then by_next b else None) u
        ∙ ap (λ r. if is_buffer (length mem) here && (not w || is_written here) then option_map (λ ds. here ∷ ds) r else None) again
        ∙ one_more (length mem) w here (followed own mem t n here.next)
        ∙ ap (kept (length mem) w) (sym there)

  -- the walk gives the descriptors that are followed, where these pass every test
  pub walked_tests : (n : ℕ) (w : Bool) (i : ℕ) → walked here_own mem t n w i ≡ kept (length mem) w (followed own mem t n i)
  walked_tests zero w i = refl
  walked_tests (suc n) w i =
      step n w i (walked_tests n (w || is_written (descriptor mem t.addr i)) (descriptor mem t.addr i).next) (nat_lt i t.count) (is_indirect (descriptor mem t.addr i)) (has_next (descriptor mem t.addr i)) refl refl refl

-- ---- the table that a descriptor names

table_alike : (mem : List ℕ) (w : Bool) (o : Option Table) → table_walked mem w o ≡ kept (length mem) w (table_buffers mem o)
table_alike mem w None = refl
table_alike mem w (Some t) = walked_tests (λ v d. None) (λ d. None) mem (λ v d. refl) t t.count w 0

named_by : (allowed : Bool) (mem : List ℕ) (w : Bool) (o : Option Table)
    → table_walked mem w (if allowed then o else None) ≡ kept (length mem) w (if allowed then table_buffers mem o else None)
named_by true mem w o = table_alike mem w o
named_by false mem w o = refl

named_alike : (indirect : Bool) (mem : List ℕ) (w : Bool) (d : Descriptor) → named_walked indirect mem w d ≡ kept (length mem) w (named_buffers indirect mem d)
named_alike indirect mem w d = named_by (indirect && not (has_next d)) mem w (named_table (length mem) d)

-- ---- the chain at a position

all_kept : (memory : ℕ) (o : Option (List Descriptor)) → kept memory false o ≡ sound memory o
all_kept memory None = refl
all_kept memory (Some c) = either (list_all (is_buffer memory) c)
  where
    either : (b : Bool) → (if (b && true) && is_ordered c then Some c else None) ≡ (if b && is_ordered c then Some c else None)
    either true = refl
    either false = refl

-- the walk from the head at a position gives the chain there
walked_is : (indirect : Bool) (mem : List ℕ) (l : Layout) (pos : ℕ) → walked (named_walked indirect mem) mem (ring_table l) l.size false (available mem l pos) ≡ chain_at indirect mem l pos
unfolding chain_at
walked_is indirect mem l pos =
    walked_tests (named_walked indirect mem) (named_buffers indirect mem) mem (named_alike indirect mem) (ring_table l) l.size false (available mem l pos)
    ∙ all_kept (length mem) (followed (named_buffers indirect mem) mem (ring_table l) l.size (available mem l pos))

-- the same under its head
pub walked_chain : (indirect : Bool) (mem : List ℕ) (l : Layout) (pos head : ℕ) → head ≡ available mem l pos
    → under_head head (walked (named_walked indirect mem) mem (ring_table l) l.size false head) ≡ chain_buffers indirect mem l pos
walked_chain indirect mem l pos head is =
    ap (λ (h : ℕ). under_head h (walked (named_walked indirect mem) mem (ring_table l) l.size false h)) is
    ∙ ap (under_head (available mem l pos)) (walked_is indirect mem l pos)

-- ---- its buffers lie in the memory

first_both : (a b : Bool) → (a && b) ≡ true → (a ≡ true) × (b ≡ true)
first_both true true h = (refl, refl)
first_both true false h = cc
first_both false b h = cc

buffers_inside : (memory : ℕ) (c : List Descriptor) → list_all (is_buffer memory) c ≡ true → LieIn memory c
buffers_inside memory [] h = refl
buffers_inside memory (d ∷ ds) h =
    let p = first_both (is_buffer memory d) (list_all (is_buffer memory) ds) h in
    let q = first_both (is_inside memory d) (not (is_indirect d)) p.0 in
    rw (q.0, buffers_inside memory ds p.1) refl

parts_inside : (indirect : Bool) (mem : List ℕ) (l : Layout) (pos : ℕ) (v : Buffers) (o : Option (List Descriptor)) → chain_at indirect mem l pos ≡ o → Some v ≡ under_head (available mem l pos) o → LieIn (length mem) v.parts
parts_inside indirect mem l pos v None e h = cc
parts_inside indirect mem l pos v (Some c) e h =
    let is : v ≡ record { head = available mem l pos; parts = c } = cc in
    let chain = found_is_chain indirect mem l pos c e in
    subst (λ (b : Buffers). LieIn (length mem) b.parts) (sym is) (buffers_inside (length mem) c chain.buffers)

pub chain_inside : (indirect : Bool) (mem : List ℕ) (l : Layout) (pos : ℕ) (v : Buffers) → Some v ≡ chain_buffers indirect mem l pos → LieIn (length mem) v.parts
chain_inside indirect mem l pos v h = parts_inside indirect mem l pos v (chain_at indirect mem l pos) refl h

pub found_inside : (indirect : Bool) (mem : List ℕ) (l : Layout) (pos : ℕ) (o : Option Buffers) → o ≡ chain_buffers indirect mem l pos → IfSome o (λ v. LieIn (length mem) v.parts)
found_inside indirect mem l pos None h = tt
found_inside indirect mem l pos (Some v) h = chain_inside indirect mem l pos v h

-- the buffers under a head, where the walk along the ring's table has ended
onto_none : (o : Option (List Descriptor)) → onto [] o ≡ o
onto_none None = refl
onto_none (Some ds) = refl

pub ring_walked : (indirect : Bool) (mem : List ℕ) (l : Layout) (pos head : ℕ) (first new : Buffers) (t : Table) (end : End) → head ≡ available mem l pos → first ≡ record { head = head; parts = [] } → t ≡ ring_table l
    → ((own : Bool → Descriptor → Option (List Descriptor)) → reached own end new.parts ≡ onto first.parts (walked own mem t t.count (any_written first.parts) head)) → new.head ≡ first.head
    → under_head new.head (reached (named_walked indirect mem) end new.parts) ≡ chain_buffers indirect mem l pos
ring_walked indirect mem l pos head first new t end is begins ring went stays =
    ap (λ (h : ℕ). under_head h (reached (named_walked indirect mem) end new.parts)) (stays ∙ ap (λ (b : Buffers). b.head) begins)
    ∙ ap (under_head head) (went (named_walked indirect mem))
    ∙ ap (λ (b : Buffers). under_head head (onto b.parts (walked (named_walked indirect mem) mem t t.count (any_written b.parts) head))) begins
    ∙ ap (under_head head) (onto_none (walked (named_walked indirect mem) mem t t.count false head))
    ∙ ap (λ (r : Table). under_head head (walked (named_walked indirect mem) mem r r.count false head)) ring
    ∙ walked_chain indirect mem l pos head is
