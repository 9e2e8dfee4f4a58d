-- One step of a walk along a table.
use Rattle.std.proofs.Common.{◌≡◌, ℕ, zero, suc, ◌+◌, ◌<◌, Bool, true, false, List, [], ◌∷◌, ◌++◌, Option, arith, refl, sym, ap, ◌∙◌, subst, Some, None, append_assoc}
use Rattle.std.specs.Prelude.{◌||◌, option_map, if◌then◌else◌}
use Rattle.std.proofs.lemmas.List.Folds.{list_any-append}
use Rattle.ring_layout.specs.declared.descriptor.Descriptor.{Descriptor}
use Rattle.ring_layout.specs.declared.table.Table.{Table}
use Rattle.ring_layout.specs.Chain.{descriptor, has_next, is_written}
use Rattle.ring_device.specs.Follow.{stands, names_there, met_at, walked, onto, any_written}
use Rattle.ring_device.specs.declared.walk.Met.TheVariants.{Buffer, Named, Nothing}

-- ---- what it says that something was met

chosen_buffer : (a b : Bool) (d part : Descriptor) → Buffer part ≡ (if a then Buffer d else if b then Named d else Nothing) → (a ≡ true) × (part ≡ d)
chosen_buffer true b d part h = (refl, cc)
chosen_buffer false true d part h = cc
chosen_buffer false false d part h = cc

chosen_named : (a b : Bool) (d part : Descriptor) → Named part ≡ (if a then Buffer d else if b then Named d else Nothing) → (a ≡ false) × (b ≡ true) × (part ≡ d)
chosen_named true b d part h = cc
chosen_named false true d part h = (refl, refl, cc)
chosen_named false false d part h = cc

chosen_nothing : (a b : Bool) (d : Descriptor) → Nothing ≡ (if a then Buffer d else if b then Named d else Nothing) → (a ≡ false) × (b ≡ false)
chosen_nothing true b d h = cc
chosen_nothing false true d h = cc
chosen_nothing false false d h = (refl, refl)

module _ (mem : List ℕ) (t : Table) (w : Bool) (i : ℕ) where
  abbrev here : Descriptor
  here = descriptor mem t.addr i

  buffer_met : (part : Descriptor) → Buffer part ≡ met_at mem t w i → (stands mem t w i ≡ true) × (part ≡ here)
  buffer_met part h = chosen_buffer (stands mem t w i) (names_there mem t i) here part h

  named_met : (part : Descriptor) → Named part ≡ met_at mem t w i → (stands mem t w i ≡ false) × (names_there mem t i ≡ true) × (part ≡ here)
  named_met part h = chosen_named (stands mem t w i) (names_there mem t i) here part h

  nothing_met : Nothing ≡ met_at mem t w i → (stands mem t w i ≡ false) × (names_there mem t i ≡ false)
  nothing_met h = chosen_nothing (stands mem t w i) (names_there mem t i) here h

-- ---- one with WRITE among the buffers that were met

last_counts : (a b : Bool) → (a || (b || false)) ≡ (a || b)
last_counts a true = refl
last_counts a false = refl

pub any_written-push : (before : List Descriptor) (d : Descriptor) → any_written (before ++ d ∷ []) ≡ (any_written before || is_written d)
any_written-push before d = list_any-append is_written before (d ∷ []) ∙ last_counts (any_written before) (is_written d)

-- ---- a step of the walk

module _ (own : Bool → Descriptor → Option (List Descriptor)) (mem : List ℕ) (t : Table) (w : Bool) (i : ℕ) (before : List Descriptor) where
  -- nothing is met
  stops : (n : ℕ) → Nothing ≡ met_at mem t w i → onto before (walked own mem t n w i) ≡ None
  stops zero h = refl
  stops (suc n) h = let p = nothing_met mem t w i h in rw (p.0, p.1) refl

  -- one that names a table
  names : (n : ℕ) (part : Descriptor) → 0 < n → Named part ≡ met_at mem t w i → onto before (walked own mem t n w i) ≡ onto before (own w part)
  names zero part some h = absurd (omega arith)
  names (suc n) part some h =
      let p = named_met mem t w i part h in
      let there : walked own mem t (suc n) w i ≡ own w (descriptor mem t.addr i) = rw (p.0, p.1) refl in
      ap (onto before) (there ∙ ap (own w) (sym p.2))

  -- the last buffer
  ends : (n : ℕ) (part : Descriptor) → 0 < n → Buffer part ≡ met_at mem t w i → has_next part ≡ false → onto before (walked own mem t n w i) ≡ Some (before ++ part ∷ [])
  ends zero part some h next = absurd (omega arith)
  ends (suc n) part some h next =
      let p = buffer_met mem t w i part h in
      let last : has_next (descriptor mem t.addr i) ≡ false = subst (λ (d : Descriptor). has_next d ≡ false) p.1 next in
      let there : walked own mem t (suc n) w i ≡ Some (descriptor mem t.addr i ∷ []) = rw (p.0, last) refl in
      ap (onto before) there ∙ ap (λ (d : Descriptor). Some (before ++ d ∷ [])) (sym p.1)

  moved : (d : Descriptor) (r : Option (List Descriptor)) → onto before (option_map (λ ds. d ∷ ds) r) ≡ onto (before ++ d ∷ []) r
  moved d None = refl
  moved d (Some ds) = ap Some (sym (append_assoc before (d ∷ []) ds))

  -- one with another behind it
  goes : (n m : ℕ) (part : Descriptor) → n ≡ m + 1 → Buffer part ≡ met_at mem t w i → has_next part ≡ true
      → onto before (walked own mem t n w i) ≡ onto (before ++ part ∷ []) (walked own mem t m (w || is_written part) part.next)
  goes zero m part e h next = absurd (omega arith)
  goes (suc n) m part e h next =
      let p = buffer_met mem t w i part h in
      let same : n ≡ m = omega arith in
      let on : has_next (descriptor mem t.addr i) ≡ true = subst (λ (d : Descriptor). has_next d ≡ true) p.1 next in
      let there : walked own mem t (suc n) w i ≡ option_map (λ ds. descriptor mem t.addr i ∷ ds) (walked own mem t n (w || is_written (descriptor mem t.addr i)) (descriptor mem t.addr i).next)
      = rw (p.0, on) refl in
      ap (onto before) there
      ∙ ap (λ (d : Descriptor). onto before (option_map (λ ds. d ∷ ds) (walked own mem t n (w || is_written d) d.next))) (sym p.1)
      ∙ moved part (walked own mem t n (w || is_written part) part.next)
      ∙ ap (λ (k : ℕ). onto (before ++ part ∷ []) (walked own mem t k (w || is_written part) part.next)) same

-- ---- the same for the loop, which knows what it met and what the walk from the first index gives

module _ (own : Bool → Descriptor → Option (List Descriptor)) (mem : List ℕ) (t : Table) (i n : ℕ) (before : List Descriptor) (whole : Option (List Descriptor))
    (so_far : onto before (walked own mem t n (any_written before) i) ≡ whole) where
  pub walk_stops : Nothing ≡ met_at mem t (any_written before) i → None ≡ whole
  walk_stops h = sym (stops own mem t (any_written before) i before n h) ∙ so_far

  pub walk_is_long : n ≡ 0 → None ≡ whole
  walk_is_long none = ap (λ (k : ℕ). onto before (walked own mem t k (any_written before) i)) (sym none) ∙ so_far

  pub walk_names : (part : Descriptor) → 0 < n → Named part ≡ met_at mem t (any_written before) i → onto before (own (any_written before) part) ≡ whole
  walk_names part some h = sym (names own mem t (any_written before) i before n part some h) ∙ so_far

  pub walk_ends : (part : Descriptor) (parts : List Descriptor) → 0 < n → Buffer part ≡ met_at mem t (any_written before) i → has_next part ≡ false → parts ≡ before ++ part ∷ [] → Some parts ≡ whole
  walk_ends part parts some h next is = ap Some is ∙ sym (ends own mem t (any_written before) i before n part some h next) ∙ so_far

  pub walk_goes : (m : ℕ) (part : Descriptor) (parts : List Descriptor) → n ≡ m + 1 → Buffer part ≡ met_at mem t (any_written before) i → has_next part ≡ true → parts ≡ before ++ part ∷ []
      → onto parts (walked own mem t m (any_written parts) part.next) ≡ whole
  walk_goes m part parts e h next is =
      ap (λ (ds : List Descriptor). onto ds (walked own mem t m (any_written ds) part.next)) is
      ∙ ap (λ (w : Bool). onto (before ++ part ∷ []) (walked own mem t m w part.next)) (any_written-push before part)
      ∙ sym (goes own mem t (any_written before) i before n m part e h next)
      ∙ so_far
