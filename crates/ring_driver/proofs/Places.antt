-- Where a ring lies, and positions modulo its size.
use Rattle.std.proofs.Common.{◌≡◌, ◌≢◌, ℕ, ◌+◌, ◌*◌, ◌%◌, ◌<◌, ◌≤◌, inl, inr, true, false, Bool, Some, None, arith, refl, sym, subst}
use Rattle.std.specs.Prelude.{◌==◌, nat_lt}
use Rattle.std.proofs.lemmas.Bool.Decides.{nat_tests}
use Rattle.std.proofs.lemmas.Bool.{cases_eq}
use Rattle.std.proofs.lemmas.Grind.{common_steps}
use Rattle.ring_layout.specs.declared.layout.Layout.{Layout}
use Rattle.byte_fields.specs.Sizes.{is_queue_size}
use Rattle.ring_layout.specs.Layout.{LiesIn, layout_at, legacy_layout}

-- a property of each ring size
pub of_sizes : (P : ℕ → Type 0) → P 4 → P 8 → P 16 → P 32 → P 64 → P 128 → P 256 → (size : ℕ) → is_queue_size size ≡ true → P size
of_sizes P a b c d e f g size ring = elim (cases_eq size 4) [
  | inl s ↦ subst P (sym s) a
  | inr n4 ↦ elim (cases_eq size 8) [
    | inl s ↦ subst P (sym s) b
    | inr n8 ↦ elim (cases_eq size 16) [
      | inl s ↦ subst P (sym s) c
      | inr n16 ↦ elim (cases_eq size 32) [
        | inl s ↦ subst P (sym s) d
        | inr n32 ↦ elim (cases_eq size 64) [
          | inl s ↦ subst P (sym s) e
          | inr n64 ↦ elim (cases_eq size 128) [
            | inl s ↦ subst P (sym s) f
            | inr n128 ↦ elim (cases_eq size 256) [
              | inl s ↦ subst P (sym s) g
              | inr n256 ↦ absurd (none_left size n4 n8 n16 n32 n64 n128 n256 ring)
            ]
          ]
        ]
      ]
    ]
  ]
]
  where
    none_left : (size : ℕ) → size ≢ 4 → size ≢ 8 → size ≢ 16 → size ≢ 32 → size ≢ 64 → size ≢ 128 → size ≢ 256 → is_queue_size size ≡ true → ⊥
    none_left size n4 n8 n16 n32 n64 n128 n256 ring = grind (arith, nat_tests, common_steps, ring, n4, n8, n16, n32, n64, n128, n256)

-- a ring's size is even, from 4 to 256
pub record IsSize (size : ℕ) : Type 0 where
  pub least : 4 ≤ size
  pub most : size ≤ 256
  pub even : size % 2 ≡ 0

pub size_is : (size : ℕ) → is_queue_size size ≡ true → IsSize size
size_is size ring = of_sizes IsSize (record { least = omega arith; most = omega arith; even = refl }) (record { least = omega arith; most = omega arith; even = refl }) (record { least = omega arith; most = omega arith; even = refl })
    (record { least = omega arith; most = omega arith; even = refl }) (record { least = omega arith; most = omega arith; even = refl }) (record { least = omega arith; most = omega arith; even = refl }) (record { least = omega arith; most = omega arith; even = refl }) size ring

-- positions run modulo 65,536, and that is as good as without end
pub wraps : (n size : ℕ) → is_queue_size size ≡ true → (n % 65536) % size ≡ n % size
wraps n size ring = of_sizes (λ s. (n % 65536) % s ≡ n % s) (omega arith) (omega arith) (omega arith) (omega arith) (omega arith) (omega arith) (omega arith) size ring

-- positions that are less than a ring apart have entries of their own
pub apart : (n k size : ℕ) → is_queue_size size ≡ true → 0 < k → k < size → n % size ≢ (n + k) % size
apart n k size ring some few = of_sizes (λ s. k < s → n % s ≢ (n + k) % s) (λ f e. omega arith) (λ f e. omega arith) (λ f e. omega arith) (λ f e. omega arith) (λ f e. omega arith) (λ f e. omega arith) (λ f e. omega arith) size ring few

-- the parts of a ring, one behind the other
pub record IsPlaced (memory : ℕ) (l : Layout) : Type 0 where
  pub size : IsSize l.size
  pub table : 4096 ≤ l.table
  pub avail : l.avail ≡ l.table + 16 * l.size
  pub used : l.avail + 6 + 2 * l.size ≤ l.used
  pub end : l.end ≡ l.used + 6 + 8 * l.size
  pub inside : l.end ≤ memory

pub made_at : (page size memory : ℕ) (l : Layout) → legacy_layout page size memory ≡ Some l → (a b : Bool) → (page == 0) ≡ a → nat_lt memory (layout_at page size).end ≡ b → (l ≡ layout_at page size) × (page ≢ 0) × ((layout_at page size).end ≤ memory)
made_at page size memory l made true b e f = let no : None ≡ Some l = simp (e, f) at made in cc
made_at page size memory l made false true e f = let no : None ≡ Some l = simp (e, f) at made in cc
made_at page size memory l made false false e f =
    let is : Some (layout_at page size) ≡ Some l = simp (e, f) at made in
    (cc, grind (arith, nat_tests, e), grind (arith, nat_tests, f))

placed_at : (page size memory : ℕ) → IsSize size → page ≢ 0 → (layout_at page size).end ≤ memory → IsPlaced memory (layout_at page size)
placed_at page size memory is some fits = record { size = is; table = omega arith; avail = refl; used = omega arith; end = refl; inside = fits }

pub placed : (memory : ℕ) (l : Layout) → LiesIn memory l → IsPlaced memory l
placed memory l lies =
    let m = made_at lies.page l.size memory l lies.made (lies.page == 0) (nat_lt memory (layout_at lies.page l.size).end) refl refl in
    subst (IsPlaced memory) (sym m.0) (placed_at lies.page l.size memory (size_is l.size lies.size) m.1 m.2)

pub entry_below : (n size : ℕ) → 4 ≤ size → n % size < size
entry_below n size least = omega arith
