-- A ring that lies in a memory.
use Rattle.std.proofs.Common.{◌≡◌, ℕ, ◌^◌, ◌≤◌, ◌<◌, Bool, true, false, refl, sym, ap, subst, arith, None, Some}
use Rattle.std.specs.Prelude.{◌==◌, ◌||◌, nat_lt, if◌then◌else◌}
use Rattle.std.proofs.lemmas.Bool.Decides.{nat_tests}
use Rattle.std.proofs.lemmas.Grind.{common_steps}
use Rattle.ring_layout.specs.declared.layout.Layout.{Layout}
use Rattle.ring_layout.specs.declared.table.Table.{Table}
use Rattle.byte_fields.specs.Sizes.{is_queue_size}
use Rattle.ring_layout.specs.Layout.{LiesIn, layout_at, legacy_layout}
use Rattle.ring_layout.specs.Chain.{ring_table, TableLiesIn}

made : (page size memory : ℕ) → ¬ (page ≡ 0) → (layout_at page size).end ≤ memory → legacy_layout page size memory ≡ Some (layout_at page size)
made page size memory some fits =
    let t : (page == 0) ≡ false = grind (arith, nat_tests, some) in
    let u : nat_lt memory (layout_at page size).end ≡ false = grind (arith, nat_tests, fits) in
    rw (t, u) refl

pub lies : (page size memory : ℕ) (l : Layout) → is_queue_size size ≡ true → ¬ (page ≡ 0) → l.end ≤ memory → l ≡ layout_at page size → LiesIn memory l
lies page size memory l ring some fits is =
    let fits' : (layout_at page size).end ≤ memory = subst (λ (x : Layout). x.end ≤ memory) is fits in
    let whole : LiesIn memory (layout_at page size) = record { page = page; size = ring; made = made page size memory some fits' } in
    subst (LiesIn memory) (sym is) whole

-- the ring's own table lies in the memory
whole_by : (memory page size : ℕ) (l : Layout) (none small : Bool) → (page == 0) ≡ none → nat_lt memory (layout_at page size).end ≡ small → (if none || small then None else Some (layout_at page size)) ≡ Some l → (l ≡ layout_at page size) × ((layout_at page size).end ≤ memory)
whole_by memory page size l true small t u h = cc
whole_by memory page size l false true t u h = cc
whole_by memory page size l false false t u h = (cc, grind (arith, nat_tests, u))

most_of_ring : (size : ℕ) → is_queue_size size ≡ true → size ≤ 256
most_of_ring size ring = grind (arith, nat_tests, common_steps, ring)

pub table_lies : (memory : ℕ) (l : Layout) (t : Table) → LiesIn memory l → l.table < 2 ^ 64 → t ≡ ring_table l → TableLiesIn memory t
table_lies memory l t lies small is =
    let p = whole_by memory lies.page l.size l (lies.page == 0) (nat_lt memory (layout_at lies.page l.size).end) refl refl lies.made in
    let at : l.table ≡ (layout_at lies.page l.size).table = ap (λ (x : Layout). x.table) p.0 in
    let fits = p.1 in
    let most = most_of_ring l.size lies.size in
    let whole : TableLiesIn memory (ring_table l) = record { inside = omega (arith, at, fits); small = omega (arith, at, small, most) } in
    subst (TableLiesIn memory) (sym is) whole
