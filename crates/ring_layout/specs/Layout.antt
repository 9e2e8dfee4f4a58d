-- Where a legacy split virtqueue lies: VIRTIO 1.3, 2.7.2, where the alignment is 4,096 bytes.
use Rattle.std.specs.Prelude.{◌≡◌, ℕ, ◌+◌, ◌-◌, ◌*◌, ◌/◌, ◌==◌, nat_lt, true, ◌||◌, Option, None, Some, if◌then◌else◌}
use Rattle.byte_fields.specs.Sizes.{is_queue_size, page_size}
use Rattle.ring_layout.specs.declared.layout.Layout.{Layout}

-- the next multiple of the page size
abbrev pub next_page : ℕ → ℕ
next_page n = (n + (page_size - 1)) / page_size * page_size

-- 2.7.2: the table with 16 bytes a descriptor; right behind it flags, index, two bytes an entry and the event; from the
-- next page on flags, index, eight bytes an element and the event
abbrev pub layout_at : ℕ → ℕ → Layout
layout_at page size =
    let avail : ℕ = page_size * page + 16 * size in
    let used : ℕ = next_page (avail + 2 * (3 + size)) in
    record { table = page_size * page; avail = avail; used = used; end = used + 6 + 8 * size; size = size }

-- the ring of a size at a page, which has to lie in a memory of a length; page 0 names none
abbrev pub legacy_layout : ℕ → ℕ → ℕ → Option Layout
legacy_layout page size memory =
    if (page == 0) || nat_lt memory (layout_at page size).end then None else Some (layout_at page size)

-- the layout is that of a ring in a memory of this length; of this project
pub record LiesIn (memory : ℕ) (l : Layout) : Type 0 where
  pub page : ℕ
  pub size : is_queue_size l.size ≡ true
  pub made : legacy_layout page l.size memory ≡ Some l
