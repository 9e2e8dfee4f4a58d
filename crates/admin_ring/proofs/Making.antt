-- A new queue.
use Rattle.std.proofs.Common.{◌≡◌, ℕ, ◌+◌, ◌*◌, ◌/◌, ◌≤◌, true, List, length, replicate, get_or, Some, None, arith, refl, sym, ap, ◌∙◌, subst}
use Rattle.std.specs.Prelude.{◌==◌, nat_lt}
use Rattle.byte_fields.specs.Sizes.{is_queue_size}
use Rattle.ring_layout.specs.declared.layout.Layout.{Layout}
use Rattle.ring_layout.specs.Layout.{LiesIn, layout_at, legacy_layout}
use Rattle.ring_layout.proofs.Layouts.{lies as lies_at}
use Rattle.ring_driver.specs.Driver.{Driver}
use Rattle.ring_driver.specs.Between.{Stands, new_ring}
use Rattle.ring_driver.specs.Answers.{IsZero}
use Rattle.ring_driver.proofs.Places.{made_at, size_is}
use Rattle.ring_driver.proofs.New.{zeros}
use Rattle.admin_ring.specs.Host.{IsNewHost}

-- a ring lies in a larger memory too
lies_in : (memory larger : ℕ) (l : Layout) → LiesIn memory l → l.end ≤ larger → LiesIn larger l
lies_in memory larger l lies fits =
    let m = made_at lies.page l.size memory l lies.made (lies.page == 0) (nat_lt memory (layout_at lies.page l.size).end) refl refl in
    lies_at lies.page l.size larger l lies.size m.1 fits m.0

-- the ring at page 1 is the one of its size, and ends early
is_layout : (size memory : ℕ) (l : Layout) → Some l ≡ legacy_layout 1 size memory → l ≡ layout_at 1 size
is_layout size memory l is = (made_at 1 size memory l (sym is) (1 == 0) (nat_lt memory (layout_at 1 size).end) refl refl).0

ends_early : (size : ℕ) → size ≤ 256 → (layout_at 1 size).end ≤ 20000
ends_early size most = omega arith

pub new_host : (size : ℕ) (layout : Layout) (mem : List ℕ) (driver : Driver) (pages slots : ℕ)
    → is_queue_size size ≡ true → Some layout ≡ legacy_layout 1 size 262144 → LiesIn 262144 layout → mem ≡ replicate (4096 * pages) 0 → layout.end ≤ slots → slots ≤ layout.end + 4095 → slots + 512 * (size / 2) ≤ length mem
    → driver.layout ≡ layout → ((m : List ℕ) → LiesIn (length m) layout → IsZero layout m → Stands m driver new_ring)
    → IsNewHost size (record { mem = mem; layout = layout; slots = slots; driver = driver; serving = None })
new_host size layout mem driver pages slots ring made lies zero behind near inside driven stands =
    let is = is_layout size 262144 layout made in
    let e : layout.size ≡ size = ap (λ (l : Layout). l.size) is in
    let half : layout.size / 2 ≡ size / 2 = ap (λ (n : ℕ). n / 2) e in
    let most = (size_is size ring).most in
    let early : layout.end ≤ 20000 = subst (λ (l : Layout). l.end ≤ 20000) (sym is) (ends_early size most) in
    record {
      host = record {
        size = ap is_queue_size e ∙ ring;
        driven = driven;
        behind = behind;
        inside = omega (arith, half, inside);
        small = omega (arith, half, most, early, near);
      };
      size_is = e;
      ring = record {
        stands = stands mem (lies_in 262144 (length mem) layout lies (omega arith)) (λ k low high. ap (λ (m : List ℕ). get_or m k 0) zero ∙ zeros (4096 * pages) k 0);
        held = refl;
        done = refl;
      };
      idle = refl;
    }
