-- A list of opcodes has the opcodes 0 to 6 exactly where its remainder by 128 is 127.
use Rattle.std.proofs.Common.{◌≡◌, ◌≢◌, ◌⊎◌, inl, inr, ℕ, zero, suc, ◌/◌, ◌%◌, ◌≤◌, true, false, lit≤, arith}
use Rattle.std.specs.Prelude.{◌↔◌, ◌==◌}
use Rattle.std.specs.Int.{bit_at}
use Rattle.std.proofs.lemmas.Bool.Decides.{eqb_tells}

seven : (bits : ℕ) → bits % 2 ≡ 1 → bits / 2 % 2 ≡ 1 → bits / 4 % 2 ≡ 1 → bits / 8 % 2 ≡ 1 → bits / 16 % 2 ≡ 1 → bits / 32 % 2 ≡ 1 → bits / 64 % 2 ≡ 1 → bits % 128 ≡ 127
seven bits zeroth first second third fourth fifth sixth = omega arith

each : (bits : ℕ) → bits % 128 ≡ 127 → (n : ℕ) → n ≤ 6 → bit_at bits n ≡ 1
each bits is zero few = omega arith
each bits is (suc zero) few = omega arith
each bits is (suc (suc zero)) few = omega arith
each bits is (suc (suc (suc zero))) few = omega arith
each bits is (suc (suc (suc (suc zero)))) few = omega arith
each bits is (suc (suc (suc (suc (suc zero))))) few = omega arith
each bits is (suc (suc (suc (suc (suc (suc zero)))))) few = omega arith
each bits is (suc (suc (suc (suc (suc (suc (suc n))))))) few = absurd (omega arith)

all : (bits : ℕ) → ((n : ℕ) → n ≤ 6 → bit_at bits n ≡ 1) → bits % 128 ≡ 127
all bits set =
    let zeroth : bits % 2 ≡ 1 = (let is = set 0 (lit≤ tt) in omega arith) in
    seven bits zeroth (set 1 (lit≤ tt)) (set 2 (lit≤ tt)) (set 3 (lit≤ tt)) (set 4 (lit≤ tt)) (set 5 (lit≤ tt)) (set 6 (lit≤ tt))

pub opcodes : (bits : ℕ) → ((bits % 128 == 127) ≡ true) ↔ ((n : ℕ) → n ≤ 6 → bit_at bits n ≡ 1)
opcodes bits = from (eqb_tells (bits % 128) 127)
  where
    from : (((bits % 128 == 127) ≡ true) × (bits % 128 ≡ 127)) ⊎ (((bits % 128 == 127) ≡ false) × (bits % 128 ≢ 127)) → ((bits % 128 == 127) ≡ true) ↔ ((n : ℕ) → n ≤ 6 → bit_at bits n ≡ 1)
    from (inl is) = (λ e. each bits is.1, λ set. is.0)
    from (inr isnt) = (λ e. absurd (let lacks = isnt.0 in cc), λ set. absurd (isnt.1 (all bits set)))
