-- A queue's vector is 2 at most, or none, in any history.
use Rattle.std.proofs.Common.{◌≡◌, ℕ, zero, suc, ◌+◌, ◌≤◌, Bool, true, false, cond, List, [], ◌∷◌, Option, Some, None, refl, ap, ◌∙◌, arith}
use Rattle.std.specs.Prelude.{◌==◌, ◌||◌, nat_le, map, length, slice_index_or}
use Rattle.std.proofs.lemmas.Bool.Decides.{nat_tests}
use Rattle.byte_fields.specs.Places.{le16, bytes_of}
use Rattle.legacy_regs.specs.declared.device.Kind.{Kind}
use Rattle.legacy_regs.specs.declared.device.Kind.TheVariants.{Block, Net}
use Rattle.legacy_regs.specs.declared.accesses.Space.TheVariants.{Common}
use Rattle.legacy_regs.specs.declared.interrupts.Irq.TheVariants.{Silent, Isr, Vector}
use Rattle.legacy_regs.specs.Fields.{FieldPlace, touches, queue_vector_field}
use Rattle.legacy_regs.specs.Registers.{Registers, no_vector, queue_numbers, queue_count, queue_vector as kept_of}
use Rattle.legacy_regs.specs.Accesses.{bytes_put, kept_vector}
use Rattle.legacy_regs.specs.Interrupts.{vector_irq, queue_irq}
use Rattle.group_calls.specs.MemberEntries.{MemberEntry, RegisterWrite, done_write, since_reset}
use Rattle.group_calls.specs.MemberRegisters.{selected, vector_after, vector_left, queue_vector, registers_after}
use Rattle.group_calls.proofs.RegisterSteps.{registers_after-is}
use Rattle.lone_device.specs.Entries.{IsSmall}

-- a vector that was kept is 2 at most, or none
abbrev pub is_small : ℕ → Bool
is_small vector = nat_le vector 2 || (vector == no_vector)

abbrev pub AreSmall : Registers → Type 0
AreSmall r = (q : ℕ) → is_small (kept_of r q) ≡ true

kept_small : (queues vector : ℕ) → queues ≤ 2 → is_small (kept_vector queues vector) ≡ true
kept_small queues vector few = go (nat_le (queues + 1) vector) refl
  where
    go : (b : Bool) → nat_le (queues + 1) vector ≡ b → is_small (cond b no_vector vector) ≡ true
    go true large = refl
    go false small = grind (arith, nat_tests, few, small)

put_small : (queues : ℕ) (field : FieldPlace) (w : Option RegisterWrite) (vector : ℕ) → queues ≤ 2 → is_small vector ≡ true → is_small (vector_after queues field w vector) ≡ true
put_small queues field None vector few small = small
put_small queues field (Some w) vector few small = go (touches field w.offset (length w.bytes))
  where
    go : (b : Bool) → is_small (cond b (kept_vector queues (le16 0 (bytes_put field.offset w.offset w.bytes (bytes_of 2 vector)))) vector) ≡ true
    go true = kept_small queues (le16 0 (bytes_put field.offset w.offset w.bytes (bytes_of 2 vector))) few
    go false = small

left_small : (queues : ℕ) (field : FieldPlace) (own : List MemberEntry → Bool) (run : List MemberEntry) → queues ≤ 2 → is_small (vector_left queues field own run) ≡ true
left_small queues field own [] few = refl
left_small queues field own (e ∷ run) few = go (own run) (left_small queues field own run few)
  where
    go : (b : Bool) → is_small (vector_left queues field own run) ≡ true
        → is_small (cond b (vector_after queues field (done_write Common e) (vector_left queues field own run)) (vector_left queues field own run)) ≡ true
    go true small = put_small queues field (done_write Common e) (vector_left queues field own run) few small
    go false small = small

few_queues : (kind : Kind) → queue_count kind ≤ 2
few_queues (Block sectors read_only) = omega arith
few_queues (Net mac) = omega arith

vectors_small : (kind : Kind) (run : List MemberEntry) (q : ℕ) → is_small (slice_index_or (map (queue_vector kind run) (queue_numbers kind)) q no_vector) ≡ true
vectors_small (Block sectors read_only) run zero = left_small 1 queue_vector_field (λ past. 0 == selected past) run (omega arith)
vectors_small (Block sectors read_only) run (suc q) = refl
vectors_small (Net mac) run zero = left_small 2 queue_vector_field (λ past. 0 == selected past) run (omega arith)
vectors_small (Net mac) run (suc zero) = left_small 2 queue_vector_field (λ past. 1 == selected past) run (omega arith)
vectors_small (Net mac) run (suc (suc q)) = refl

pub are_small : (kind : Kind) (h : List MemberEntry) → AreSmall (registers_after kind h)
are_small kind h q = ap (λ r. is_small (kept_of r q)) (registers_after-is kind h) ∙ vectors_small kind (since_reset h) q

vector_is_small : (vector : ℕ) → is_small vector ≡ true → IsSmall (vector_irq vector)
vector_is_small vector small = go (vector == no_vector) refl
  where
    go : (b : Bool) → (vector == no_vector) ≡ b → IsSmall (cond b Silent (Vector vector))
    go true none = tt
    go false some = grind (arith, nat_tests, small, some)

pub irq_is_small : (r : Registers) (q : ℕ) → is_small (kept_of r q) ≡ true → IsSmall (queue_irq r q)
irq_is_small r q small = go r.msix
  where
    go : (b : Bool) → IsSmall (cond b (vector_irq (kept_of r q)) Isr)
    go true = vector_is_small (kept_of r q) small
    go false = tt
