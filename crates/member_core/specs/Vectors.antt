-- Which vectors a member may raise. The code's own.
use Rattle.std.specs.Prelude.{◌≡◌, ℕ, ◌==◌, ◌≤◌, nat_le, Bool, true, ◌||◌}
use Rattle.legacy_regs.specs.declared.interrupts.Irq.{Irq}
use Rattle.legacy_regs.specs.declared.interrupts.Irq.TheVariants.{Vector}
use Rattle.legacy_regs.specs.Registers.{Registers, no_vector, queue_vector}
use Rattle.group_calls.specs.declared.member.MemberReply.{MemberReply}
use Rattle.group_calls.specs.declared.member.MemberReply.TheVariants.{Served}

-- a vector that was kept is 2 at most, as many as a member has queues, or none
abbrev pub is_small : ℕ → Bool
is_small vector = nat_le vector 2 || (vector == no_vector)

abbrev pub AreSmall : Registers → Type 0
AreSmall r = (q : ℕ) → is_small (queue_vector r q) ≡ true

abbrev pub IsSmall : Irq → Type 0
IsSmall (Vector vector) = vector ≤ 2
IsSmall _ = Unit {0}

-- the reply raises no large vector
abbrev pub HasSmallVector : MemberReply → Type 0
HasSmallVector (Served length irq sent) = IsSmall irq
HasSmallVector _ = Unit {0}
