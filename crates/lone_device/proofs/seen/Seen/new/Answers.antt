use Rattle.std.proofs.Common.{◌∷◌, [], refl, sym, ap, ◌∙◌, arith}
use Rattle.legacy_regs.specs.Registers.{Bank, initial_registers}
use Rattle.lone_device.proofs.Standing.{registers_after-start}
use Rattle.lone_device.proofs.seen.Seen.new.Goals as goal

pub returns : goal.returns
returns c = λ made kind. record {
  kind = sym kind;
  bank = ap (λ (b : Bank). b.kind) c.new.ensures ∙ sym kind;
  registers = ap (λ (b : Bank). b.registers) c.new.ensures ∙ ap initial_registers (sym kind) ∙ sym (registers_after-start made.kind);
  msix = refl;
  queues = λ i. c.new-2.ensures i ∷ c.new-3.ensures i ∷ [];
  kept = c.new-4.ensures.kept;
  left = c.new-4.ensures.left;
  few = (let none = c.new-4.ensures.left in omega arith);
  raised = refl;
  killed = refl;
  floor = refl;
}
