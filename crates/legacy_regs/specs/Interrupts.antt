-- The interrupt of a queue, with VIRTIO 1.3 as the standard.
use Rattle.std.specs.Prelude.{ℕ, ◌==◌, if◌then◌else◌}
use Rattle.legacy_regs.specs.declared.interrupts.Irq.{Irq}
use Rattle.legacy_regs.specs.declared.interrupts.Irq.TheVariants.{Silent, Isr, Vector}
use Rattle.legacy_regs.specs.Registers.{Registers, no_vector, queue_vector}

-- no vector is no interrupt: 4.1.5.1.2
abbrev pub vector_irq : ℕ → Irq
vector_irq vector = if vector == no_vector then Silent else Vector vector

-- the queue's vector with MSI-X enabled (4.1.5.1.2), else ISR (4.1.4.5)
abbrev pub queue_irq : Registers → ℕ → Irq
queue_irq r queue = if r.msix then vector_irq (queue_vector r queue) else Isr

-- without MSI-X the interrupt sets bit 0 of ISR: 4.1.4.5
abbrev pub raise_queue : Registers → Registers
raise_queue r = if r.msix then r else record r { isr = 1 }
