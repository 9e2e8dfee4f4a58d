use Rattle.std.proofs.Common.{sym, ◌∙◌}
use Rattle.member_device.specs.Device.{Holdings}
use Rattle.member_device.proofs.Accesses.{with_registers, registers_written, waiting_written}
use Rattle.member_device.proofs.device.Device.write.Goals as goal

pub returns-in-Ok-clause-left : goal.returns-in-Ok-clause-left
returns-in-Ok-clause-left c = rw (← c.self.view_is)
    (let v = c.self.inside in
    let d : Holdings = record { made = v.made; registers = v.regs.registers; memory = v.memory; disk = v.disk; waiting = v.backlog } in
    c.let_go.ensures ∙ with_registers d _ _ _ _
    (registers_written v.regs c.write.new.self v.made.kind c.args.space c.args.offset c.args.bytes.now c.in-Ok.effect c.self.invariant.kind (sym c.in-Ok.is ∙ c.write.ensures.answer) c.write.ensures.registers)
    (waiting_written v.regs c.args.space c.args.offset c.args.bytes.now c.in-Ok.effect v.backlog (sym c.in-Ok.is ∙ c.write.ensures.answer)))
