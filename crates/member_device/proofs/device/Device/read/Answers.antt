use Rattle.member_device.specs.Device.{Holdings}
use Rattle.member_device.proofs.Accesses.{with_registers, registers_read, waiting_read}
use Rattle.member_device.proofs.device.Device.read.Goals as goal

pub returns-clause-left : goal.returns-clause-left
returns-clause-left c = rw (← c.self.view_is)
    (let v = c.self.inside in
    let d : Holdings = record { made = v.made; registers = v.regs.registers; memory = v.memory; disk = v.disk; waiting = v.backlog } in
    with_registers d _ _ _ _
    (registers_read v.regs c.note_read.new.self v.made.kind c.args.space c.args.offset c.args.length c.in_ok-answer.answer.told c.as_slice.result.now c.in_ok-answer.ensures.told c.note_read.ensures)
    (waiting_read c.args.space c.args.offset c.args.length c.in_ok-answer.answer.told c.as_slice.result.now v.backlog c.in_ok-answer.ensures.told))
