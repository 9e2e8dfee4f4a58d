use Rattle.std.proofs.Common.{◌≡◌, ◌+◌, ◌-◌, ap, ◌∙◌, arith}
use Rattle.std.specs.List.{slice_get}
use Rattle.script_writer.proofs.Left.{guests_left}
use Rattle.script_writer.proofs.write.put_guests.Goals as goal

pub guests-preserved : goal.guests-preserved
guests-preserved c =
    let place : c.guests.number ≡ c.guests.number + 1 - 1 = omega arith in
    rw c.in_ok-put_guest.ensures
    (guests_left _ c.guests.text c.args.script.now.guests c.guests.number c.setup.result (ap (slice_get c.args.script.now.guests) place ∙ c.setup.ensures.value) c.guests.invariant)
