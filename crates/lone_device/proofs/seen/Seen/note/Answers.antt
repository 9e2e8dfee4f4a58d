use Rattle.std.proofs.Common.{sym, subst}
use Rattle.lone_device.proofs.Results.{OnOk-then}
use Rattle.lone_device.proofs.Noting.{IsAccess, noted_access, noted_call}
use Rattle.lone_device.proofs.seen.Seen.note.Goals as goal

pub returns-in-Read-default : goal.returns-in-Read-default
returns-in-Read-default c = λ made items at stands replied.
    OnOk-then c.note_access.result c.note_access.ensures (λ notes.
    noted_access made c.args.self.now c.note_access.new.self items c.args.item.now c.args.at at stands c.read_access.result
    (subst IsAccess (sym c.in-Read-default.is-0) tt) (rw c.in-Read-default.is-0 c.read_access.ensures) notes)

pub returns-in-Write-default : goal.returns-in-Write-default
returns-in-Write-default c = λ made items at stands replied.
    let note = c.note_access-in-Write-default in
    OnOk-then note.result note.ensures (λ notes.
    noted_access made c.args.self.now note.new.self items c.args.item.now c.args.at at stands c.write_access.result
    (subst IsAccess (sym c.in-Write-default.is-0) tt) (rw c.in-Write-default.is-0 c.write_access.ensures) notes)

pub returns-in-Other-Other : goal.returns-in-Other-Other
returns-in-Other-Other c = λ made items at stands replied.
    OnOk-then c.note_call.result c.note_call.ensures (λ notes.
    noted_call made c.args.self.now c.note_call.new.self items c.args.item.now c.args.at at stands c.in-Other-Other.call c.in-Other-Other.reply c.in-Other-Other.is-0 c.in-Other-Other.is-1 replied notes)
