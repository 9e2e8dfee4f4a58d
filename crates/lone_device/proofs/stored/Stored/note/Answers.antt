use Rattle.std.proofs.Common.{sym, subst}
use Rattle.lone_device.proofs.Results.{three-then}
use Rattle.lone_device.proofs.Noting.{IsAccess}
use Rattle.lone_device.proofs.Storing.{noted_access, call_fits, noted_call}
use Rattle.lone_device.proofs.stored.Stored.note.Goals as goal

pub returns-in-Other-Other-clause-holds : goal.returns-in-Other-Other-clause-holds
returns-in-Other-Other-clause-holds c = λ made items stands holds replied.
    let d = c.args.self.now in
    let s = c.args.seen.now in
    let item = c.args.item.now in
    let told = c.in-Other-Other in
    three-then c.note_call.result
    (c.note_call.ensures.memory (call_fits made d s items item told.call told.reply stands holds told.is-0 told.is-1 replied)) c.note_call.ensures.disk c.note_call.ensures.made
    (λ memory disk stays. noted_call made d s items item told.call told.reply stands holds told.is-0 told.is-1 replied c.note_call.new.self memory disk stays)

pub returns-in-Read-default-clause-holds : goal.returns-in-Read-default-clause-holds
returns-in-Read-default-clause-holds c = λ made items stands holds replied.
    noted_access made c.args.self.now items c.args.item.now (subst IsAccess (sym c.in-Read-default.is-0) tt) holds

pub returns-in-Write-default-clause-holds : goal.returns-in-Write-default-clause-holds
returns-in-Write-default-clause-holds c = λ made items stands holds replied.
    noted_access made c.args.self.now items c.args.item.now (subst IsAccess (sym c.in-Write-default.is-0) tt) holds
