use Rattle.std.proofs.Common.{arith, ◌+◌, ◌-◌, ◌*◌, ◌/◌, ap, length, zero}
use Rattle.std.proofs.lemmas.List.{length-replicate}
use Rattle.admin_ring.proofs.Making.{new_host}
use Rattle.admin_ring.proofs.host.Host.new.Goals as goal

pub returns : goal.returns
returns c =
    let end = c.from.ensures in
    let long = ap length c.in_ok-mem.ensures in
    let pages = (((c.in-Some.layout.end + 4096 - 1) / 4096 * 4096) + 512 * c.from.result + 4096 - 1) / 4096 in
    let all = length-replicate (4096 * pages) zero in
    new_host c.args.size c.in-Some.layout c.in_ok-mem.mem c.in_ok-driver.driver pages ((c.in-Some.layout.end + 4096 - 1) / 4096 * 4096)
    c.requires c.in-Some.ensures.value c.in-Some.ensures.inside c.in_ok-mem.ensures (omega arith) (omega arith) (omega (arith, end, long, all)) c.in_ok-driver.ensures.layout c.in_ok-driver.ensures.new
