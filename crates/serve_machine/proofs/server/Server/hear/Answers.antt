use Rattle.std.proofs.Common.{rules, ◌≡◌}
use Rattle.serve_machine.specs.Service.{after}
use Rattle.serve_machine.proofs.Limits.{stage_few}
use Rattle.serve_machine.proofs.Short.{stage_short}
use Rattle.serve_machine.proofs.server.Server.hear.Goals as goal

pub put_completing-requires-clause-short : goal.put_completing-requires-clause-short
put_completing-requires-clause-short c = stage_short c.args.self.now.queue c.args.self.now.stage c.args.told.now c.requires

pub invariant_of-self : goal.invariant_of-self
invariant_of-self c =
    let same : c.put_after_pop.new.stage ≡ after c.args.self.now.stage c.args.told.now = search rules in
    record { few_writable = rw same (stage_few c.args.self.now.queue c.args.self.now.stage c.args.told.now c.args.self.now.few_writable c.requires) }
