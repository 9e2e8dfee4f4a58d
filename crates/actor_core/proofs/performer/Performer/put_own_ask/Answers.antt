use Rattle.actor_core.proofs.performer.Performer.put_own_ask.Goals as goal

pub returns-in-Steps-clause-ok : goal.returns-in-Steps-clause-ok
returns-in-Steps-clause-ok c = rw c.in-Steps.is (c.put_step.ensures c.args.self.now.who c.args.self.now.driver.known)
