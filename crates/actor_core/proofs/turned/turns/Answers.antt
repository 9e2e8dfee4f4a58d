use Rattle.actor_core.proofs.turned.turns.Goals as goal

pub returns-in-Brings-clause-doing : goal.returns-in-Brings-clause-doing
returns-in-Brings-clause-doing c = c.brought.ensures.doing

pub returns-in-Empties-clause-doing : goal.returns-in-Empties-clause-doing
returns-in-Empties-clause-doing c = rw c.in-Empties.is c.emptied.ensures.doing

pub returns-in-Hosts-clause-doing : goal.returns-in-Hosts-clause-doing
returns-in-Hosts-clause-doing c = rw c.in-Hosts.is c.hosted.ensures.doing

pub returns-in-Steps-clause-doing : goal.returns-in-Steps-clause-doing
returns-in-Steps-clause-doing c = rw c.in-Steps.is (c.stepped.ensures.doing c.in-Steps.member c.in-Steps.queue)
