use Rattle.guest_laws.proofs.Killing.{disabling_kills, resetting_kills}
use Rattle.guest_laws.proofs.disablings_kill.Goals as goal

pub returns-clause-disabled : goal.returns-clause-disabled
returns-clause-disabled c = disabling_kills

pub returns-clause-reset : goal.returns-clause-reset
returns-clause-reset c = resetting_kills
