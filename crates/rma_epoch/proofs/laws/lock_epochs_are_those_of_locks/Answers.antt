use Rattle.rma_epoch.proofs.LockLemmas.{locks_are}
use Rattle.rma_epoch.proofs.laws.lock_epochs_are_those_of_locks.Goals as goal

pub returns : goal.returns
returns c = locks_are
