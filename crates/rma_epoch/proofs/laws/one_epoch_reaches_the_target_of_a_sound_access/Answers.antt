use Rattle.rma_epoch.proofs.OneLemmas.{one_reaches}
use Rattle.rma_epoch.proofs.laws.one_epoch_reaches_the_target_of_a_sound_access.Goals as goal

pub returns : goal.returns
returns c = one_reaches
