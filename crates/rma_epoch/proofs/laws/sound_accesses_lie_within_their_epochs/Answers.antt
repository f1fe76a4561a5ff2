use Rattle.rma_epoch.proofs.WithinLemmas.{lie_within}
use Rattle.rma_epoch.proofs.laws.sound_accesses_lie_within_their_epochs.Goals as goal

pub returns : goal.returns
returns c = lie_within
