use Rattle.rma_epoch.proofs.EpochLemmas.{closing}
use Rattle.rma_epoch.proofs.placements.close_at.Goals as goal

pub returns : goal.returns
returns c = λ opener up is. closing c.args.epochs.now up opener c.args.number c.args.index c.index-epochs-index.result is
