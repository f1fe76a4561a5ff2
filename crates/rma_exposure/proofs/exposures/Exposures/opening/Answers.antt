use Rattle.std.proofs.Common.{sym}
use Rattle.rma_exposure.specs.inside.Epochs.{kept_of}
use Rattle.rma_exposure.proofs.EpochLemmas.{none_kept}
use Rattle.rma_exposure.proofs.exposures.Exposures.opening.Goals as goal

pub returns-in-None : goal.returns-in-None
returns-in-None c = λ calls are.
    let rank = c.args.rank.0 in
    let have = none_kept (calls rank) (kept_of c.args.self.now.ranks.entries rank) c.in-None.ensures.value (are rank) c.args.side in
    sym (have.openers_are c.args.number)
