use Rattle.rma_exposure.specs.declared.side.Side.TheVariants.{Exposure, Access}
use Rattle.rma_exposure.proofs.rank_epochs.RankEpochs.new.Goals as goal

pub returns : goal.returns
returns c = λ calls have. record { posts_are = c.new.ensures Exposure calls (have Exposure); starts_are = c.new-2.ensures Access calls (have Access) }
