use Rattle.rma_pairs.proofs.RaceLemmas.{turned}
use Rattle.rma_pairs.proofs.laws.races_are_symmetric.Goals as goal

pub returns : goal.returns
returns c = turned
