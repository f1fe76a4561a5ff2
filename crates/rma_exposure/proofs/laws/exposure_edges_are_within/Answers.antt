use Rattle.rma_exposure.proofs.EdgeLemmas.{edges_are_within}
use Rattle.rma_exposure.proofs.laws.exposure_edges_are_within.Goals as goal

pub returns : goal.returns
returns c = edges_are_within
