use Rattle.rma_round.proofs.EdgeLemmas.{edge_is, edge_has}
use Rattle.rma_round.proofs.laws.edges_are_of_rounds.Goals as goal

pub returns : goal.returns
returns c = λ ranks edge. (edge_is ranks edge, edge_has ranks edge)
