use Rattle.rma_exposure.proofs.EdgeLemmas.{edge_is, edge_has}
use Rattle.rma_exposure.proofs.laws.edges_are_of_matches.Goals as goal

pub returns-clause-only : goal.returns-clause-only
returns-clause-only c = edge_is

pub returns-clause-all : goal.returns-clause-all
returns-clause-all c = edge_has
