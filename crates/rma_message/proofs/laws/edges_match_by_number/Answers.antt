use Rattle.rma_message.proofs.NumberedLemmas.{edge_by_number, edge_of_number}
use Rattle.rma_message.proofs.laws.edges_match_by_number.Goals as goal

pub returns : goal.returns
returns c = λ m edge. (edge_by_number m edge, edge_of_number m edge)
