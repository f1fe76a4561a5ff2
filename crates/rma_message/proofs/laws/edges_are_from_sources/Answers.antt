use Rattle.rma_message.proofs.SourceEdgeLemmas.{edge_has_source}
use Rattle.rma_message.proofs.laws.edges_are_from_sources.Goals as goal

pub returns : goal.returns
returns c = edge_has_source
