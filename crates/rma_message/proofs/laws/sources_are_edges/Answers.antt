use Rattle.rma_message.proofs.SourceEdgeLemmas.{source_is_edge}
use Rattle.rma_message.proofs.laws.sources_are_edges.Goals as goal

pub returns : goal.returns
returns c = source_is_edge
