use Rattle.rma_message.proofs.NumberLemmas.{edges_are_within}
use Rattle.rma_message.proofs.laws.message_edges_are_within.Goals as goal

pub returns : goal.returns
returns c = edges_are_within
