use Rattle.rma_round.proofs.EdgeLemmas.{edges_are_within}
use Rattle.rma_round.proofs.MeetLemmas.{meets_are_within}
use Rattle.rma_round.proofs.laws.round_links_are_within.Goals as goal

pub returns-clause-edges : goal.returns-clause-edges
returns-clause-edges c = edges_are_within

pub returns-clause-meets : goal.returns-clause-meets
returns-clause-meets c = meets_are_within
