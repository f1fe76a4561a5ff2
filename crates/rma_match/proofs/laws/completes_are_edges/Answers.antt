use Rattle.rma_match.proofs.CompleteLemmas.{complete_is, complete_has}
use Rattle.rma_match.proofs.laws.completes_are_edges.Goals as goal

pub returns-clause-only : goal.returns-clause-only
returns-clause-only c = λ ranks in_order own number point has. complete_is ranks in_order own number point has

pub returns-clause-all : goal.returns-clause-all
returns-clause-all c = λ ranks in_order own number point has. complete_has ranks in_order own number point has
