use Rattle.rma_points.proofs.AskedLemmas.{may_be_asked}
use Rattle.rma_points.proofs.laws.accesses_may_be_asked.Goals as goal

pub returns : goal.returns
returns c = λ ranks spans a b run are has also. may_be_asked ranks run spans are a b has also
