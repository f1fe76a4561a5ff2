use Rattle.rma_points.proofs.AccessLemmas.{memory_of_run}
use Rattle.rma_points.proofs.laws.memory_is_of_the_run.Goals as goal

pub returns : goal.returns
returns c = λ ranks a run has. memory_of_run ranks run a has
