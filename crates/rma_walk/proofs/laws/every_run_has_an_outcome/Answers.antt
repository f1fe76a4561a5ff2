use Rattle.rma_walk.proofs.ExistenceLemmas.{outcome_exists}
use Rattle.rma_walk.proofs.laws.every_run_has_an_outcome.Goals as goal

pub returns : goal.returns
returns c = outcome_exists
