use Rattle.rma_log.proofs.OutcomeLemmas.{outcome}
use Rattle.rma_log.proofs.laws.every_log_has_an_outcome.Goals as goal

pub returns : goal.returns
returns c = outcome
