use Rattle.rma_log.proofs.OutcomeLemmas.{one_fault, one_end}
use Rattle.rma_log.proofs.laws.logs_have_one_outcome.Goals as goal

pub returns-clause-fault : goal.returns-clause-fault
returns-clause-fault c = one_fault

pub returns-clause-end : goal.returns-clause-end
returns-clause-end c = one_end
