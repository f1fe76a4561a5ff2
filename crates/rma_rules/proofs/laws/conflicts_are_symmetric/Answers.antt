use Rattle.rma_rules.proofs.ForbidsLemmas.{forbids_turned}
use Rattle.rma_rules.proofs.laws.conflicts_are_symmetric.Goals as goal

pub returns : goal.returns
returns c = forbids_turned
