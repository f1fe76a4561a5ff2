use Rattle.rma_rules.proofs.ConflictLemmas.{separated_turned}
use Rattle.rma_rules.proofs.laws.separation_is_symmetric.Goals as goal

pub returns : goal.returns
returns c = separated_turned
