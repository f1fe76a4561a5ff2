use Rattle.rma_walk.proofs.ExistenceLemmas.{firsts_exist}
use Rattle.rma_walk.proofs.laws.every_run_has_first_impossible_calls.Goals as goal

pub returns : goal.returns
returns c = firsts_exist
