use Rattle.rma_order.proofs.ImpossibleLemmas.{some_impossible}
use Rattle.rma_order.proofs.laws.every_run_has_impossible_calls.Goals as goal

pub returns : goal.returns
returns c = some_impossible
