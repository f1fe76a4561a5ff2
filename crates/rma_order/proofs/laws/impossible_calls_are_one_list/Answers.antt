use Rattle.rma_order.proofs.ImpossibleLemmas.{one_impossible}
use Rattle.rma_order.proofs.laws.impossible_calls_are_one_list.Goals as goal

pub returns : goal.returns
returns c = one_impossible
