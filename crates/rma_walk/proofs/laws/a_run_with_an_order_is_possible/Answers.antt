use Rattle.rma_walk.proofs.OutcomeLemmas.{order_possible}
use Rattle.rma_walk.proofs.laws.a_run_with_an_order_is_possible.Goals as goal

pub returns : goal.returns
returns c = order_possible
