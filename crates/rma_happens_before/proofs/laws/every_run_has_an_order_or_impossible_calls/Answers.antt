use Rattle.rma_happens_before.proofs.OrderLemmas.{order_exists}
use Rattle.rma_happens_before.proofs.laws.every_run_has_an_order_or_impossible_calls.Goals as goal

pub returns : goal.returns
returns c = order_exists
