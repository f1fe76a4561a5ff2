use Rattle.rma_order.proofs.StuckLemmas.{possible_or_told}
use Rattle.rma_order.proofs.laws.impossible_calls_say_that_a_run_is_not_possible.Goals as goal

pub returns : goal.returns
returns c = possible_or_told
