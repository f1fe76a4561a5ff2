use Rattle.rma_order.proofs.StuckLemmas.{possible_or_told}
use Rattle.rma_happens_before.proofs.laws.no_run_has_both.Goals as goal

pub returns : goal.returns
returns c ranks order calls possible impossible = possible_or_told ranks calls impossible.0 impossible.1 possible.possible
