use Rattle.rma_cut.proofs.ClosedLemmas.{run_closed}
use Rattle.rma_cut.proofs.laws.a_run_is_a_closed_cut.Goals as goal

pub returns : goal.returns
returns c = run_closed
