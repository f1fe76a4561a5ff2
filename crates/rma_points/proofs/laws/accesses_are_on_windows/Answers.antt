use Rattle.rma_points.proofs.AccessLemmas.{on_windows}
use Rattle.rma_points.proofs.laws.accesses_are_on_windows.Goals as goal

pub returns : goal.returns
returns c = on_windows
